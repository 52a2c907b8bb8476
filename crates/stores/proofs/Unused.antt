-- While no stamp is issued every queue is empty.
use Rattle.std.proofs.Common.{◌≡◌, ℕ, ◌≤◌, Bool, List, [], ◌∷◌, length, replicate, sum_by, refl, ap, ◌∙◌, arith}
use Rattle.std.proofs.lemmas.List.Sums.{sum_by-cons}
use Rattle.std.proofs.lemmas.Bool.Decides.{nat_tests}
use Rattle.std.proofs.lemmas.Bool.{eq-eqb}
use Rattle.elements.specs.declared.entries.Entry.{Entry}
use Rattle.elements.specs.Order.{stamp_of}
use Rattle.stores.specs.SortedLists.{tally}
use Rattle.stores.specs.Meaning.{Meaning, WellFormed, fresh}

module _ {T : Type 0} where
  empty : (xs : List (Entry T)) → ((k : ℕ) → tally stamp_of xs k ≡ 0) → xs ≡ []
  empty [] h = refl
  empty (x ∷ xs) h = let k = h x.stamp in let i = eq-eqb x.stamp x.stamp refl in absurd (grind (arith, nat_tests))

  all_empty : (xss : List (List (Entry T))) → ((k : ℕ) → sum_by (λ xs. tally stamp_of xs k) xss ≤ 0) → xss ≡ replicate (length xss) []
  all_empty [] h = refl
  all_empty (xs ∷ xss) h =
      let one : xs ≡ [] = empty xs (λ k. omega (arith, h k, sum_by-cons (λ ys. tally stamp_of ys k) xs xss)) in
      let two : xss ≡ replicate (length xss) [] = all_empty xss (λ k. omega (arith, h k, sum_by-cons (λ ys. tally stamp_of ys k) xs xss)) in
      ap (λ ys. ys ∷ xss) one ∙ ap (λ yss. [] ∷ yss) two

  module _ {le : T → T → Bool} (m : Meaning T) (f : WellFormed le m) (unused : m.state.next ≡ 0) where
    pub no_entries : m.state.lists ≡ replicate 32 []
    no_entries = all_empty m.state.lists (λ k. let s = f.stamps k in let n = unused in grind (arith, nat_tests)) ∙ ap (λ n. replicate n []) f.queues

    pub fresh_state : m.state ≡ fresh
    fresh_state = λ i. record { lists = no_entries i; next = unused i }
