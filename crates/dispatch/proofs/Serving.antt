-- Orders are taken from queue 0, one after another.
use Rattle.std.proofs.Common.{◌≡◌, ℕ, ◌+◌, ◌<◌, ◌≤◌, Bool, List, [], ◌∷◌, ◌++◌, length, get_or, Some, None, Ok, Option, sym, refl, ap, ◌∙◌, append_assoc, append-nil, arith}
use Rattle.std.proofs.lemmas.List.{get_or-set_same, set-set, set-get_or}
use Rattle.elements.specs.declared.entries.Entry.{Entry}
use Rattle.stores.specs.Meaning.{State, Meaning, WellFormed, list_of}
use Rattle.stores.specs.Calls.{with_list, front, rest, first_answer}
use Rattle.stores.specs.Promises.{Takes}
use Rattle.dispatch.specs.Service.{elements_of}
use Rattle.dispatch.specs.Dispatching.{Served}

-- ys were taken so far, and nothing else changed
pub record Serving {T : Type 0} (le : T → T → Bool) (m : Meaning T) (ys : List T) (n : Meaning T) : Type 0 where
  pub taken : ys ++ elements_of (list_of n.state 0) ≡ elements_of (list_of m.state 0)
  pub after : with_list n.state 0 [] ≡ with_list m.state 0 []
  pub fixed : n.fixed ≡ m.fixed
  pub held : n.held ≤ m.held
  pub formed : WellFormed le m → WellFormed le n

module _ {T : Type 0} where
  front_some : (xs : List (Entry T)) (e : Entry T) → Some e ≡ front xs → xs ≡ e ∷ rest xs
  front_some [] e h = let z : ◌≡◌ {A = ℕ} 0 1 = cc in absurd (omega arith)
  front_some (x ∷ xs) e h = cc

  front_none : (xs : List (Entry T)) → None ≡ front xs → xs ≡ []
  front_none [] h = refl
  front_none (x ∷ xs) h = let z : ◌≡◌ {A = ℕ} 0 1 = cc in absurd (omega arith)

  -- a queue that has an entry is one of the lists
  some_lists : (xss : List (List (Entry T))) (e : Entry T) (es : List (Entry T)) → get_or xss 0 [] ≡ e ∷ es → 0 < length xss
  some_lists [] e es h = let z : ◌≡◌ {A = ℕ} 0 1 = cc in absurd (omega arith)
  some_lists (xs ∷ xss) e es h = omega arith

  answered : (s : State T) (o : Option (Entry T)) → Ok o ≡ first_answer s 0 → o ≡ front (list_of s 0)
  answered s o h = cc

  module _ (le : T → T → Bool) where
    module _ (m n o : Meaning T) (ys : List T) (so_far : Serving le m ys n) where
      module _ (e : Entry T) (p : Takes le n 0 (Ok (Some e)) o) where
        split : list_of n.state 0 ≡ e ∷ rest (list_of n.state 0)
        split = front_some _ e (answered n.state (Some e) p.answer)

        left : list_of o.state 0 ≡ rest (list_of n.state 0)
        left = ap (λ s. list_of s 0) p.after ∙ get_or-set_same n.state.lists 0 _ [] (some_lists n.state.lists e _ split)

        pub serving_more : (zs : List T) → zs ≡ ys ++ e.element ∷ [] → Serving le m zs o
        serving_more zs zs-is = record {
          taken = ap (λ l. l ++ elements_of (list_of o.state 0)) zs-is ∙ append_assoc ys (e.element ∷ []) _ ∙ ap (λ l. ys ++ (e.element ∷ elements_of l)) left ∙ ap (λ l. ys ++ elements_of l) (sym split) ∙ so_far.taken;
          after = ap (λ s. with_list s 0 []) p.after ∙ (λ j. record { lists = set-set n.state.lists 0 (rest (list_of n.state 0)) [] j; next = n.state.next }) ∙ so_far.after;
          fixed = p.fixed ∙ so_far.fixed;
          held = omega (arith, p.held, so_far.held);
          formed = λ _. p.formed;
        }

        pub one_less : length (list_of o.state 0) + 1 ≡ length (list_of n.state 0)
        one_less = omega (arith, ap length left, ap length split)

      pub served : Takes le n 0 (Ok None) o → Served le m ys o
      served p =
          let none = front_none _ (answered n.state None p.answer) in
          record {
            taken = sym (append-nil ys) ∙ ap (λ l. ys ++ elements_of l) (sym none) ∙ so_far.taken;
            after = p.after ∙ sym (λ j. record { lists = set-get_or n.state.lists 0 [] j; next = n.state.next }) ∙ ap (with_list n.state 0) none ∙ so_far.after;
            fixed = p.fixed ∙ so_far.fixed;
            held = omega (arith, p.held, so_far.held);
            formed = λ _. p.formed;
          }
