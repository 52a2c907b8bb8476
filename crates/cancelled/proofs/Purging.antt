-- The cancelled entries at the front of a queue leave the heap one after the other.
use Rattle.std.proofs.Common.{◌≡◌, ℕ, suc, ◌<◌, Bool, true, false, leb, List, [], ◌∷◌, length, set, Ok, Option, Result, sym, refl, ap, ◌∙◌, arith}
use Rattle.std.proofs.lemmas.List.{set-set, set-get_or, get_or-set_same}
use Rattle.std.proofs.lemmas.Bool.Decides.{nat_tests}
use Rattle.std.proofs.lemmas.Bool.{cond-false, lt-leb}
use Rattle.elements.specs.declared.entries.Entry.{Entry}
use Rattle.stores.specs.declared.refusals.Refusal.{Refusal}
use Rattle.stores.specs.Meaning.{State, Meaning, WellFormed, list_of, count_of}
use Rattle.stores.specs.Calls.{with_list, front, rest, first_answer, take_after}
use Rattle.stores.specs.Promises.{Takes, Bare}
use Rattle.cancelled.specs.Cancelled.{purged, purge_after, front_cancelled, Purges}
use Rattle.cancelled.proofs.Keeping.{purged_rest, purged_all}

module _ {T : Type 0} (marks : List ℕ) (s : State T) (q : ℕ) where
  abbrev others : List (Entry T)
  others = rest (list_of s q)

  -- without its front, the queue is purged to the same
  purge_more : q < length s.lists → front_cancelled marks (list_of s q) ≡ true → (purge_after marks (with_list s q others) q ≡ purge_after marks s q) × (count_of s q ≡ suc (count_of (with_list s q others) q))
  purge_more lt h =
      let k = purged_rest marks (list_of s q) h in
      let i = get_or-set_same s.lists q others [] lt in
      (ap (λ l. record { lists = l; next = s.next }) (set-set s.lists q others _ ∙ ap (set s.lists q) (ap (purged marks) i ∙ k.0)), k.1 ∙ ap (λ l. suc (length l)) (sym i))

  purge_done : front_cancelled marks (list_of s q) ≡ false → s ≡ purge_after marks s q
  purge_done h = sym (ap (λ l. record { lists = l; next = s.next }) (ap (set s.lists q) (purged_all marks (list_of s q) h) ∙ set-get_or s.lists q []))

  -- with a front in the queue, a take answers it
  take_some : (r : Result (Option (Entry T)) Refusal) → q < 32 → front_cancelled marks (list_of s q) ≡ true → r ≡ first_answer s q → take_after s q r ≡ with_list s q others
  take_some r near h is = ap (take_after s q) (is ∙ cond-false (leb 32 q) _ _ (lt-leb 32 q near)) ∙ go (list_of s q) h
    where
      go : (xs : List (Entry T)) → front_cancelled marks xs ≡ true → take_after s q (Ok (front xs)) ≡ with_list s q others
      go [] z = absurd (grind (arith, nat_tests))
      go (x ∷ xs) z = refl

-- what a turn of the purging keeps: the heap means m at its start and n now
pub record Purging {T : Type 0} (le : T → T → Bool) (marks : List ℕ) (m : Meaning T) (q : ℕ) (n : Meaning T) : Type 0 where
  pub ahead : purge_after marks n.state q ≡ purge_after marks m.state q
  pub fixed : n.fixed ≡ m.fixed
  pub formed : WellFormed le n
  pub bare : Bare n

module _ {T : Type 0} {le : T → T → Bool} (marks : List ℕ) (m : Meaning T) (q : ℕ) where
  module _ (n : Meaning T) (p : Purging le marks m q n) where
    pub purging_done : (test : Bool) → test ≡ front_cancelled marks (list_of n.state q) → test ≡ false → Purges le marks m q n
    purging_done test is off = record { after = purge_done marks n.state q (sym is ∙ off) ∙ p.ahead; fixed = p.fixed; formed = p.formed; bare = p.bare }

    -- one more front leaves: the heap means k then
    module _ (k : Meaning T) (r : Result (Option (Entry T)) Refusal) (near : q < 32) (test : Bool) (is : test ≡ front_cancelled marks (list_of n.state q)) (on : test ≡ true) (t : Takes le n q r k) where
      long : q < length n.state.lists
      long = omega (arith, p.formed.queues)

      left : k.state ≡ with_list n.state q (rest (list_of n.state q))
      left = t.after ∙ take_some marks n.state q r near (sym is ∙ on) t.answer

      pub purging_more : Bare k → Purging le marks m q k
      purging_more b = record { ahead = ap (λ z. purge_after marks z q) left ∙ (purge_more marks n.state q long (sym is ∙ on)).0 ∙ p.ahead; fixed = t.fixed ∙ p.fixed; formed = t.formed; bare = b }
