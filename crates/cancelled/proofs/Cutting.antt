-- An entry loses its mark: it is cancelled, or was taken.
use Rattle.std.proofs.Common.{◌≡◌, ℕ, zero, suc, ◌+◌, ◌-◌, ◌<◌, ◌≤◌, Bool, true, cond, ltb, ◌≢◌, List, [], ◌∷◌, map, length, get_or, set, Some, None, Ok, Err, sum_by, sym, refl, ap, ◌∙◌, subst, inl, inr, arith}
use Rattle.std.proofs.lemmas.List.{length-set, map-set, get_or-set_same, get_or-set_other, get_or_past}
use Rattle.std.proofs.lemmas.List.Sums.{sum_by-set}
use Rattle.std.proofs.lemmas.Bool.Decides.{nat_tests}
use Rattle.std.proofs.lemmas.Bool.{cond-true, cond-false, cases_lt, cases_eq, eq-eqb, ne_eqb, lt-ltb}
use Rattle.elements.specs.declared.entries.Entry.{Entry}
use Rattle.elements.specs.Order.{Strict, precedes_by, stamp_of}
use Rattle.stores.specs.declared.refusals.Refusal.{Refusal}
use Rattle.stores.specs.declared.refusals.Refusal.TheVariants.{NotQueued}
use Rattle.stores.specs.SortedLists.{has, without, tally}
use Rattle.stores.specs.Meaning.{State, Meaning, list_of}
use Rattle.stores.specs.Calls.{with_list, queue_with, found, cancel_answer}
use Rattle.stores.specs.Promises.{Cancels}
use Rattle.stores.proofs.Inserting.{has_none, has_some}
use Rattle.stores.proofs.Removing.{length_without}
use Rattle.cancelled.specs.Cancelled.{queued, kept, cancelled, purged, lazily, lazily_state, lazily_fixed, Front, Marked, Over, Purges}
use Rattle.cancelled.proofs.Keeping.{kept_alike, front_alike, alike_other, tally_kept, kept_cut, tally-without, kept_purged, front_purged, length_purged}
use Rattle.cancelled.proofs.Places.{sum_at, sum_two, map_changed, all_changed}
use Rattle.cancelled.proofs.Marking.{kept_at, live_parted, ties_leave}
use Rattle.cancelled.proofs.Layer.{formed_lazily, over_next, queues_kept, counts_at}

-- which queue has a stamp, where it is in none and where it is in one
module _ {T : Type 0} (k : ℕ) where
  queue_none : (kss : List (List (Entry T))) (from : ℕ) → ((p : ℕ) → tally stamp_of (get_or kss p []) k ≡ 0) → queue_with k kss from ≡ None
  queue_none [] from h = refl
  queue_none (xs ∷ kss) from h = cond-false (has stamp_of k xs) _ _ (has_none stamp_of k xs (h 0)) ∙ queue_none kss (from + 1) (λ p. h (suc p))

  queue_some : (kss : List (List (Entry T))) (q from : ℕ) → 1 ≤ tally stamp_of (get_or kss q []) k → ((p : ℕ) → p ≢ q → tally stamp_of (get_or kss p []) k ≡ 0) → queue_with k kss from ≡ Some (from + q)
  queue_some [] q from h n = absurd (omega arith)
  queue_some (xs ∷ kss) zero from h n = cond-true (has stamp_of k xs) _ _ (has_some stamp_of k xs h) ∙ ap Some (omega arith)
  queue_some (xs ∷ kss) (suc q) from h n =
      cond-false (has stamp_of k xs) _ _ (has_none stamp_of k xs (n 0 (λ e. omega (arith, e))))
      ∙ queue_some kss q (from + 1) h (λ p ne. n (suc p) (λ e. ne (omega (arith, e))))
      ∙ ap Some (omega arith)

module _ {T : Type 0} {le : T → T → Bool} {B : Type 0} (marks counts : List ℕ) (h : ℕ) (m : Meaning T) (o : Over le B marks counts h m) where
  abbrev lists : List (List (Entry T))
  lists = m.state.lists

  abbrev kss : List (List (Entry T))
  kss = map (kept marks) m.state.lists

  -- a stamp is in no queue but the one of its mark
  unmarked : (s p : ℕ) → get_or marks s 0 ≢ p + 1 → tally stamp_of (get_or kss p []) s ≡ 0
  unmarked s p ne =
      elim (cases_lt p 32) [
        | inl lt ↦ o.marked.tied p s lt ∙ ap (λ b. cond b 1 0) (ne_eqb (get_or marks s 0) (p + 1) ne)
        | inr ge ↦ ap (λ l. tally stamp_of l s) (get_or_past kss p [] (omega (arith, queues_kept marks counts h m o)))
      ]

  pub cancel_none : (s : ℕ) → get_or marks s 0 ≡ 0 → (f : Refusal) → f ≡ NotQueued h → Err f ≡ cancel_answer (lazily marks m) s
  cancel_none s off f told =
      ap Err told
      ∙ ap (λ k. Err (NotQueued k)) o.above
      ∙ sym (ap (found (m.fixed.height + 1)) (queue_none s kss 0 (λ p. unmarked s p (λ z. omega (arith, off, z)))))

  module _ (q s : ℕ) (near : q < 32) (here : get_or marks s 0 ≡ q + 1) where
    abbrev new : List ℕ
    new = set marks s 0

    abbrev less : List ℕ
    less = set counts q (get_or counts q 0 - 1)

    once : tally stamp_of (get_or kss q []) s ≡ 1
    once = o.marked.tied q s near ∙ ap (λ b. cond b 1 0) (eq-eqb (get_or marks s 0) (q + 1) here)

    pub cut_fits : s < length marks
    cut_fits = elim (cases_lt s (length marks)) [ inl lt ↦ lt | inr ge ↦ let z = get_or_past marks s 0 ge in absurd (omega arith) ]

    one_less : length (without stamp_of s (get_or kss q [])) + 1 ≡ length (get_or kss q [])
    one_less = length_without stamp_of s (get_or kss q []) (has_some stamp_of s (get_or kss q []) (omega (arith, once)))

    pub cut_some : 1 ≤ get_or counts q 0
    cut_some = omega (arith, counts_at marks counts h m o q, one_less)

    pub cancel_some : Ok q ≡ cancel_answer (lazily marks m) s
    cancel_some = ap Ok (omega arith) ∙ sym (ap (found (m.fixed.height + 1)) (queue_some s kss q 0 (omega (arith, once)) (λ p ne. unmarked s p (λ z. ne (omega (arith, here, z))))))

    one_below : (1 ≤ tally stamp_of (list_of m.state q) s) × (sum_by (λ xs. tally stamp_of xs s) lists ≤ 1)
    one_below =
        let a = once in
        let b = ap (λ l. tally stamp_of l s) (kept_at marks lists q) in
        let d = tally_kept marks (list_of m.state q) s in
        let f = o.formed.stamps s in
        (omega arith, grind (arith, nat_tests))

    elsewhere : (p : ℕ) → p ≢ q → tally stamp_of (get_or lists p []) s ≡ 0
    elsewhere p ne = let b = one_below in let w = sum_two (λ xs. tally stamp_of xs s) [] refl lists p q ne in omega (arith, b.0, b.1)

    -- ys is what the queue is below then: it has the entries that count, with one of them at the front
    module _ (ys : List (Entry T)) (same : kept new ys ≡ kept new (list_of m.state q)) (front-ys : Front new ys) where
      cut_lists : map (kept new) (set lists q ys) ≡ set kss q (without stamp_of s (get_or kss q []))
      cut_lists =
          let b = one_below in
          let few : tally stamp_of (list_of m.state q) s ≤ 1 = omega (arith, b.1, sum_at (λ xs. tally stamp_of xs s) [] refl lists q) in
          let lit : queued marks s ≡ true = ap (ltb 0) here ∙ lt-ltb 0 (q + 1) (omega arith) in
          map_changed (kept marks) (kept new) [] lists q ys _
          (same ∙ kept_cut marks s (list_of m.state q) cut_fits lit few ∙ ap (without stamp_of s) (sym (kept_at marks lists q)))
          (λ p ne. kept_alike marks new (get_or lists p []) (alike_other marks s 0 (get_or lists p []) (elsewhere p ne)))

      pub cut_state : lazily_state new (with_list m.state q ys) ≡ with_list (lazily_state marks m.state) q (without stamp_of s (list_of (lazily_state marks m.state) q))
      cut_state = ap (λ l. record { lists = l; next = m.state.next }) cut_lists

      pub cut_marked : Marked new less (set lists q ys)
      cut_marked =
          let zs = without stamp_of s (get_or kss q []) in
          let some : 1 ≤ tally stamp_of (get_or kss q []) s = omega (arith, once) in
          let shorter : get_or counts q 0 - 1 ≡ length (without stamp_of s (get_or kss q [])) = omega (arith, counts_at marks counts h m o q, one_less) in
          record {
            places = length-set marks s 0 ∙ o.marked.places;
            within = λ j. elim (cases_eq j s) [ inl e ↦ rw (e, get_or-set_same marks s 0 0 cut_fits) (omega arith) | inr ne ↦ rw (get_or-set_other marks s j 0 0 ne) (o.marked.within j) ];
            counted = rw cut_lists (ap (λ l. set l q (get_or counts q 0 - 1)) o.marked.counted ∙ ap (set (map length kss) q) shorter ∙ sym (map-set length kss q (without stamp_of s (get_or kss q []))));
            tied = rw cut_lists (ties_leave marks kss (queues_kept marks counts h m o) o.marked.tied s q (without stamp_of s (get_or kss q [])) cut_fits near some (λ k. tally-without s (get_or kss q []) k some));
            fronts = all_changed (Front marks) (Front new) [] lists q ys front-ys
                (λ p ne f. front_alike marks new (get_or lists p []) (alike_other marks s 0 (get_or lists p []) (elsewhere p ne)) f)
                o.marked.fronts;
          }

      pub cut_held : sum_by (cancelled new) (set lists q ys) + length (list_of m.state q) ≡ sum_by (cancelled marks) lists + length ys + 1
      cut_held =
          let one = live_parted marks lists in
          let two = live_parted new (set lists q ys) in
          let alike = ap (sum_by length) cut_lists in
          let three = sum_by-set length lists q ys [] (omega (arith, o.formed.queues, near)) in
          let four = sum_by-set length kss q (without stamp_of s (get_or kss q [])) [] (omega (arith, queues_kept marks counts h m o, near)) in
          let five = one_less in
          omega arith

    -- the queue was purged by the marks v: the heap below means n
    module _ {C : Type 0} (n : Meaning T) (c : C) (marks' counts' : List ℕ) (h' : ℕ) (v : List ℕ) (e : Purges le v m q n) (ev : v ≡ new) (em : marks' ≡ new) (ec : counts' ≡ less) (eh : h' ≡ h) where
      abbrev ys : List (Entry T)
      ys = purged new (list_of m.state q)

      abbrev same : kept new ys ≡ kept new (list_of m.state q)
      same = kept_purged new (list_of m.state q)

      after : n.state ≡ with_list m.state q ys
      after = e.after ∙ ap (λ w. with_list m.state q (purged w (list_of m.state q))) ev

      exact : Over le C new less h n
      exact = over_next marks counts h m o new less n c e.formed e.bare e.fixed (subst (λ (z : State T). Marked new less z.lists) (sym after) (cut_marked ys same (front_purged new (list_of m.state q))))

      pub cancel_over : Over le C marks' counts' h' n
      cancel_over = rw (em, ec, eh) exact

      pub cancels_lazily : Strict (precedes_by le) stamp_of → Cancels le (lazily marks m) s (Ok q) (lazily marks' n)
      cancels_lazily law = rw em (record {
        answer = cancel_some;
        after = ap (lazily_state new) after ∙ cut_state ys same (front_purged new (list_of m.state q));
        fixed = ap lazily_fixed e.fixed;
        held = omega (arith, ap (λ (z : State T). sum_by (cancelled new) z.lists) after, cut_held ys same (front_purged new (list_of m.state q)), length_purged new (list_of m.state q));
        formed = formed_lazily new less h n exact law;
      })
