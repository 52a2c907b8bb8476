-- What a store holds after orders were put into queue 0, and which of them an unused store refuses.
use Rattle.std.proofs.Common.{◌≡◌, ℕ, ◌+◌, ◌<◌, ◌≤◌, Bool, true, false, cond, eqb, ltb, ◌⊎◌, List, [], ◌∷◌, length, take, set, is_ok, Ok, Err, sym, refl, ap, ◌∙◌, subst, inl, inr, zero-le, arith, length-set}
use Rattle.std.proofs.lemmas.List.{get_or-set_same, set-set, set-get_or, length-take-le}
use Rattle.std.proofs.lemmas.Bool.{eqb-true, eqb-false}
use Rattle.std.proofs.lemmas.Bool.Decides.{nat_tests}
use Rattle.elements.specs.declared.entries.Entry.{Entry}
use Rattle.elements.specs.Order.{Strict, precedes_by, stamp_of}
use Rattle.stores.specs.declared.refusals.Refusal.{Refusal}
use Rattle.stores.specs.declared.refusals.Refusal.TheVariants.{AtLimit, NoCell, NoStamp}
use Rattle.stores.specs.SortedLists.{merge, insert, tally}
use Rattle.stores.specs.Meaning.{State, Meaning, WellFormed, list_of, live, limits_of, count_of, reached, reached_height, fresh, fresh_bare}
use Rattle.stores.specs.Calls.{put_answer, put_after}
use Rattle.stores.proofs.Merging.{merge-nil, merge_assoc, merge_comm}
use Rattle.stores.proofs.Inserting.{tally-insert}
use Rattle.dispatch.specs.declared.Rejected.{Rejected}
use Rattle.dispatch.specs.Service.{numbered, insertion_sort, service, elements_of}
use Rattle.dispatch.specs.Dispatching.{after_put, after_puts, Accepted, Admitted, Admits, Served, Unused, Enough, Lacks}
use Rattle.dispatch.proofs.Sorting.{length_sort, length_numbered}

-- of the three tests of a put into queue 0, the answer where all of them pass
passed : (a b c : Bool) (f : Refusal) (n : ℕ) → is_ok (cond a (Err f) (cond b (Err NoCell) (cond c (Err NoStamp) (Ok n)))) ≡ true → cond a (Err f) (cond b (Err NoCell) (cond c (Err NoStamp) (Ok n))) ≡ Ok n
passed true b c f n h = let z : ◌≡◌ {A = ℕ} 0 1 = cc in absurd (omega arith)
passed false true c f n h = let z : ◌≡◌ {A = ℕ} 0 1 = cc in absurd (omega arith)
passed false false true f n h = let z : ◌≡◌ {A = ℕ} 0 1 = cc in absurd (omega arith)
passed false false false f n h = refl

-- of the two that are left without a limit, the one that fails
refused_by : (a b : Bool) (f : Refusal) (n : ℕ) → Err f ≡ cond a (Err NoCell) (cond b (Err NoStamp) (Ok n)) → ((a ≡ true) × (f ≡ NoCell)) ⊎ ((a ≡ false) × (b ≡ true) × (f ≡ NoStamp))
refused_by true b f n h = inl (refl, cc)
refused_by false true f n h = inr (refl, refl, cc)
refused_by false false f n h = let z : ◌≡◌ {A = ℕ} 0 1 = cc in absurd (omega arith)

module _ {T : Type 0} (le : T → T → Bool) where
  abbrev before : Entry T → Entry T → Bool
  before = precedes_by le

  -- the elements entered queue 0, with the stamps from the next on
  abbrev entered : State T → List T → State T
  entered s xs = record { lists = set s.lists 0 (merge before (list_of s 0) (insertion_sort before (numbered s.next xs))); next = s.next + length xs }

  -- one after another
  abbrev entered_one : State T → T → State T
  entered_one s x = record { lists = set s.lists 0 (insert before (record { element = x; stamp = s.next }) (list_of s 0)); next = s.next + 1 }

  put_entered : (m : Meaning T) (x : T) → is_ok (put_answer m 0) ≡ true → (after_put le m x).state ≡ entered_one m.state x
  put_entered m x ok =
      ap (put_after le m.state 0 x)
      (passed
      (reached (limits_of m.fixed 0) (count_of m.state 0))
      (eqb (live m.state + m.held) m.fixed.cells)
      (eqb m.state.next m.fixed.stamps)
      (AtLimit (reached_height (limits_of m.fixed 0) (count_of m.state 0)))
      m.state.next
      ok)

  -- no two entries of queue 0 have the same stamp, and none has one that is still to be given
  abbrev Stamped : State T → Type 0
  Stamped s = (k : ℕ) → tally stamp_of (list_of s 0) k ≤ cond (ltb k s.next) 1 0

  module _ (law : Strict before stamp_of) where
    module _ (s : State T) (x : T) (some : 0 < length s.lists) (old : Stamped s) where
      abbrev new : Entry T
      new = record { element = x; stamp = s.next }

      list_one : list_of (entered_one s x) 0 ≡ insert before new (list_of s 0)
      list_one = get_or-set_same s.lists 0 _ [] some

      stamped_one : Stamped (entered_one s x)
      stamped_one k = let e = tally-insert before stamp_of new (list_of s 0) k in grind (arith, nat_tests, old k, e, ap (λ l. tally stamp_of l k) list_one)

      apart : (k : ℕ) → tally stamp_of (new ∷ []) k + tally stamp_of (list_of s 0) k ≤ 1
      apart k = grind (arith, nat_tests, old k)

      entered_cons : (xs : List T) → entered (entered_one s x) xs ≡ entered s (x ∷ xs)
      entered_cons xs = λ j. record { lists = lists_are j; next = next_is j }
        where
          others : List (Entry T)
          others = insertion_sort before (numbered (s.next + 1) xs)

          next_is : s.next + 1 + length xs ≡ s.next + length (x ∷ xs)
          next_is = omega arith

          moved : merge before (insert before new (list_of s 0)) others ≡ merge before (list_of s 0) (insert before new others)
          moved =
              ap (λ l. merge before l others) (merge_comm before stamp_of law (new ∷ []) (list_of s 0) apart)
              ∙ merge_assoc before stamp_of law (list_of s 0) (new ∷ []) others

          lists_are : (entered (entered_one s x) xs).lists ≡ (entered s (x ∷ xs)).lists
          lists_are =
              set-set s.lists 0 (insert before new (list_of s 0)) (merge before (list_of (entered_one s x) 0) others)
              ∙ ap (λ l. set s.lists 0 (merge before l others)) list_one
              ∙ ap (set s.lists 0) moved

    -- accepted orders stand in queue 0, each in its place
    puts_entered : (m : Meaning T) (xs : List T) → 0 < length m.state.lists → Stamped m.state → Accepted le m xs → (after_puts le m xs).state ≡ entered m.state xs
    puts_entered m [] some old a =
        let l : m.state.lists ≡ (entered m.state []).lists = sym (ap (set m.state.lists 0) (merge-nil before (list_of m.state 0)) ∙ set-get_or m.state.lists 0 []) in
        let n : m.state.next ≡ (entered m.state []).next = omega arith in
        λ j. record { lists = l j; next = n j }
    puts_entered m (x ∷ xs) some old a =
        let one = put_entered m x a.0 in
        puts_entered (after_put le m x) xs
        (subst (λ s. 0 < length s.lists) (sym one) (omega (arith, length-set m.state.lists 0 (insert before (new m.state x some old) (list_of m.state 0)))))
        (subst Stamped (sym one) (stamped_one m.state x some old))
        a.1
        ∙ ap (λ s. entered s xs) one
        ∙ entered_cons m.state x some old xs

  puts_fixed : (m : Meaning T) (xs : List T) → (after_puts le m xs).fixed ≡ m.fixed
  puts_fixed m [] = refl
  puts_fixed m (x ∷ xs) = puts_fixed (after_put le m x) xs

  puts_held : (m : Meaning T) (xs : List T) → (after_puts le m xs).held ≡ m.held
  puts_held m [] = refl
  puts_held m (x ∷ xs) = puts_held (after_put le m x) xs

  module _ (law : Strict before stamp_of) (m : Meaning T) (unused : Unused le m) (xs : List T) (n : Meaning T) (admitted : Admitted le m xs n) where
    state_is : n.state ≡ entered fresh xs
    state_is =
        ap (λ o. o.state) admitted.after
        ∙ puts_entered law m xs (subst (λ s. 0 < length s.lists) (sym unused.empty) (omega arith)) (subst Stamped (sym unused.empty) (λ k. zero-le)) admitted.accepted
        ∙ ap (λ s. entered s xs) unused.empty

    fixed_is : n.fixed ≡ m.fixed
    fixed_is = ap (λ o. o.fixed) admitted.after ∙ puts_fixed m xs

    held_is : n.held ≡ 0
    held_is = ap (λ o. o.held) admitted.after ∙ puts_held m xs ∙ unused.formed.idle (ap live unused.empty)

    live_is : live n.state ≡ length xs
    live_is = ap live state_is ∙ omega (arith, length_sort before (numbered 0 xs), length_numbered 0 xs)

    next_is : n.state.next ≡ length xs
    next_is = ap (λ s. s.next) state_is ∙ omega arith

    pub enough : Enough m.fixed.cells m.fixed.stamps (length xs)
    enough =
        let f = admitted.formed unused.formed in
        record {
          few_cells = omega (arith, f.stored, live_is, ap (λ x. x.cells) fixed_is);
          few_stamps = omega (arith, f.issued, next_is, ap (λ x. x.stamps) fixed_is);
        }

    pub served_in_order : (o : Meaning T) (ys : List T) → Served le n ys o → ys ≡ elements_of (service le xs)
    served_in_order o ys s = s.taken ∙ ap (λ u. elements_of (list_of u 0)) state_is

    lacks : (f : Refusal) → Err f ≡ put_answer n 0 → Lacks m.fixed.cells m.fixed.stamps (length xs) f
    lacks f answer =
        go (refused_by (eqb (live n.state + n.held) n.fixed.cells) (eqb n.state.next n.fixed.stamps) f n.state.next
        (answer ∙ ap (λ b. cond b (Err (AtLimit (reached_height (limits_of n.fixed 0) (count_of n.state 0)))) (cond (eqb (live n.state + n.held) n.fixed.cells) (Err NoCell) (cond (eqb n.state.next n.fixed.stamps) (Err NoStamp) (Ok n.state.next)))) free))
      where
        free : reached (limits_of n.fixed 0) (count_of n.state 0) ≡ false
        free = ap (λ ps. reached ps (count_of n.state 0)) (ap (λ x. limits_of x 0) fixed_is ∙ unused.unlimited)

        go : ((eqb (live n.state + n.held) n.fixed.cells ≡ true) × (f ≡ NoCell)) ⊎ ((eqb (live n.state + n.held) n.fixed.cells ≡ false) × (eqb n.state.next n.fixed.stamps ≡ true) × (f ≡ NoStamp)) → Lacks m.fixed.cells m.fixed.stamps (length xs) f
        go (inl h) = subst (Lacks m.fixed.cells m.fixed.stamps (length xs)) (sym h.1) (omega (arith, eqb-true _ _ h.0, live_is, held_is, ap (λ x. x.cells) fixed_is), enough.few_stamps)
        go (inr h) =
            subst (Lacks m.fixed.cells m.fixed.stamps (length xs)) (sym h.2) (
              omega (arith, eqb-true _ _ h.1, next_is, ap (λ x. x.stamps) fixed_is),
              omega (arith, eqb-false _ _ h.0, enough.few_cells, live_is, held_is, ap (λ x. x.cells) fixed_is),
            )

  -- the order that is rejected
  pub hindered : Strict before stamp_of → (m : Meaning T) → Unused le m → (xs : List T) (n : Meaning T) (e : Rejected) → Admits le m xs (Err e) n → (e.index < length xs) × Lacks m.fixed.cells m.fixed.stamps e.index e.refusal
  hindered law m unused xs n e r =
      (r.0, subst (λ k. Lacks m.fixed.cells m.fixed.stamps k e.refusal) (length-take-le e.index xs (omega (arith, r.0))) (lacks law m unused (take e.index xs) n r.1 e.refusal r.2))

  -- a store by itself with nothing put yet is unused
  pub unused_bare : (m : Meaning T) (c s : ℕ) → WellFormed le m → m ≡ fresh_bare c s → Unused le m
  unused_bare m c s formed e = record {
    formed = formed;
    empty = ap (λ o. o.state) e;
    unlimited = ap (λ o. limits_of o.fixed 0) e;
  }
