-- The front entry leaves the heap and loses its mark, and the queue is purged.
use Rattle.std.proofs.Common.{◌≡◌, ℕ, ◌+◌, ◌-◌, ◌<◌, Bool, true, false, eqb, ltb, leb, List, [], ◌∷◌, length, get_or, set, Some, Ok, sum_by, Option, sym, refl, ap, ◌∙◌, subst, inl, inr, arith}
use Rattle.std.proofs.lemmas.List.{set-set, get_or-set_same}
use Rattle.std.proofs.lemmas.Bool.Decides.{nat_tests}
use Rattle.std.proofs.lemmas.Bool.{cond-true, cond-false, cases_Bool, eq-eqb, lt-leb}
use Rattle.elements.specs.declared.entries.Entry.{Entry}
use Rattle.elements.specs.Order.{Strict, precedes_by, stamp_of}
use Rattle.stores.specs.SortedLists.{without, tally}
use Rattle.stores.specs.Meaning.{State, Meaning, list_of}
use Rattle.stores.specs.Calls.{with_list, front, rest, first_answer, take_after}
use Rattle.stores.specs.Promises.{Takes}
use Rattle.cancelled.specs.Cancelled.{queued, kept, cancelled, purged, purge_after, lazily, lazily_state, lazily_fixed, Front, Marked, Over, Purges}
use Rattle.cancelled.proofs.Keeping.{keep_yes, keep_no, kept_purged, front_purged, length_purged}
use Rattle.cancelled.proofs.Marking.{kept_at}
use Rattle.cancelled.proofs.Layer.{formed_lazily, over_next, front_at, first_lazily}
use Rattle.cancelled.proofs.Cutting.{cut_fits, cut_state, cut_marked, cut_held}

module _ {T : Type 0} {le : T → T → Bool} {B : Type 0} (marks counts : List ℕ) (h : ℕ) (m : Meaning T) (o : Over le B marks counts h m) (q : ℕ) (e : Entry T) (ok : Ok (Some e) ≡ first_answer m.state q) where
  abbrev new : List ℕ
  new = set marks e.stamp 0

  abbrev less : List ℕ
  less = set counts q (get_or counts q 0 - 1)

  abbrev others : List (Entry T)
  others = rest (list_of m.state q)

  pub take_near : q < 32
  take_near = elim (cases_Bool (leb 32 q)) [ inl far ↦ (let k = ok ∙ cond-true (leb 32 q) _ _ far in absurd (let z : ◌≡◌ {A = ℕ} 0 1 = cc in omega arith)) | inr lt ↦ grind (arith, nat_tests) ]

  take_front : Some e ≡ front (list_of m.state q)
  take_front = let k = ok ∙ cond-false (leb 32 q) _ _ (lt-leb 32 q take_near) in cc

  front_is : (xs : List (Entry T)) → Some e ≡ front xs → xs ≡ e ∷ rest xs
  front_is [] i = absurd (let z : ◌≡◌ {A = ℕ} 0 1 = cc in omega arith)
  front_is (x ∷ xs) i = let k : x ≡ e = cc in ap (λ y. y ∷ xs) k

  take_list : list_of m.state q ≡ e ∷ others
  take_list = front_is (list_of m.state q) take_front

  take_queued : queued marks e.stamp ≡ true
  take_queued = subst (Front marks) take_list (front_at marks counts h m o q)

  take_kept : list_of (lazily_state marks m.state) q ≡ e ∷ kept marks others
  take_kept = kept_at marks m.state.lists q ∙ ap (kept marks) take_list ∙ keep_yes marks e others take_queued

  pub take_here : get_or marks e.stamp 0 ≡ q + 1
  take_here =
      let k = ap (λ l. tally stamp_of l e.stamp) take_kept in
      let i = eq-eqb e.stamp e.stamp refl in
      let j = o.marked.tied q e.stamp take_near in
      grind (arith, nat_tests)

  abbrev ys : List (Entry T)
  ys = purged new others

  same : kept new ys ≡ kept new (list_of m.state q)
  same =
      let off : queued new e.stamp ≡ false = ap (ltb 0) (get_or-set_same marks e.stamp 0 0 (cut_fits marks counts h m o q e.stamp take_near take_here)) in
      kept_purged new others ∙ sym (ap (kept new) take_list ∙ keep_no new e others off)

  -- what the taking and the purging leave of the lists below
  take_purged : purge_after new (take_after m.state q (Ok (Some e))) q ≡ with_list m.state q ys
  take_purged =
      ap (λ l. record { lists = l; next = m.state.next })
      (set-set m.state.lists q others _
      ∙ ap (λ l. set m.state.lists q (purged new l)) (get_or-set_same m.state.lists q others [] (omega (arith, o.formed.queues, take_near))))

  -- the heap below means k after the taking, and n after the purging by the marks v
  module _ {C : Type 0} (k n : Meaning T) (c : C) (marks' counts' : List ℕ) (h' : ℕ) (f : Option (Entry T)) (is : f ≡ Some e) (t : Takes le m q (Ok f) k) (v : List ℕ) (p : Purges le v k q n) (ev : v ≡ new) (em : marks' ≡ new) (ec : counts' ≡ less) (eh : h' ≡ h) where
    after : n.state ≡ with_list m.state q ys
    after = p.after ∙ ap (λ w. purge_after w k.state q) ev ∙ ap (λ z. purge_after new z q) (t.after ∙ ap (λ g. take_after m.state q (Ok g)) is) ∙ take_purged

    exact : Over le C new less h n
    exact = over_next marks counts h m o new less n c p.formed p.bare (p.fixed ∙ t.fixed) (subst (λ (z : State T). Marked new less z.lists) (sym after) (cut_marked marks counts h m o q e.stamp take_near take_here ys same (front_purged new others)))

    pub take_over : Over le C marks' counts' h' n
    take_over = rw (em, ec, eh) exact

    pub takes_lazily : Strict (precedes_by le) stamp_of → Takes le (lazily marks m) q (Ok (Some e)) (lazily marks' n)
    takes_lazily law = rw em (record {
      answer = ok ∙ first_lazily marks counts h m o q;
      after =
          ap (lazily_state new) after
          ∙ cut_state marks counts h m o q e.stamp take_near take_here ys same (front_purged new others)
          ∙ ap (with_list (lazily_state marks m.state) q) (ap (without stamp_of e.stamp) take_kept ∙ cond-true (eqb e.stamp e.stamp) _ _ (eq-eqb e.stamp e.stamp refl) ∙ sym (ap rest take_kept));
      fixed = ap lazily_fixed (p.fixed ∙ t.fixed);
      held = omega (arith, ap (λ (z : State T). sum_by (cancelled new) z.lists) after, cut_held marks counts h m o q e.stamp take_near take_here ys same (front_purged new others), length_purged new others, ap length take_list);
      formed = formed_lazily new less h n exact law;
    })
