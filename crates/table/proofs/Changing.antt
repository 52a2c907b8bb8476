-- What a table stands for after a call that changes it.
use Rattle.std.proofs.Common.{◌≡◌, ℕ, ◌+◌, ◌<◌, Bool, cond, List, [], map, length, get_or, set, Some, None, Ok, Err, sym, refl, ap, ◌∙◌, subst, arith, ◌⊎◌, ◌≤◌, position, ⊎_elim}
use Rattle.std.proofs.lemmas.List.{length-set, length-map}
use Rattle.std.proofs.ByRecursion.{All-set}
use Rattle.std.proofs.lemmas.Bool.{eq-eqb}
use Rattle.std.proofs.lemmas.Bool.Decides.{nat_tests}
use Rattle.elements.specs.declared.entries.Entry.{Entry}
use Rattle.elements.specs.Order.{Laws, precedes_by, stamp_of}
use Rattle.elements.proofs.Strictness.{strict}
use Rattle.stores.specs.declared.refusals.Refusal.TheVariants.{QueueNumber, SameQueue, NoCell, NoStamp, NotQueued}
use Rattle.stores.specs.SortedLists.{insert, tally, without}
use Rattle.stores.specs.Meaning.{Meaning, Sizes, WellFormed, live, bare_fixed}
use Rattle.stores.specs.Calls.{front, rest, found, cancel_answer}
use Rattle.stores.specs.Promises.{Puts, Takes, Melds, Cancels}
use Rattle.stores.proofs.Inserting.{rest_insert, without-insert, has_none, has_some, tally-insert}
use Rattle.stores.proofs.Answering.{unlimited, first_refused, put_refused_queue, put_refused_cell, put_refused_stamp, put_told, meld_refused_into, meld_refused_from, meld_refused_same, meld_told, puts_refused, takes_refused, takes_none, melds_refused, cancels_refused}
use Rattle.records.specs.declared.cells.Record.{Record}
use Rattle.records.specs.Cells.{Cell, empty, Numbered, queue_of, lists_of, queued, stamped, moved, has_stamp, Holds, StampedAt, FrontAt}
use Rattle.records.proofs.Positions.{position_none}
use Rattle.records.proofs.Counts.{none_empty, one_empty, stamp_is, numbered_at, stamped_fill, stamped_drop, stamped_gone, stamped_moved, numbered_moved}
use Rattle.records.proofs.Queues.{length_queue, tally_queue}
use Rattle.records.proofs.Numbers.{queue_none, queue_some}
use Rattle.records.proofs.Lists.{list_is, lists_fill, list_drop, list_drop_other, lists_drop, lists_move}
use Rattle.records.specs.Whole.{meant, Sound}
use Rattle.records.proofs.Standing.{once, live_here, formed}
use Rattle.table.proofs.Standing.{first_here}

-- a table is sound, and E holds of what it stands for
pub record After {T : Type 0} (le : T → T → Bool) (E : Meaning T → Type 0) (cs : List (Cell T)) (next stamps : ℕ) : Type 0 where
  pub sound : Sound cs next stamps
  pub effect : E (meant le cs next stamps)

module _ {T : Type 0} {cs : List (Cell T)} {next stamps : ℕ} (h : Sound cs next stamps) (le : T → T → Bool) (laws : Laws le) where
  abbrev before : Meaning T
  before = meant le cs next stamps

  before_formed : WellFormed le before
  before_formed = formed h le laws

  -- the cells after the call are known
  along : {E : Meaning T → Type 0} {cs₁ cs₂ : List (Cell T)} {n : ℕ} → cs₂ ≡ cs₁ → After le E cs₁ n stamps → After le E cs₂ n stamps
  along {E} {cs₁} {cs₂} {n} e a = subst (λ x. After le E x n stamps) (sym e) a

  -- no such queue
  pub put_far : (q : ℕ) (x : T) → 32 ≤ q → Puts le before q x (Err QueueNumber) before
  put_far q x far = puts_refused before_formed q x QueueNumber (put_refused_queue before q far)

  pub take_far : (q : ℕ) → 32 ≤ q → Takes le before q (Err QueueNumber) before
  take_far q far = takes_refused before_formed q QueueNumber (first_refused before.state q far)

  pub meld_far : (a b : ℕ) → (32 ≤ a) ⊎ ((a < 32) × (32 ≤ b)) → Melds le before a b (Err QueueNumber) before
  meld_far a b far = melds_refused before_formed a b QueueNumber (⊎_elim (meld_refused_into before.state a b) (λ k. meld_refused_from before.state a b k.0 k.1) far)

  -- put into queue q
  module _ (q : ℕ) (near : q < 32) where
    pub put_full : (x : T) → None ≡ position empty cs → Puts le before q x (Err NoCell) before
    put_full x e = puts_refused before_formed q x NoCell (put_refused_cell before q near (unlimited (length cs) stamps q _) (omega (arith, live_here h le, none_empty cs e)))

    module _ (i : ℕ) (e : Some i ≡ position empty cs) where
      room : live before.state + 0 ≡ length cs → ⊥
      room a = omega (arith, a, live_here h le, (one_empty cs i e).2)

      pub put_spent : (x : T) → next ≡ stamps → Puts le before q x (Err NoStamp) before
      put_spent x last = puts_refused before_formed q x NoStamp (put_refused_stamp before q near (unlimited (length cs) stamps q _) room last)

      module _ (x : T) (more : next ≡ stamps → ⊥) where
        abbrev new : Record T
        new = record { queue = q; entry = record { element = x; stamp = next } }

        filled : Sound (set cs i (Some new)) (next + 1) stamps
        filled = record {
          sizes = subst (λ n. Sizes n stamps) (sym (length-set cs i (Some new))) h.sizes;
          issued = omega (arith, h.issued, more);
          numbered = All-set Numbered cs i (Some new) near h.numbered;
          marked = λ k. let m = h.marked k in let f = stamped_fill k cs i new (one_empty cs i e).0 (one_empty cs i e).1 in grind (arith, nat_tests);
        }

        unused : stamped next cs ≡ 0
        unused = let m = h.marked next in grind (arith, nat_tests)

        pub put_done : {cs₂ : List (Cell T)} → cs₂ ≡ set cs i (Some new) → After le (Puts le before q x (Ok next)) cs₂ (next + 1) stamps
        put_done a = along a (record {
          sound = filled;
          effect = record {
            answer = put_told before q near (unlimited (length cs) stamps q _) room next more refl;
            after = λ j. record { lists = lists_fill le laws cs i new near (one_empty cs i e).0 (one_empty cs i e).1 unused j; next = next + 1 };
            fixed = λ j. bare_fixed (length-set cs i (Some new) j) stamps;
            held = refl;
            formed = formed filled le laws;
          };
        })

  -- the record r leaves cell i
  module _ (i : ℕ) (r : Record T) (held : Holds cs i r) where
    near_here : r.queue < 32
    near_here = numbered_at cs i r held h.numbered

    left : Sound (set cs i None) next stamps
    left = record {
      sizes = subst (λ n. Sizes n stamps) (sym (length-set cs i None)) h.sizes;
      issued = h.issued;
      numbered = All-set Numbered cs i None tt h.numbered;
      marked = λ k. omega (arith, h.marked k, stamped_drop k cs i r held);
    }

    fixed_left : (meant le (set cs i None) next stamps).fixed ≡ before.fixed
    fixed_left = λ j. bare_fixed (length-set cs i None j) stamps

    was : get_or (lists_of le cs) r.queue [] ≡ insert (precedes_by le) r.entry (queue_of le r.queue (set cs i None))
    was = list_drop le laws cs i r near_here held (once h r.entry.stamp)

    none_left : (q : ℕ) → tally stamp_of (queue_of le q (set cs i None)) r.entry.stamp ≡ 0
    none_left q = omega (arith, stamped_gone cs i r held (once h r.entry.stamp), tally_queue le q r.entry.stamp (set cs i None))

    -- cancel
    one_here : 0 < tally stamp_of (queue_of le r.queue cs) r.entry.stamp
    one_here =
        let e = ap (λ (xs : List (Entry T)). tally stamp_of xs r.entry.stamp) (sym (list_is le cs r.queue near_here) ∙ was) in
        let n = tally-insert (precedes_by le) stamp_of r.entry (queue_of le r.queue (set cs i None)) r.entry.stamp in
        let s = ap (λ b. cond {A = ℕ} b 1 0) (eq-eqb r.entry.stamp r.entry.stamp refl) in
        omega (arith, e, n, s)

    queued_here : Ok r.queue ≡ cancel_answer before r.entry.stamp
    queued_here = sym (ap (found 0) (queue_some r.entry.stamp (λ q. queue_of le q cs) r.queue near_here
        (has_some stamp_of r.entry.stamp (queue_of le r.queue cs) one_here)
        (λ q ne. has_none stamp_of r.entry.stamp (queue_of le q cs) (ap (λ (xs : List (Entry T)). tally stamp_of xs r.entry.stamp) (sym (list_drop_other le laws cs i r near_here held (once h r.entry.stamp) q ne)) ∙ none_left q))))

    cancelled : After le (Cancels le before r.entry.stamp (Ok r.queue)) (set cs i None) next stamps
    cancelled = record {
      sound = left;
      effect = record {
        answer = queued_here;
        after = λ j. record { lists = lists_drop le laws cs i r near_here held (once h r.entry.stamp) (without stamp_of r.entry.stamp (get_or (lists_of le cs) r.queue [])) (sym (ap (without stamp_of r.entry.stamp) was ∙ without-insert stamp_of (precedes_by le) r.entry (queue_of le r.queue (set cs i None)) (none_left r.queue))) j; next = next };
        fixed = fixed_left;
        held = omega arith;
        formed = formed left le laws;
      };
    }

  pub cancel_done : (k i : ℕ) (r : Record T) → StampedAt k cs (Some (i, r)) → {cs₂ : List (Cell T)} → cs₂ ≡ set cs i None → After le (Cancels le before k (Ok r.queue)) cs₂ next stamps
  cancel_done k i r at a = along a (subst (λ n. After le (Cancels le before n (Ok r.queue)) (set cs i None) next stamps) (stamp_is k cs i r at) (cancelled i r at.1))

  pub cancel_none : (k : ℕ) → StampedAt k cs None → Cancels le before k (Err (NotQueued 0)) before
  cancel_none k e = cancels_refused before_formed k (NotQueued 0) (sym (ap (found 0) (queue_none k (λ q. queue_of le q cs) (λ q. has_none stamp_of k (queue_of le q cs) (omega (arith, position_none (has_stamp k) cs e, tally_queue le q k cs))))))

  -- take
  pub take_none : (q : ℕ) → q < 32 → FrontAt le q cs None → Takes le before q (Ok None) before
  take_none q near e = takes_none before_formed q (first_here h le q near None e)

  pub take_done : (q : ℕ) → q < 32 → (i : ℕ) (e : Entry T) → FrontAt le q cs (Some (i, e)) → {cs₂ : List (Cell T)} → cs₂ ≡ set cs i None → After le (Takes le before q (Ok (Some e))) cs₂ next stamps
  take_done q near i e at a = along a (record {
    sound = left i r at.1;
    effect = record {
      answer = first_here h le q near (Some (i, e)) at;
      after = λ j. record { lists = lists_drop le laws cs i r near at.1 (once h e.stamp) (rest (get_or (lists_of le cs) q [])) (sym (ap rest (was i r at.1) ∙ rest_insert (precedes_by le) (strict le laws) e (queue_of le q (set cs i None)) fronts)) j; next = next };
      fixed = fixed_left i r at.1;
      held = omega arith;
      formed = formed (left i r at.1) le laws;
    };
  })
    where
      r : Record T
      r = record { queue = q; entry = e }

      fronts : front (insert (precedes_by le) e (queue_of le q (set cs i None))) ≡ Some e
      fronts = ap front (sym (was i r at.1) ∙ list_is le cs q near) ∙ at.0

  -- meld
  pub meld_same : (a b : ℕ) → a < 32 → b < 32 → a ≡ b → Melds le before a b (Err SameQueue) before
  meld_same a b l m e = melds_refused before_formed a b SameQueue (meld_refused_same before.state a b l m e)

  module _ (a b : ℕ) (l : a < 32) (m : b < 32) (ne : a ≡ b → ⊥) where
    joined : Sound (map (moved a b) cs) next stamps
    joined = record {
      sizes = subst (λ n. Sizes n stamps) (sym (length-map cs (moved a b))) h.sizes;
      issued = h.issued;
      numbered = numbered_moved a b cs l h.numbered;
      marked = λ k. omega (arith, h.marked k, stamped_moved k a b cs);
    }

    pub meld_done : (n : ℕ) → n ≡ queued b cs → {cs₂ : List (Cell T)} → cs₂ ≡ map (moved a b) cs → After le (Melds le before a b (Ok n)) cs₂ next stamps
    meld_done n e x = along x (record {
      sound = joined;
      effect = record {
        answer = meld_told before.state a b n l m ne (e ∙ sym (ap length (list_is le cs b m) ∙ length_queue le b cs));
        after = λ j. record { lists = lists_move le laws cs a b l m ne (once h) j; next = next };
        fixed = λ j. bare_fixed (length-map cs (moved a b) j) stamps;
        held = omega arith;
        formed = formed joined le laws;
      };
    })
