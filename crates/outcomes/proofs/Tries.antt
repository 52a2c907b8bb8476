-- One put into a store: it found a cell, or was refused before it asked for one, or found none.
use Rattle.std.proofs.Common.{◌≡◌, ℕ, ◌+◌, ◌<◌, ◌≤◌, Bool, true, false, cond, eqb, leb, ◌⊎◌, length, Some, None, Ok, Err, Option, Result, refl, ap, ◌∙◌, inl, inr, le_refl, arith}
use Rattle.std.proofs.lemmas.Bool.{eqb-true, eqb-false, leb-false}
use Rattle.stores.specs.declared.refusals.Refusal.{Refusal}
use Rattle.stores.specs.declared.refusals.Refusal.TheVariants.{QueueNumber, AtLimit, NoCell, NoStamp}
use Rattle.stores.specs.Meaning.{State, Meaning, live, count_of, limits_of, reached, reached_height}
use Rattle.stores.specs.Calls.{put_after}
use Rattle.stores.specs.Promises.{Puts}
use Rattle.stores.proofs.Counting.{adds_up}
use Rattle.machine.specs.Puts.{Tried, tried_by, try, celled, stamped}
use Rattle.outcomes.specs.Simulation.{store_of}
use Rattle.outcomes.specs.Outcomes.{up}

module _ {T : Type 0} (le : T → T → Bool) (m : Meaning T) (q : ℕ) (x : T) (r : Result ℕ Refusal) (n : Meaning T) where
  abbrev pub Counts : Type 0
  Counts = live n.state + m.state.next ≤ live m.state + n.state.next

  -- a cell was found: so it is for the machine that is stopped later
  pub record Passed : Type 0 where
    pub free : live m.state + m.held ≡ m.fixed.cells → ⊥
    pub stops : try le (Some 0) (store_of m 0) q x ≡ record { answer = Err NoCell; state = m.state; cut = Some 0 }
    pub same : (c : Option ℕ) → try le (up c) (store_of m 0) q x ≡ record { answer = r; state = n.state; cut = c }
    pub counts : Counts

  -- refused before a cell was asked for
  pub record Barred : Type 0 where
    pub same : (c : Option ℕ) → try le c (store_of m 0) q x ≡ record { answer = r; state = n.state; cut = c }
    pub counts : Counts

  -- no cell was found
  pub record Full : Type 0 where
    pub same : try le (Some 0) (store_of m 0) q x ≡ record { answer = r; state = n.state; cut = Some 0 }
    pub is : r ≡ Err NoCell
    pub stays : n.state ≡ m.state
    pub full : live m.state + m.held ≡ m.fixed.cells
    pub counts : Counts

module _ {T : Type 0} (le : T → T → Bool) where
  passes : (c : Option ℕ) (p : Bool) (s : State T) (q : ℕ) (x : T) → celled le (up c) p s q x ≡ stamped le p c s q x
  passes None p s q x = refl
  passes (Some c) p s q x = refl

  abbrev answer_by : Bool → Bool → Bool → Bool → ℕ → ℕ → Result ℕ Refusal
  answer_by wrong over full spent h n = cond wrong (Err QueueNumber) (cond over (Err (AtLimit h)) (cond full (Err NoCell) (cond spent (Err NoStamp) (Ok n))))

  module _ (m : Meaning T) (q : ℕ) (x : T) (r : Result ℕ Refusal) (n : Meaning T) (queues : length m.state.lists ≡ 32) where
    abbrev over_test : Bool
    over_test = reached (limits_of m.fixed q) (count_of m.state q)

    abbrev full_test : Bool
    full_test = eqb (live m.state + m.held) m.fixed.cells

    abbrev spent_test : Bool
    spent_test = eqb m.state.next m.fixed.stamps

    abbrev height : ℕ
    height = reached_height (limits_of m.fixed q) (count_of m.state q)

    abbrev by : Bool → Bool → Bool → Option ℕ → Tried T
    by wrong over spent c = tried_by le wrong over spent height c m.state q x

    same_counts : n.state ≡ m.state → Counts le m q x r n
    same_counts e = rw e (le_refl _)

    -- the tests of the queue and its limits are passed
    below : (c : Option ℕ) (d : Tried T) → leb 32 q ≡ false → over_test ≡ false → celled le c spent_test m.state q x ≡ d → try le c (store_of m 0) q x ≡ d
    below c d ew eo e = ap (λ b. by b over_test spent_test c) ew ∙ ap (λ b. by false b spent_test c) eo ∙ e

    by_tests : (wrong over full spent : Bool) → leb 32 q ≡ wrong → over_test ≡ over → full_test ≡ full → spent_test ≡ spent
        → r ≡ answer_by wrong over full spent height m.state.next → n.state ≡ put_after le m.state q x r → Passed le m q x r n ⊎ Barred le m q x r n ⊎ Full le m q x r n
    by_tests true over full spent ew eo ef es a s =
        let sn : n.state ≡ m.state = s ∙ ap (put_after le m.state q x) a in
        inr (inl (record { same = λ c. ap (λ b. by b over_test spent_test c) ew ∙ rw (a, sn); counts = same_counts sn }))
    by_tests false true full spent ew eo ef es a s =
        let sn : n.state ≡ m.state = s ∙ ap (put_after le m.state q x) a in
        inr (inl (record { same = λ c. ap (λ b. by b over_test spent_test c) ew ∙ ap (λ b. by false b spent_test c) eo ∙ rw (a, sn); counts = same_counts sn }))
    by_tests false false true spent ew eo ef es a s =
        let sn : n.state ≡ m.state = s ∙ ap (put_after le m.state q x) a in
        inr (inr (record { same = below (Some 0) _ ew eo (rw (a, sn)); is = a; stays = sn; full = eqb-true _ _ ef; counts = same_counts sn }))
    by_tests false false false true ew eo ef es a s =
        let sn : n.state ≡ m.state = s ∙ ap (put_after le m.state q x) a in
        inl (record {
          free = eqb-false _ _ ef;
          stops = below (Some 0) _ ew eo refl;
          same = λ c. below (up c) _ ew eo (passes c spent_test m.state q x ∙ ap (λ b. stamped le b c m.state q x) es ∙ rw (a, sn));
          counts = same_counts sn;
        })
    by_tests false false false false ew eo ef es a s =
        let sn : n.state ≡ put_after le m.state q x (Ok m.state.next) = s ∙ ap (put_after le m.state q x) a in
        let inside : q < length m.state.lists = omega (arith, leb-false _ _ ew) in
        inl (record {
          free = eqb-false _ _ ef;
          stops = below (Some 0) _ ew eo refl;
          same = λ c. below (up c) _ ew eo (passes c spent_test m.state q x ∙ ap (λ b. stamped le b c m.state q x) es ∙ rw (a, sn));
          counts = omega (arith, ap live sn, ap (λ (z : State T). z.next) sn, (adds_up le).put m.state q x m.state.next inside);
        })

    pub put_ways : Puts le m q x r n → Passed le m q x r n ⊎ Barred le m q x r n ⊎ Full le m q x r n
    put_ways h = by_tests (leb 32 q) over_test full_test spent_test refl refl refl refl h.answer h.after
