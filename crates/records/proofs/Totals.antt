-- What all queues have together, as the cells say it.
use Rattle.std.proofs.Common.{◌≡◌, ℕ, Bool, cond, eqb, List, [], ◌∷◌, length, is_some, Some, None, sum_by, refl, arith}
use Rattle.std.specs.List.{AllByRecursion}
use Rattle.std.proofs.lemmas.List.Sums.{sum_by-cons}
use Rattle.elements.specs.declared.entries.Entry.{Entry}
use Rattle.elements.specs.Order.{stamp_of}
use Rattle.stores.specs.SortedLists.{tally}
use Rattle.records.specs.Cells.{Cell, Numbered, queue_of, by_queue, lists_of, occupied, stamped}
use Rattle.records.proofs.Counts.{stamped_cons}
use Rattle.records.proofs.Queues.{tally_record, length_record}
use Rattle.records.proofs.Numbers.{sum_by_queue}

module _ {T : Type 0} (le : T → T → Bool) where
  -- nothing, where no cell is
  none_by_queue : (h : List (Entry T) → ℕ) → h [] ≡ 0 → sum_by h (lists_of le []) ≡ 0
  unfolding by_queue
  none_by_queue h e = omega (arith, e)

  pub live_is : (cs : List (Cell T)) → AllByRecursion Numbered cs → sum_by length (lists_of le cs) ≡ occupied cs
  live_is [] h = none_by_queue length refl
  live_is (None ∷ cs) h = omega (arith, live_is cs h.1, sum_by-cons (λ (c : Cell T). cond {A = ℕ} (is_some c) 1 0) None cs)
  live_is (Some r ∷ cs) h =
      let s = sum_by_queue length (λ q. queue_of le q cs) (λ q. queue_of le q (Some r ∷ cs)) r.queue 1 h.0 (λ q. length_record le q r (queue_of le q cs)) in
      omega (arith, s, live_is cs h.1, sum_by-cons (λ (c : Cell T). cond {A = ℕ} (is_some c) 1 0) (Some r) cs)

  pub tallies_are : (k : ℕ) (cs : List (Cell T)) → AllByRecursion Numbered cs → sum_by (λ xs. tally stamp_of xs k) (lists_of le cs) ≡ stamped k cs
  tallies_are k [] h = none_by_queue (λ xs. tally stamp_of xs k) refl
  tallies_are k (None ∷ cs) h = omega (arith, tallies_are k cs h.1, stamped_cons {T = T} k None cs)
  tallies_are k (Some r ∷ cs) h =
      let s = sum_by_queue (λ xs. tally stamp_of xs k) (λ q. queue_of le q cs) (λ q. queue_of le q (Some r ∷ cs)) r.queue (cond (eqb r.entry.stamp k) 1 0) h.0 (λ q. tally_record le q k r (queue_of le q cs)) in
      omega (arith, s, tallies_are k cs h.1, stamped_cons k (Some r) cs)
