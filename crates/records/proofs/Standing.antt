-- Sound cells stand for a well-formed store.
use Rattle.std.proofs.Common.{◌≡◌, ℕ, ◌≤◌, Bool, List, is_some, refl, arith}
use Rattle.std.proofs.lemmas.List.Sums.{count_by-le-length}
use Rattle.std.proofs.lemmas.Bool.Decides.{nat_tests}
use Rattle.elements.specs.Order.{Laws, precedes_by}
use Rattle.stores.specs.SortedLists.{Sorted}
use Rattle.stores.specs.Meaning.{WellFormed, live}
use Rattle.stores.proofs.Answering.{no_heights}
use Rattle.records.specs.Cells.{Cell, queue_of, occupied, stamped}
use Rattle.records.specs.Whole.{meant, Sound}
use Rattle.records.proofs.Queues.{sorted_queue}
use Rattle.records.proofs.Numbers.{length_by_queue, all_by_queue}
use Rattle.records.proofs.Totals.{live_is, tallies_are}

module _ {T : Type 0} {cs : List (Cell T)} {next stamps : ℕ} (h : Sound cs next stamps) where
  pub once : (k : ℕ) → stamped k cs ≤ 1
  once k = let m = h.marked k in grind (arith, nat_tests)

  pub live_here : (le : T → T → Bool) → live (meant le cs next stamps).state ≡ occupied cs
  live_here le = live_is le cs h.numbered

  pub formed : (le : T → T → Bool) → Laws le → WellFormed le (meant le cs next stamps)
  formed le laws = record {
    queues = length_by_queue (λ q. queue_of le q cs);
    sorted = all_by_queue (Sorted (precedes_by le)) (λ q. queue_of le q cs) (λ q. sorted_queue le laws q cs once);
    stamps = λ k. omega (arith, tallies_are le k cs h.numbered, h.marked k);
    issued = h.issued;
    stored = omega (arith, live_here le, count_by-le-length is_some cs);
    idle = λ _. refl;
    limited = refl;
    heights = no_heights 0;
    sizes = h.sizes;
    low = omega arith;
  }
