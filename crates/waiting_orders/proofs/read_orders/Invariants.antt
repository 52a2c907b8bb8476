use Rattle.std.proofs.Common.{◌≡◌, ◌++◌, map, vec_items}
use Rattle.std.specs.List.{AllByRecursion}
use Rattle.scanner.specs.Lines.{lines_of}
use Rattle.waiting_orders.specs.Forms.{numbers_of, written, InRange}
use Rattle.waiting_orders.proofs.read_orders.Given as goal

-- the lines before those that are left are those of the orders
abbrev pub invariant-loop-line : goal.invariant-loop-line
invariant-loop-line l = record {
  is : lines_of l.text ≡ map written (vec_items l.orders) ++ lines_of l.line-iterator.rest.now;
  ranges : AllByRecursion (λ e. InRange (numbers_of e)) (vec_items l.orders);
}
