use Rattle.std.proofs.Common.{◌+◌, ◌≤◌, length, vec_items, vec_len, vec_capacity}
use Rattle.elements.specs.Elements.{line_le}
use Rattle.stores.specs.Meaning.{list_of}
use Rattle.dispatch.proofs.Serving.{Serving}
use Rattle.dispatch.proofs.serve.Given as goal

abbrev pub invariant-serving : goal.invariant-serving
invariant-serving g l =
    g.A.Store.sound l.line
    × Serving line_le (g.A.Store.meaning l.initial.line) (vec_items l.served) (g.A.Store.meaning l.line)
    × (vec_len l.served + length (list_of (g.A.Store.meaning l.line).state 0) ≤ vec_capacity l.served)

abbrev pub decreases-serving : goal.decreases-serving
decreases-serving g l = length (list_of (g.A.Store.meaning l.line).state 0)
