use Rattle.elements.proofs.Strictness.{reflexive, strict}
use Rattle.elements.proofs.entries.entries_are_ordered.Goals as goal

pub returns : goal.returns
returns g c = record {
  reflexive = reflexive g.T.Ordered.le g.met.T.Ordered.laws;
  strict = strict g.T.Ordered.le g.met.T.Ordered.laws;
}
