use Rattle.elements.specs.Order.{precedes_by}
use Rattle.dispatch.specs.Service.{numbered}
use Rattle.dispatch.proofs.Sorting.{count_sort, service_counts}
use Rattle.dispatch.proofs.service_is_complete.Goals as goal

pub returns : goal.returns
returns g c = record {
  elements = λ xs p. service_counts g.T.Ordered.le xs p;
  places = λ xs p. count_sort (precedes_by g.T.Ordered.le) p (numbered 0 xs);
}
