use Rattle.dispatch.proofs.Sorting.{service_ranked}
use Rattle.dispatch.proofs.service_is_ranked.Goals as goal

pub returns : goal.returns
returns g c xs = service_ranked g.T.Ordered.le xs g.met.T.Ordered.laws
