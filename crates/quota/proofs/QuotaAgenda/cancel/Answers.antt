use Rattle.quota.proofs.Limited.{cancels_over}
use Rattle.quota.proofs.QuotaAgenda.cancel.Goals as goal

pub returns-clause-effect : goal.returns-clause-effect
returns-clause-effect g c = cancels_over (g.B.Store.meaning c.args.self.now.below) _ _ _ c.requires c.args.stamp c.cancel.result c.cancel.ensures.effect
