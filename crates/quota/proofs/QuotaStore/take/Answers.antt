use Rattle.quota.proofs.Limited.{takes_over}
use Rattle.quota.proofs.QuotaStore.take.Goals as goal

pub returns-clause-effect : goal.returns-clause-effect
returns-clause-effect g c = takes_over (g.B.Store.meaning c.args.self.now.below) _ _ _ c.requires c.args.queue c.take.result c.take.ensures.effect
