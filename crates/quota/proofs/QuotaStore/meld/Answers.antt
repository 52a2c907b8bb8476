use Rattle.quota.proofs.Limited.{melds_over}
use Rattle.quota.proofs.QuotaStore.meld.Goals as goal

pub returns-clause-effect : goal.returns-clause-effect
returns-clause-effect g c = melds_over (g.B.Store.meaning c.args.self.now.below) _ _ _ c.requires c.args.into c.args.from c.meld.result c.meld.ensures.effect
