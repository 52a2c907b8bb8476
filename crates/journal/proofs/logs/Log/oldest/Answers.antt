use Rattle.journal.proofs.Noting.{nth_none, nth_some}
use Rattle.journal.proofs.logs.Log.oldest.Goals as goal

pub returns-then-i-self : goal.returns-then-i-self
returns-then-i-self c = nth_some c.args.self.now c.requires c.args.i c.place.result c.if-i-self.true c.place.ensures

pub returns-else-i-self : goal.returns-else-i-self
returns-else-i-self c = nth_none c.args.self.now c.requires c.args.i c.if-i-self.false
