use Rattle.std.proofs.Common.{◌≡◌, Err, rules}
use Rattle.journal.proofs.Noting.{writes_none}
use Rattle.journal.proofs.Raising.{cancels_raised}
use Rattle.journal.proofs.journals.JournalAgenda.cancel.Goals as goal

pub returns-in_err-queue-clause-effect : goal.returns-in_err-queue-clause-effect
returns-in_err-queue-clause-effect g c =
    let told : c.from_residual.result ≡ Err c.in_err-queue.field-0.0 = search rules in
    rw told (cancels_raised (g.B.Store.meaning c.args.self.now.below) _ _ c.requires c.args.stamp _ c.in_err-queue.ensures.effect)

pub returns-in_err-queue-clause-writes : goal.returns-in_err-queue-clause-writes
returns-in_err-queue-clause-writes g c =
    let told : c.from_residual.result ≡ Err c.in_err-queue.field-0.0 = search rules in
    rw told (writes_none c.args.self.now.own c.requires.kept)

pub returns-clause-effect : goal.returns-clause-effect
returns-clause-effect g c = cancels_raised (g.B.Store.meaning c.args.self.now.below) _ _ c.requires c.args.stamp _ c.in_ok-queue.ensures.effect
