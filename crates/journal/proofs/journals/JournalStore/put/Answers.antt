use Rattle.std.proofs.Common.{◌≡◌, Err, rules}
use Rattle.journal.proofs.Noting.{writes_none}
use Rattle.journal.proofs.Raising.{puts_raised}
use Rattle.journal.proofs.journals.JournalStore.put.Goals as goal

pub returns-in_err-stamp-clause-effect : goal.returns-in_err-stamp-clause-effect
returns-in_err-stamp-clause-effect g c =
    let told : c.from_residual.result ≡ Err c.in_err-stamp.field-0.0 = search rules in
    rw told (puts_raised (g.B.Store.meaning c.args.self.now.below) _ _ c.requires c.args.queue c.args.element _ c.in_err-stamp.ensures.effect)

pub returns-in_err-stamp-clause-writes : goal.returns-in_err-stamp-clause-writes
returns-in_err-stamp-clause-writes g c =
    let told : c.from_residual.result ≡ Err c.in_err-stamp.field-0.0 = search rules in
    rw told (writes_none c.args.self.now.own c.requires.kept)

pub returns-clause-effect : goal.returns-clause-effect
returns-clause-effect g c = puts_raised (g.B.Store.meaning c.args.self.now.below) _ _ c.requires c.args.queue c.args.element _ c.in_ok-stamp.ensures.effect
