use Rattle.std.proofs.Common.{◌≡◌, Err, rules}
use Rattle.journal.proofs.Noting.{writes_none}
use Rattle.journal.proofs.Raising.{melds_raised}
use Rattle.journal.proofs.journals.JournalStore.meld.Goals as goal

pub returns-in_err-moved-clause-effect : goal.returns-in_err-moved-clause-effect
returns-in_err-moved-clause-effect g c =
    let told : c.from_residual.result ≡ Err c.in_err-moved.field-0.0 = search rules in
    rw told (melds_raised (g.B.Store.meaning c.args.self.now.below) _ _ c.requires c.args.into c.args.from _ c.in_err-moved.ensures.effect)

pub returns-in_err-moved-clause-writes : goal.returns-in_err-moved-clause-writes
returns-in_err-moved-clause-writes g c =
    let told : c.from_residual.result ≡ Err c.in_err-moved.field-0.0 = search rules in
    rw told (writes_none c.args.self.now.own c.requires.kept)

pub returns-clause-effect : goal.returns-clause-effect
returns-clause-effect g c = melds_raised (g.B.Store.meaning c.args.self.now.below) _ _ c.requires c.args.into c.args.from _ c.in_ok-moved.ensures.effect
