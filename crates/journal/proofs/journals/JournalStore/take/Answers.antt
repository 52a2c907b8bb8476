use Rattle.std.proofs.Common.{◌≡◌, Ok, Err, subst, rules}
use Rattle.stores.specs.Promises.{Takes}
use Rattle.journal.proofs.Noting.{writes_none}
use Rattle.journal.proofs.Raising.{takes_raised}
use Rattle.journal.proofs.journals.JournalStore.take.Goals as goal

pub returns-in_err-entry-clause-effect : goal.returns-in_err-entry-clause-effect
returns-in_err-entry-clause-effect g c =
    let told : c.from_residual.result ≡ Err c.in_err-entry.field-0.0 = search rules in
    rw told (takes_raised (g.B.Store.meaning c.args.self.now.below) _ _ c.requires c.args.queue _ c.in_err-entry.ensures.effect)

pub returns-in_err-entry-clause-writes : goal.returns-in_err-entry-clause-writes
returns-in_err-entry-clause-writes g c =
    let told : c.from_residual.result ≡ Err c.in_err-entry.field-0.0 = search rules in
    rw told (writes_none c.args.self.now.own c.requires.kept)

pub returns-in_default-clause-effect : goal.returns-in_default-clause-effect
returns-in_default-clause-effect g c =
    let m = g.B.Store.meaning c.args.self.now.below in
    takes_raised m _ _ c.requires c.args.queue _ (subst (λ o. Takes g.B.Item.Ordered.le m c.args.queue (Ok o) (g.B.Store.meaning c.take.new.self)) c.in_default.is c.in_ok-entry.ensures.effect)

pub returns-in_default-clause-writes : goal.returns-in_default-clause-writes
returns-in_default-clause-writes g c = writes_none c.args.self.now.own c.requires.kept

pub returns-clause-effect : goal.returns-clause-effect
returns-clause-effect g c =
    let m = g.B.Store.meaning c.args.self.now.below in
    takes_raised m _ _ c.requires c.args.queue _ (subst (λ o. Takes g.B.Item.Ordered.le m c.args.queue (Ok o) (g.B.Store.meaning c.take.new.self)) c.in-Some.is c.in_ok-entry.ensures.effect)
