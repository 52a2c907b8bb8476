use Rattle.std.proofs.Common.{◌≡◌, Err, rules}
use Rattle.stores.proofs.Answering.{puts_refused}
use Rattle.quota.specs.Limiting.{with_limits}
use Rattle.quota.specs.Formed.{formed_with_limits}
use Rattle.quota.proofs.Limited.{not_counted, put_answer_open, put_answer_full, puts_over}
use Rattle.quota.proofs.QuotaStore.put.Goals as goal

pub returns-in_err-count-clause-effect : goal.returns-in_err-count-clause-effect
returns-in_err-count-clause-effect g c =
    let s = c.args.self.now in
    let told : c.from_residual.result ≡ Err c.in_err-count.field-0.0 = search rules in
    let far = not_counted (with_limits s.own.limits (g.B.Store.meaning s.below)) c.args.queue _ c.in_err-count.ensures.answer in
    rw told (puts_refused (formed_with_limits c.requires) c.args.queue c.args.element _ far)

pub returns-then-reached-clause-effect : goal.returns-then-reached-clause-effect
returns-then-reached-clause-effect g c =
    let full = put_answer_full _ _ _ c.requires c.args.queue c.in_ok-count.count c.reached.result c.in_ok-count.ensures.answer c.reached.ensures c.if-reached.true c.refusal.result c.refusal.ensures in
    puts_refused (formed_with_limits c.requires) c.args.queue c.args.element _ full

pub returns-clause-effect : goal.returns-clause-effect
returns-clause-effect g c =
    let m = g.B.Store.meaning c.args.self.now.below in
    let room = put_answer_open m _ _ c.requires c.args.queue c.in_ok-count.count c.reached.result c.in_ok-count.ensures.answer c.reached.ensures c.if-reached.false in
    puts_over m _ _ _ c.requires c.args.queue c.args.element c.put.result room c.put.ensures.effect
