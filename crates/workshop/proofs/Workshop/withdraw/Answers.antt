use Rattle.std.proofs.Common.{refl, arith, rules}
use Rattle.stores.proofs.Answering.{unchanged_over}
use Rattle.simulations.proofs.Withdrawing.{withdraw_waiting, withdraw_missed, withdraw_serving, interrupted_fit}
use Rattle.workshop.proofs.Pulling.{waited, served, was_missed, waited_left, served_left, missed_left}
use Rattle.workshop.proofs.Workshop.withdraw.Goals as goal

pub returns-in-FromLine : goal.returns-in-FromLine
returns-in-FromLine g c =
    let q = c.pull_out.ensures in
    let s = c.in-FromLine.stamp in
    let e = waited_left c.args.i c.args.kind _ _ _ c.requires.kind q.answer q.left s c.in-FromLine.is in
    record {
      sound = search rules;
      call = rw (c.note.ensures, e) (withdraw_waiting c.args.i _ _ _ _ c.requires.ready.fit (omega (arith, c.requires.places)) s _ _ (waited c.args.i c.args.kind _ _ _ c.requires.kind q.answer q.left s c.in-FromLine.is) (rw e at c.cancel.ensures.effect) (unchanged_over g.O.Store.meaning _ _ _ (rw e at c.cancel.ensures.refused)));
      same = search rules;
    }

pub returns-in-Missed : goal.returns-in-Missed
returns-in-Missed g c =
    let q = c.pull_out.ensures in
    let e = missed_left c.args.i c.args.kind _ _ _ c.requires.kind q.answer q.left c.in-Missed.is in
    record {
      sound = search rules;
      call = rw (c.note-in-Missed.ensures, e) (withdraw_missed c.args.i _ _ _ _ c.requires.ready.fit (omega (arith, c.requires.places)) _ refl (was_missed c.args.i c.args.kind _ _ _ c.requires.kind q.answer q.left c.in-Missed.is).told);
      same = search rules;
    }

pub start_front-requires-clause-ready : goal.start_front-requires-clause-ready
start_front-requires-clause-ready g c =
    let w = c.args.self.now in
    let q = c.pull_out.ensures in
    let k = c.in-FromBench.station in
    let s = c.in-FromBench.stamp in
    let e = served_left c.args.i c.args.kind _ _ _ c.requires.kind q.answer q.left k s c.in-FromBench.is in
    rw (c.clear_bench.ensures, c.new-k.ensures, e) (record { sound = (c.cancel-in-FromBench.ensures.sound, c.requires.ready.sound.1); fit = interrupted_fit c.args.i _ _ _ _ c.requires.ready.fit (omega (arith, c.requires.places)) k s _ _ (rw e at c.cancel-in-FromBench.ensures.effect) })

pub returns-in-FromBench : goal.returns-in-FromBench
returns-in-FromBench g c =
    let w = c.args.self.now in
    let q = c.pull_out.ensures in
    let k = c.in-FromBench.station in
    let s = c.in-FromBench.stamp in
    let e = served_left c.args.i c.args.kind _ _ _ c.requires.kind q.answer q.left k s c.in-FromBench.is in
    let is = served c.args.i c.args.kind _ _ _ c.requires.kind q.answer q.left k s c.in-FromBench.is in
    let p = rw (c.clear_bench.ensures, c.new-k.ensures, e) at c.start_front.ensures.call in
    record {
      sound = search rules;
      call = record {
        fit = p.fit;
        few = omega (arith, p.few);
        outcome = withdraw_serving c.args.i _ _ _ _ c.requires.ready.fit (omega (arith, c.requires.places)) k s _ _ (rw e at c.cancel-in-FromBench.ensures.effect) _ (unchanged_over g.E.Store.meaning _ _ _ (rw e at c.cancel-in-FromBench.ensures.refused)) is p.outcome;
      };
      same = search rules;
    }
