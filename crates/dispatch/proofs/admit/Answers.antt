use Rattle.std.proofs.Common.{ap}
use Rattle.elements.specs.Elements.{line_le}
use Rattle.dispatch.proofs.Admitting.{admitted_none, admitted_all, admitted_more, rejected}
use Rattle.dispatch.proofs.admit.Goals as goal

pub loop-index-init : goal.loop-index-init
loop-index-init g c = (c.requires, admitted_none line_le _)

pub returns-in-Err-clause-effect : goal.returns-in-Err-clause-effect
returns-in-Err-clause-effect g c = rejected line_le _ _ _ _ _ _ c.loop-index-test.true c.loop-index.invariant.1 c.in-Err.refusal c.in-Err.ensures.effect (ap g.A.Store.meaning c.in-Err.ensures.refused)

pub loop-index-preserved : goal.loop-index-preserved
loop-index-preserved g c = (c.put.ensures.sound, admitted_more line_le _ _ _ _ _ _ c.loop-index-test.true c.loop-index.invariant.1 _ c.in_default.ensures.effect)

pub returns-clause-effect : goal.returns-clause-effect
returns-clause-effect g c = admitted_all line_le _ _ _ _ c.loop-index-test.false c.loop-index.invariant.1
