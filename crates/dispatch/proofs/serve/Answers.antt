use Rattle.std.proofs.Common.{arith}
use Rattle.elements.specs.Elements.{line_le}
use Rattle.dispatch.proofs.Serving.{serving_more, one_less, served}
use Rattle.dispatch.proofs.serve.Goals as goal

pub serving-preserved : goal.serving-preserved
serving-preserved g c = (
  c.take_front.ensures.sound,
  serving_more line_le _ _ _ _ c.serving.invariant.1 c.in-Some.entry c.in-Some.ensures.effect _ c.push_reserved.ensures.items,
  omega (arith, one_less line_le _ _ _ _ c.serving.invariant.1 c.in-Some.entry c.in-Some.ensures.effect),
)

pub returns-clause-effect : goal.returns-clause-effect
returns-clause-effect g c = served line_le _ _ _ _ c.serving.invariant.1 c.in_default.ensures.effect
