use Rattle.std.proofs.Common.{◌∙◌}
use Rattle.cancelled.proofs.Layer.{first_lazily}
use Rattle.lazy.proofs.layer.LazyStore.first.Goals as goal

pub returns : goal.returns
returns g c = record { answer = c.first.ensures.answer ∙ first_lazily _ _ _ _ c.requires c.args.queue }
