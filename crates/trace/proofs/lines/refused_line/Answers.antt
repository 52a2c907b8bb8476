use Rattle.std.proofs.Common.{Some, ap, ◌∙◌}
use Rattle.trace.proofs.Spelling.{refused_written}
use Rattle.trace.proofs.lines.refused_line.Goals as goal

pub returns-in-Some : goal.returns-in-Some
returns-in-Some c = refused_written _ _ _ _ _ _ _ _ (c.from-number.ensures ∙ c.number.ensures) (ap Some c.from.ensures ∙ c.in-Some.ensures) c.fill_template.ensures.fits c.fill_template.ensures.put

pub returns-in-None : goal.returns-in-None
returns-in-None c = refused_written _ _ _ _ _ _ _ _ (c.from-number.ensures ∙ c.number.ensures) c.in-None.ensures c.fill_template-in-None.ensures.fits c.fill_template-in-None.ensures.put
