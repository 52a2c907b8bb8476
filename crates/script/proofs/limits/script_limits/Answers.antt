use Rattle.std.proofs.Common.{Some, replicate, ap, sym, ◌∙◌}
use Rattle.scanner.specs.Lines.{lines_of}
use Rattle.machine.specs.Script.{limits_in}
use Rattle.script.proofs.Lines.{same_lines}
use Rattle.script.proofs.Limiting.{limits_more}
use Rattle.script.proofs.limits.script_limits.Goals as goal

pub loop-line-init : goal.loop-line-init
loop-line-init c =
    ap (λ ls. limits_in ls (replicate 32 65535)) (ap (λ s. lines_of s.rest.now) c.into_iter-line-iterator.ensures.into_iter_gives ∙ ap lines_of c.of-line-items.ensures ∙ sym (same_lines c.args.script.now))

pub loop-line-preserved-in-Some-read_form : goal.loop-line-preserved-in-Some-read_form
loop-line-preserved-in-Some-read_form c = limits_more _ _ _ _ _ (lines_of c.next.new.self.rest.now) (Some c.in-Some-read_form.form) c.loop-line.invariant c.in-Some.ensures.steps c.in-Some-read_form.ensures.value c.note_limit.ensures
