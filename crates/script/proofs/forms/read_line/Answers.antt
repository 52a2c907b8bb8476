use Rattle.std.proofs.Common.{◌≡◌, Err, rules}
use Rattle.machine.specs.declared.forms.ScriptRefusal.TheVariants.{TooLong}
use Rattle.script.specs.Readings.{reading}
use Rattle.script.proofs.Classifying.{with_machine}
use Rattle.script.proofs.forms.read_line.Goals as goal

pub returns-then-line-gt-LONGEST_LINE-clause-machine : goal.returns-then-line-gt-LONGEST_LINE-clause-machine
returns-then-line-gt-LONGEST_LINE-clause-machine c =
    let e : Err TooLong ≡ reading c.args.line.now = search rules in
    with_machine c.args.line.now _ e

pub returns-clause-machine : goal.returns-clause-machine
returns-clause-machine c =
    let e : c.ok_or.result ≡ reading c.args.line.now = search rules in
    with_machine c.args.line.now _ e
