use Rattle.std.proofs.Common.{cond, eqb, get_or, set, sym, ap, ◌∙◌, arith}
use Rattle.std.proofs.lemmas.List.{get_or_default}
use Rattle.std.proofs.lemmas.List.Edits.{map_over_more}
use Rattle.std.proofs.lemmas.Bool.{cond-true, cond-false, eq-eqb, ne_eqb}
use Rattle.lazy.proofs.marking.rename.Goals as goal
use Rattle.lazy.proofs.marking.rename.Goals.{then-mark-old, else-mark-old}

pub loop-mark-preserved : goal.loop-mark-preserved
loop-mark-preserved c =
    let ys = c.loop-mark.marks in
    let i = c.loop-mark.mark-index in
    let v = get_or ys i 0 in
    let b = eqb v c.args.old in
    let more = map_over_more (λ w. cond (eqb w c.args.old) c.args.new w) c.args.marks.now ys i v c.loop-mark-test.true c.loop-mark.invariant (get_or_default ys i 0 v (omega arith)) in
    elim c.if-mark-old.branch [
      | then-mark-old w ↦ w.marks-is ∙ ap (set ys i) (sym (cond-true b c.args.new v (eq-eqb v c.args.old w.if-mark-old.true))) ∙ more
      | else-mark-old w ↦ w.marks-is ∙ ap (set ys i) (sym (cond-false b c.args.new v (ne_eqb v c.args.old w.if-mark-old.false))) ∙ more
    ]
