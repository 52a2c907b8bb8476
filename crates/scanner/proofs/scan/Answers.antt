use Rattle.std.proofs.Common.{ℕ, length, sym, ap, ◌∙◌, subst, arith, length-set}
use Rattle.std.proofs.lemmas.Bool.{eqb-true}
use Rattle.std.proofs.lemmas.Bool.Decides.{nat_tests}
use Rattle.std.proofs.lemmas.List.{nil_from_length}
use Rattle.std.specs.Bool.{then_some}
use Rattle.scanner.specs.Templates.{Scans}
use Rattle.scanner.proofs.Cutting.{part_behind}
use Rattle.scanner.proofs.Scanning.{at_numeral, no_numeral, at_byte, all_read}
use Rattle.scanner.proofs.scan.Goals as goal
use Rattle.scanner.proofs.scan.Goals.{then-byte-eq-GAP+else-count+in_ok-token, else-byte-eq-GAP+in_ok-rest, then-is_empty, else-is_empty}

pub returns-in_err-token : goal.returns-in_err-token
returns-in_err-token g c =
    subst (Scans g.row.N c.args.template.now c.args.line.now) (sym c.from_residual.ensures) (no_numeral _ _ _ _ _ _ c.loop-byte.invariant.1 c.loop-byte-test.true c.if-byte-eq-GAP.true g.row.N c.in_err-token.ensures)

pub loop-byte-preserved : goal.loop-byte-preserved
loop-byte-preserved g c =
    elim c.if-byte-eq-GAP.branch [
      | then-byte-eq-GAP+else-count+in_ok-token w ↦
          let found = w.in_ok-token.ensures in
          let h = at_numeral _ _ _ _ _ _ c.loop-byte.invariant.1 c.loop-byte-test.true w.if-byte-eq-GAP.true _ _ _ (part_behind _ _ _ found.1.rest) (omega arith) found.0 in
          rw (w.numbers-is, w.rest-is, w.count-is) (omega (arith, length-set {A = ℕ}), h)
      | else-byte-eq-GAP+in_ok-rest w ↦
          let h = at_byte _ _ _ _ _ _ c.loop-byte.invariant.1 c.loop-byte-test.true w.if-byte-eq-GAP.false _ w.in_ok-rest.ensures.0 in
          rw (w.numbers-is, w.rest-is, w.count-is) (c.loop-byte.invariant.0, h)
    ]

pub returns : goal.returns
returns g c =
    let scanned = all_read _ _ _ _ _ _ c.loop-byte.invariant.1 c.loop-byte-test.false g.row.N c.if-is_empty.then_some c.loop-byte.invariant.0 in
    let h : Scans g.row.N c.args.template.now c.args.line.now (then_some c.if-is_empty.then_some c.loop-byte.numbers) = elim c.if-is_empty.branch [
      | then-is_empty w ↦
          let none = nil_from_length _ (eqb-true _ 0 (sym c.is_empty.ensures ∙ w.if-is_empty.true)) in
          scanned (λ y. (none, eqb-true _ _ (sym w.then_some-is ∙ y))) (λ n _ e. absurd (grind (arith, nat_tests, w.then_some-is, n, e)))
      | else-is_empty w ↦
          scanned (λ y. absurd (grind (arith, nat_tests, w.then_some-is, y))) (λ _ e _. absurd (grind (arith, nat_tests, c.is_empty.ensures, w.if-is_empty.false, ap length e)))
    ] in
    subst (Scans g.row.N c.args.template.now c.args.line.now) (sym c.then_some.ensures) h
