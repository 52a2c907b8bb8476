use Rattle.std.proofs.Common.{◌∙◌, arith}
use Rattle.trace.proofs.Filling.{byte_filled, gap_filled}
use Rattle.trace.proofs.templates.fill_template.Goals as goal
use Rattle.trace.proofs.templates.fill_template.Goals.{then-byte-eq-GAP+in-Some, else-byte-eq-GAP}

pub loop-byte-preserved : goal.loop-byte-preserved
loop-byte-preserved c =
    let before = c.loop-byte.invariant in
    elim c.if-byte-eq-GAP.branch [
      | then-byte-eq-GAP+in-Some w ↦
          let put = w.put_number.ensures in
          let h = gap_filled _ _ _ _ _ _ _ before.so_far c.loop-byte-test.true _ _ w.in-Some.number.now _ w.if-byte-eq-GAP.true w.in-Some.ensures.steps (omega arith) put.put in
          rw (w.writer-is, w.numbers-is) (record { same_buffer = put.same_buffer ∙ before.same_buffer; same_length = put.same_length ∙ before.same_length; so_far = h })
      | else-byte-eq-GAP w ↦
          let put = w.put_byte.ensures in
          let h = byte_filled _ _ _ _ _ _ _ before.so_far c.loop-byte-test.true _ _ w.if-byte-eq-GAP.false put.put in
          rw (w.writer-is, w.numbers-is) (record { same_buffer = put.same_buffer ∙ before.same_buffer; same_length = put.same_length ∙ before.same_length; so_far = h })
    ]
