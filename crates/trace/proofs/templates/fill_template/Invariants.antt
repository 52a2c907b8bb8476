use Rattle.std.proofs.Common.{◌≡◌, length}
use Rattle.trace.proofs.Filling.{Sofar}
use Rattle.trace.proofs.templates.fill_template.Given as goal

abbrev pub invariant-loop-byte : goal.invariant-loop-byte
invariant-loop-byte l = record {
  same_buffer : l.writer.out.ghost_name ≡ l.initial.writer.out.ghost_name;
  same_length : length l.writer.out.now ≡ length l.initial.writer.out.now;
  so_far : Sofar l.template l.fn.numbers l.initial.writer.out.now l.byte-index l.numbers.rest.now l.writer.out.now l.writer.at;
}
