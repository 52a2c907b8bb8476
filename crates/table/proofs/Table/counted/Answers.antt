use Rattle.std.proofs.Common.{is_some, arith}
use Rattle.std.proofs.lemmas.List.Sums.{count_by-le-length}
use Rattle.records.specs.Cells.{entry_in}
use Rattle.table.proofs.Table.counted.Goals as goal

pub overflow_cast-result : goal.overflow_cast-result
overflow_cast-result g c = omega (arith, c.count_in.ensures, count_by-le-length (λ x. is_some (entry_in c.args.queue x)) c.args.self.now.cells.now)
