use Rattle.std.proofs.Common.{cond}
use Rattle.elements.specs.Order.{precedes_by, stamp_of}
use Rattle.elements.proofs.Strictness.{strict}
use Rattle.stores.proofs.Merging.{merge_assoc, merge_comm}
use Rattle.stores.proofs.Counting.{sum_merge}
use Rattle.stores.proofs.laws.joined_has_both.Goals as goal

pub returns : goal.returns
returns g c =
    let before = precedes_by g.T.Ordered.le in
    let law = strict g.T.Ordered.le g.met.T.Ordered.laws in
    record {
      members = λ test. sum_merge before (λ x. cond (test x) 1 0);
      either_way = merge_comm before stamp_of law;
      any_grouping = merge_assoc before stamp_of law;
    }
