use Rattle.std.proofs.Common.{[], ◌∷◌}
use Rattle.elements.specs.Order.{precedes_by, stamp_of}
use Rattle.elements.proofs.Strictness.{strict}
use Rattle.stores.proofs.Merging.{sorted_merge}
use Rattle.stores.proofs.Removing.{sorted_rest, sorted_without}
use Rattle.stores.proofs.laws.sorted_stays_sorted.Goals as goal

pub returns : goal.returns
returns g c =
    let before = precedes_by g.T.Ordered.le in
    let law = strict g.T.Ordered.le g.met.T.Ordered.laws in
    record {
      insertion = λ x xs apart s. sorted_merge before stamp_of law (x ∷ []) xs apart (tt, tt) s;
      joining = sorted_merge before stamp_of law;
      taking = sorted_rest before;
      removal = sorted_without before stamp_of law;
    }
