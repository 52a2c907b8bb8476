-- Leftist heaps have what is asked of a form of heap.
use Rattle.std.specs.Prelude.{Bool, refl}
use Rattle.std.proofs.Common.{zero-le}
use Rattle.elements.specs.Order.{Strict, precedes_by, stamp_of}
use Rattle.cells.specs.Lawful.{Lawful}
use Rattle.cells.proofs.Binary.{length_listed, root_listed, sorted_listed}
use Rattle.leftist.specs.Leftist.{leftist}

pub lawful : {T : Type 0} (le : T → T → Bool) → Strict (precedes_by le) (stamp_of {T = T}) → Lawful (leftist le)
lawful le law = record {
  left_is = λ l r. refl;
  right_is = λ l r. refl;
  next_is = λ o. refl;
  valid_leaf = (tt, tt);
  valid_one = λ i e. ((zero-le, tt, tt), (tt, tt, tt, tt));
  list_leaf = refl;
  list_one = λ i e. refl;
  list_root = root_listed (precedes_by le) stamp_of;
  list_long = length_listed (precedes_by le);
  sorted = λ t once valid. sorted_listed (precedes_by le) stamp_of law t once valid.1;
}
