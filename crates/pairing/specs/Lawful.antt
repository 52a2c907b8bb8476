-- Pairing heaps have what is asked of a layout of forests and of a form of heap.
use Rattle.std.specs.Prelude.{Bool, refl}
use Rattle.elements.specs.Order.{Strict, precedes_by, stamp_of}
use Rattle.cells.specs.Lawful.{Lawful}
use Rattle.forests.specs.Layouts.{Consistent}
use Rattle.forests.proofs.Layouts.{shaped_lawful}
use Rattle.pairing.specs.Pairing.{Alone, cells_of, pairing}

pub laid : {T : Type 0} (le : T → T → Bool) → Consistent (cells_of le)
laid le = record {
  child_is = λ c s. refl;
  next_is = λ c s. refl;
  idle_is = λ o. refl;
  with_next_is = λ c s t. refl;
  with_child_is = λ j f d c s. refl;
}

pub lawful : {T : Type 0} (le : T → T → Bool) → Strict (precedes_by le) (stamp_of {T = T}) → Lawful (pairing le)
lawful le law = shaped_lawful (cells_of le) Alone law (laid le) tt (λ i e. refl)
