-- What a table stands for, when it is sound, and what it can be made of.
use Rattle.std.specs.Prelude.{◌≡◌, ℕ, Bool}
use Rattle.stores.specs.Meaning.{Meaning, Sizes}
use Rattle.records.specs.Whole.{meant, Sound}
use Rattle.table.specs.declared.Table.{Table}

abbrev pub meaning_of : {T : Type 0} → (T → T → Bool) → Table T → Meaning T
meaning_of le t = meant le t.cells.now t.next t.stamps

abbrev pub SoundTable : {T : Type 0} → Table T → Type 0
SoundTable t = Sound t.cells.now t.next t.stamps

-- the length of a slice, and the sizes, of which a table can be made
pub record Fit (long cells stamps : ℕ) : Type 0 where
  pub same : long ≡ cells
  pub sizes : Sizes cells stamps
