-- What a store of heaps over two lent slices means, and when it is sound.
use Rattle.std.specs.Prelude.{◌≡◌, Bool}
use Rattle.stores.specs.Meaning.{Meaning}
use Rattle.cells.specs.Forms.{Form}
use Rattle.cells.specs.Queues.{Sound, meaning_of}
use Rattle.heap_store.specs.declared.store.HeapStore.{HeapStore}

-- the store still has the two slices that it was lent
abbrev pub SameSlices : {T L : Type 0} → HeapStore L T → HeapStore L T → Type 0
SameSlices s n = (n.links.ghost_name ≡ s.links.ghost_name) × (n.entries.ghost_name ≡ s.entries.ghost_name)

module _ {T L : Type 0} {le : T → T → Bool} (F : Form le L) where
  abbrev pub meaning_lent : HeapStore L T → Meaning T
  meaning_lent s = meaning_of F s.heads s.links.now s.entries.now

  -- each cell is in one queue's heap, once, or idle; each heap has the form's shape and order
  abbrev pub sound_lent : HeapStore L T → Type 0
  sound_lent s = Sound F s.heads s.links.now s.entries.now
