-- What the layer means and when it is sound, by the meaning and the soundness of the heap below.
use Rattle.std.specs.Prelude.{Bool}
use Rattle.stores.specs.Meaning.{Meaning}
use Rattle.cancelled.specs.Cancelled.{lazily, Over}
use Rattle.lazy.specs.declared.layer.Lazy.{Lazy}

abbrev pub lazy_meaning : {T B : Type 0} → (B → Meaning T) → Lazy B → Meaning T
lazy_meaning means s = lazily s.own.queue_of (means s.below)

abbrev pub lazy_sound : {T B : Type 0} → (T → T → Bool) → (B → Type 0) → (B → Meaning T) → Lazy B → Type 0
lazy_sound le sound means s = Over le (sound s.below) s.own.queue_of s.own.counts s.own.height (means s.below)
