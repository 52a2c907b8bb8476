-- What a store means with one more limit on each queue, one layer higher.
use Rattle.std.specs.Prelude.{◌≡◌, ℕ, ◌+◌, ◌<◌, ◌≤◌, Bool, List, [], ◌∷◌, length}
use Rattle.stores.specs.Meaning.{Pair, Fixed, Meaning, WellFormed}
use Rattle.quota.specs.declared.Quota.{Quota}

-- each queue's pairs, with its limit at height h in front
unfoldable pub added : List ℕ → ℕ → List (List Pair) → List (List Pair)
added [] h pss = pss
added (l ∷ ls) h [] = []
added (l ∷ ls) h (ps ∷ pss) = (record { limit = l; height = h } ∷ ps) ∷ added ls h pss

abbrev pub with_limits_fixed : List ℕ → Fixed → Fixed
with_limits_fixed ls f = record {
  cells = f.cells;
  stamps = f.stamps;
  pairs = added ls (f.height + 1) f.pairs;
  height = f.height + 1;
  cancelling = f.cancelling;
}

abbrev pub with_limits : {T : Type 0} → List ℕ → Meaning T → Meaning T
with_limits ls m = record { state = m.state; fixed = with_limits_fixed ls m.fixed; held = m.held }

-- the layer can be made over a store that means m
pub record Fit {T : Type 0} (m : Meaning T) : Type 0 where
  pub low : m.fixed.height < 255

-- the layer of height h with the limits ls, over a store that means m and is sound where Below holds
pub record Over {T : Type 0} (le : T → T → Bool) (Below : Type 0) (m : Meaning T) (ls : List ℕ) (h : ℕ) : Type 0 where
  pub below : Below
  pub formed : WellFormed le m
  pub own : length ls ≡ 32
  pub above : h ≡ m.fixed.height + 1
  pub low : h ≤ 255

-- what the layer means and when it is sound, by the meaning and the soundness of the store below
abbrev pub quota_meaning : {T B : Type 0} → (B → Meaning T) → Quota B → Meaning T
quota_meaning means s = with_limits s.own.limits (means s.below)

abbrev pub quota_sound : {T B : Type 0} → (T → T → Bool) → (B → Type 0) → (B → Meaning T) → Quota B → Type 0
quota_sound le sound means s = Over le (sound s.below) (means s.below) s.own.limits s.own.height
