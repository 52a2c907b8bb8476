-- What a store means one layer higher, and which changes each call makes.
use Rattle.std.specs.Prelude.{◌≡◌, ℕ, ◌+◌, ◌<◌, ◌≤◌, Bool, List, [], ◌∷◌, Some, None, Ok, Err, Option, Result}
use Rattle.elements.specs.declared.entries.Entry.{Entry}
use Rattle.stores.specs.declared.refusals.Refusal.{Refusal}
use Rattle.stores.specs.Meaning.{Fixed, Meaning, WellFormed}
use Rattle.journal.specs.declared.journals.Journal.{Journal}
use Rattle.journal.specs.declared.logs.Log.{Log}
use Rattle.journal.specs.declared.logs.Change.{Change}
use Rattle.journal.specs.declared.logs.Change.TheVariants.{Put, Take, Meld, Cancel}
use Rattle.journal.specs.Kept.{WellKept}

abbrev pub raised_fixed : Fixed → Fixed
raised_fixed f = record { cells = f.cells; stamps = f.stamps; pairs = f.pairs; height = f.height + 1; cancelling = f.cancelling }

abbrev pub raised : {T : Type 0} → Meaning T → Meaning T
raised m = record { state = m.state; fixed = raised_fixed m.fixed; held = m.held }

-- the layer can be made over a store that means m, with J places
pub record Fit {T : Type 0} (m : Meaning T) (J : ℕ) : Type 0 where
  pub low : m.fixed.height < 255
  pub some : 1 ≤ J
  pub most : J ≤ 1024

-- the layer with the log l, over a store that means m and is sound where Below holds
pub record Over {T : Type 0} (le : T → T → Bool) (Below : Type 0) (m : Meaning T) (l : Log) : Type 0 where
  pub below : Below
  pub formed : WellFormed le m
  pub kept : WellKept l
  pub above : l.height ≡ m.fixed.height + 1
  pub low : l.height ≤ 255

-- what the layer means and when it is sound, by the meaning and the soundness of the store below
abbrev pub journal_meaning : {T B : Type 0} → (B → Meaning T) → Journal B → Meaning T
journal_meaning means s = raised (means s.below)

abbrev pub journal_sound : {T B : Type 0} → (T → T → Bool) → (B → Type 0) → (B → Meaning T) → Journal B → Type 0
journal_sound le sound means s = Over le (sound s.below) (means s.below) s.own

-- the change that each call makes, by its answer: none where it is refused, nor where a take finds nothing
abbrev pub put_change : ℕ → Result ℕ Refusal → List Change
put_change q (Err f) = []
put_change q (Ok k) = Put q k ∷ []

abbrev pub take_change : {T : Type 0} → ℕ → Result (Option (Entry T)) Refusal → List Change
take_change q (Err f) = []
take_change q (Ok None) = []
take_change q (Ok (Some e)) = Take q e.stamp ∷ []

abbrev pub meld_change : ℕ → ℕ → Result ℕ Refusal → List Change
meld_change a b (Err f) = []
meld_change a b (Ok n) = Meld a b ∷ []

abbrev pub cancel_change : ℕ → Result ℕ Refusal → List Change
cancel_change k (Err f) = []
cancel_change k (Ok q) = Cancel k ∷ []
