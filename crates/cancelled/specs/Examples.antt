-- Computed examples: two cells, and two entries in queue 0, with the stamps 0 and 1. One of them is cancelled.
use Rattle.std.specs.Prelude.{◌≡◌, ℕ, List, [], ◌∷◌, Ok, Err, slice_set}
use Rattle.elements.specs.declared.lines.LineEntry.{LineEntry}
use Rattle.elements.specs.Elements.{line_le}
use Rattle.stores.specs.declared.refusals.Refusal.TheVariants.{NoCell}
use Rattle.stores.specs.Meaning.{State, Meaning, bare_fixed, fresh}
use Rattle.stores.specs.Calls.{put_answer, put_after}
use Rattle.stores.specs.Examples.{waiting}
use Rattle.cancelled.specs.Cancelled.{purge_after, lazily}

abbrev pub both_put : State LineEntry
both_put = put_after line_le (put_after line_le fresh 0 (waiting 0) (Ok 0)) 0 (waiting 1) (Ok 1)

-- queue 0 has both stamps, but k is cancelled
abbrev pub marks_without : ℕ → List ℕ
marks_without k = slice_set (1 ∷ 1 ∷ []) k 0

abbrev pub after_cancel : ℕ → Meaning LineEntry
after_cancel k = lazily (marks_without k) (record { state = purge_after (marks_without k) both_put 0; fixed = bare_fixed 2 4; held = 0 })

-- the one behind keeps its cell, and a put is refused
abbrev pub BehindStays : Type 0
BehindStays = ((after_cancel 1).held ≡ 1) × (put_answer (after_cancel 1) 0 ≡ Err NoCell)

-- the front leaves at once, and a put is accepted
abbrev pub FrontLeaves : Type 0
FrontLeaves = ((after_cancel 0).held ≡ 0) × (put_answer (after_cancel 0) 0 ≡ Ok 2)
