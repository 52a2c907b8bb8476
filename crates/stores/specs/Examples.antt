-- Computed examples of the definitions.
use Rattle.std.specs.Prelude.{◌≡◌, ℕ, List, [], ◌∷◌, replicate, Ok, Err}
use Rattle.elements.specs.declared.lines.LineEntry.{LineEntry}
use Rattle.elements.specs.Elements.{line_le}
use Rattle.stores.specs.declared.refusals.Refusal.TheVariants.{AtLimit}
use Rattle.stores.specs.Meaning.{Pair, State, Fixed, fresh}
use Rattle.stores.specs.Calls.{put_answer, put_after, meld_after, count_answer}

abbrev pub one_at_most : List Pair
one_at_most = record { limit = 1; height = 1 } ∷ []

-- queues 0 and 1 have the limit 1, set by a layer at height 1; no other queue has a limit
abbrev pub two_limits : Fixed
two_limits = record {
  cells = 4;
  stamps = 4;
  pairs = one_at_most ∷ one_at_most ∷ replicate 30 [];
  height = 1;
  cancelling = 0;
}

abbrev pub waiting : ℕ → LineEntry
waiting i = record { order = i; urgency = 0; due = 0 }

-- one entry in each of the two, then queue 1 melds into queue 0
abbrev pub melded : State LineEntry
melded = meld_after line_le (put_after line_le (put_after line_le fresh 0 (waiting 0) (Ok 0)) 1 (waiting 1) (Ok 1)) 0 1 (Ok 1)

-- the meld passes the limit, and a put is then refused
abbrev pub PastLimit : Type 0
PastLimit = (count_answer melded 0 ≡ Ok 2) × (put_answer (record { state = melded; fixed = two_limits; held = 0 }) 0 ≡ Err (AtLimit 1))
