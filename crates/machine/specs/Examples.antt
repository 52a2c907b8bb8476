-- The worked example and its edges, computed on the definitions.
use Rattle.std.specs.Prelude.{◌≡◌, ℕ, zero, suc, ◌+◌, Bool, true, false, List, [], ◌∷◌, ◌++◌, map, take, replicate, Some, None, codes, Option, ◌==◌}
use Rattle.stores.specs.Meaning.{Pair, live}
use Rattle.machine.specs.declared.networks.Order.{Order}
use Rattle.machine.specs.declared.networks.OrderState.{OrderState}
use Rattle.machine.specs.declared.networks.OrderState.TheVariants.{Away, Withdrawn, Stranded}
use Rattle.machine.specs.declared.records.StoreName.{StoreName}
use Rattle.machine.specs.declared.records.StoreName.TheVariants.{Events, Orders}
use Rattle.machine.specs.Machine.{Bounds, Machine, start_machine}
use Rattle.machine.specs.Puts.{stopped}
use Rattle.machine.specs.Script.{perform, text, script_limits}

abbrev lines : List (List ℕ) → List ℕ
lines [] = []
lines (l ∷ ls) = l ++ (10 ∷ lines ls)

abbrev pub script : List ℕ
script = lines (
    codes "(station 0 (benches 1) (takes 5) (holds 1) (next 1))"
    ∷ codes "(station 1 (benches 1) (takes 3) (holds 4) (last))"
    ∷ codes "(order 0 (at 0) (urgency 5) (due 50) (start 0))"
    ∷ codes "(order 1 (at 1) (urgency 5) (due 40) (start 0))"
    ∷ codes "(order 2 (at 1) (urgency 0) (due 90) (start 0))"
    ∷ codes "(order 3 (at 3) (urgency 2) (due 60) (start 0))"
    ∷ codes "(withdraw 1 (at 2))"
    ∷ codes "(close 0 (at 4) (into 1))"
    ∷ codes "(end 9)" ∷ [])

abbrev pub told : List (List ℕ)
told =
    codes "(at 0 (start 0 0))" ∷ codes "(at 1 (wait 1 0))" ∷ codes "(at 1 (away 2 0))" ∷ codes "(at 2 (withdrawn 1))"
    ∷ codes "(at 3 (wait 3 0))" ∷ codes "(at 4 (close 0 1 1))" ∷ codes "(at 4 (start 3 1))" ∷ codes "(at 5 (finish 0 0))"
    ∷ codes "(at 5 (wait 0 1))" ∷ codes "(at 7 (finish 3 1))" ∷ codes "(at 7 (start 0 1))" ∷ codes "(at 7 (done 3))"
    ∷ codes "(end 9 (done 1) (away 1) (withdrawn 1) (inside 1))" ∷ []

-- a quota's limits, at the height 2
abbrev pub quota : List ℕ → List (List Pair)
quota [] = []
quota (w ∷ ws) = (record { limit = w; height = 2 } ∷ []) ∷ quota ws

abbrev pub bounded : ℕ → List ℕ → Bounds
bounded s ws = record { pairs = quota ws; stamps = s }

-- with so many event stamps, stopped there or not
abbrev pub first_machine : ℕ → List ℕ → Option ℕ → Machine
first_machine s bs c = start_machine (bounded s (replicate 32 65535)) (bounded 32768 (script_limits bs)) c

abbrev pub printed : ℕ → Option ℕ → List ℕ → List ℕ
printed s c bs = text (perform bs (first_machine s bs c))

-- Where the event store has so many cells, and no cancelled entry keeps its cell, the machine is stopped at the first put
-- that finds as many events. It is looked for among the first n puts from c on.

abbrev pub finds_full : ℕ → Option StoreName → Machine → Bool
finds_full cells None m = false
finds_full cells (Some Events) m = live m.events.state == cells
finds_full cells (Some Orders) m = false

abbrev pub first_full : ℕ → ℕ → ℕ → Option ℕ
first_full cells zero c = None
first_full cells (suc n) c =
    let m = (perform script (first_machine 32768 script (Some c))).0 in
    elim (finds_full cells (stopped m) m) [ true ↦ Some c | false ↦ first_full cells n (c + 1) ]

abbrev pub printed_with_cells : ℕ → List ℕ
printed_with_cells cells = printed 32768 (first_full cells 16 0) script

abbrev pub states : Machine → List OrderState
states m = map (λ (o : Order). o.state) (take 4 m.network.orders)

pub record ExampleRuns : Type 0 where
  pub whole : printed 32768 None script ≡ lines told
  -- 16 puts are more than the run makes, so they are all that can find no cell
  pub puts : stopped (perform script (first_machine 32768 script (Some 16))).0 ≡ None
  pub five_cells : printed_with_cells 5 ≡ lines (codes "(refused 12 (line 8) (layer 0))" ∷ [])
  pub six_cells : printed_with_cells 6 ≡ lines told
  pub eight_stamps : printed 8 None script ≡ lines (take 10 told ++ (codes "(fault 7 (cause 13) (store events) (layer 0))" ∷ []))
  pub eight_stamps_orders : states (perform script (first_machine 8 script None)).0 ≡ (Stranded ∷ Withdrawn ∷ Away ∷ Stranded ∷ [])
  pub nine_stamps : printed 9 None script ≡ lines told

-- Refused scripts, of which nothing else is printed.

abbrev pub station_0 : List ℕ
station_0 = codes "(station 0 (benches 1) (takes 5) (holds 1) (last))"

abbrev pub of : List (List ℕ) → List ℕ
of ls = printed 32768 None (lines ls)

abbrev pub only : List ℕ → List ℕ
only l = lines (l ∷ [])

pub record RefusalsTold : Type 0 where
  pub long_script : printed 32768 None (replicate 65537 40) ≡ only (codes "(refused 3 (line 0))")
  pub script_length : printed 32768 None (replicate 65536 10) ≡ only (codes "(refused 4 (line 1))")
  pub long_line : of (replicate 121 40 ∷ []) ≡ only (codes "(refused 3 (line 1))")
  pub line_length : of (replicate 120 40 ∷ []) ≡ only (codes "(refused 4 (line 1))")
  pub needless_zero : of (station_0 ∷ codes "(end 07)" ∷ []) ≡ only (codes "(refused 4 (line 2))")
  pub two_spaces : of (station_0 ∷ codes "(end  7)" ∷ []) ≡ only (codes "(refused 4 (line 2))")
  pub more_behind : of (station_0 ∷ codes "(end 7) " ∷ []) ≡ only (codes "(refused 4 (line 2))")
  pub no_ticks : of (codes "(station 0 (benches 1) (takes 0) (holds 1) (last))" ∷ []) ≡ only (codes "(refused 5 (line 1))")
  -- the range comes before the place
  pub many_digits : of (codes "(end 9999999999999999999999999999999999999999)" ∷ []) ≡ only (codes "(refused 5 (line 1))")
  pub no_station : of (codes "(end 7)" ∷ []) ≡ only (codes "(refused 6 (line 1))")
  pub station_number : of (codes "(station 1 (benches 1) (takes 5) (holds 1) (last))" ∷ []) ≡ only (codes "(refused 6 (line 1))")
  pub late_station : of (station_0 ∷ codes "(close 0 (at 1) (into 0))" ∷ codes "(station 1 (benches 1) (takes 5) (holds 1) (last))" ∷ []) ≡ only (codes "(refused 6 (line 3))")
  pub order_number : of (station_0 ∷ codes "(order 1 (at 0) (urgency 5) (due 50) (start 0))" ∷ []) ≡ only (codes "(refused 6 (line 2))")
  pub no_such_order : of (station_0 ∷ codes "(withdraw 0 (at 0))" ∷ []) ≡ only (codes "(refused 6 (line 2))")
  pub after_the_end : of (station_0 ∷ codes "(end 7)" ∷ codes "(end 8)" ∷ []) ≡ only (codes "(refused 6 (line 3))")
  pub no_end : of (station_0 ∷ []) ≡ only (codes "(refused 6 (line 2))")
  pub nothing : of [] ≡ only (codes "(refused 6 (line 1))")
  pub start_undeclared : of (station_0 ∷ codes "(order 0 (at 0) (urgency 5) (due 50) (start 1))" ∷ []) ≡ only (codes "(refused 7 (line 2))")
  pub into_undeclared : of (station_0 ∷ codes "(close 0 (at 1) (into 1))" ∷ []) ≡ only (codes "(refused 7 (line 2))")
  pub next_undeclared : of (codes "(station 0 (benches 1) (takes 5) (holds 1) (next 1))" ∷ codes "(end 7)" ∷ []) ≡ only (codes "(refused 7 (line 2))")
  -- the last line may lack its newline
  pub accepted : printed 32768 None (lines (station_0 ∷ []) ++ codes "(end 7)") ≡ only (codes "(end 7 (done 0) (away 0) (withdrawn 0) (inside 0))")
