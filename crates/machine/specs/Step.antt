-- A step of the machine. An order that arrives, finishes or is taken from a line is in hand until it is started, put in a
-- line, away, done or stranded.
use Rattle.std.specs.Prelude.{ℕ, zero, suc, ◌+◌, Bool, true, false, ◌||◌, Some, None, Ok, Err, Option, ◌==◌, nat_lt}
use Rattle.elements.specs.declared.events.Event.{Event}
use Rattle.elements.specs.declared.events.EventKind.{EventKind}
use Rattle.elements.specs.declared.events.EventKind.TheVariants.{Arrive, Finish as Finishing, Withdraw, Close as Closing}
use Rattle.elements.specs.declared.lines.LineEntry.{LineEntry}
use Rattle.elements.specs.declared.entries.Entry.{Entry}
use Rattle.elements.specs.Elements.{line_le}
use Rattle.stores.specs.declared.refusals.Refusal.{Refusal}
use Rattle.stores.specs.declared.refusals.Refusal.TheVariants.{QueueNumber, SameQueue, AtLimit, NoCell, NoStamp, NotQueued}
use Rattle.stores.specs.Meaning.{list_of, count_of}
use Rattle.stores.specs.Calls.{take_after, meld_answer, meld_after, cancel_after, front, found, queue_with}
use Rattle.machine.specs.declared.networks.Network.{Network}
use Rattle.machine.specs.declared.networks.OrderState.{OrderState}
use Rattle.machine.specs.declared.networks.OrderState.TheVariants.{NotYet, Waiting, InService, Done as is-done, Away as is-away, Withdrawn as is-withdrawn, Stranded}
use Rattle.machine.specs.declared.records.RecordKind.TheVariants.{Start, Wait, Away, Withdrawn, Missed, Finish, Done, Close, Kept}
use Rattle.machine.specs.declared.records.StoreName.TheVariants.{Events, Orders}
use Rattle.machine.specs.declared.records.Fault.{Fault}
use Rattle.machine.specs.declared.records.Progress.{Progress}
use Rattle.machine.specs.declared.records.Progress.TheVariants.{Stepped, Ended, Faulted}
use Rattle.machine.specs.Network.{station, order, marked, occupied, freed, closed, has_free, open_station, line_entry}
use Rattle.machine.specs.Machine.{Store, Machine, with_instant, with_network, with_events, with_lines, with_refusal, tell, fail, mark, strand, listed, less_one, is_some, seq_else, seq}
use Rattle.machine.specs.Puts.{Continuation, put_event, put_line}

-- Start order i at station k: its finish is put; then the record, and one bench more is busy. A refused put ends the run.

abbrev pub finish_event : ℕ → ℕ → Machine → Event
finish_event i k m = record { time = m.instant + (station m.network k).takes; kind = Finishing i k }

abbrev pub started : ℕ → ℕ → Continuation
started i k (Ok n) m = tell (Start i k) (with_network m (occupied k (marked i (InService k n) m.network)))
started i k (Err f) m = strand i (fail f Events m)

abbrev pub start : ℕ → ℕ → Machine → Machine
start i k = put_event (finish_event i k) (started i k)

-- Put order i in line k: it waits, or it goes away where the line is at its limit. Any other refusal ends the run.

abbrev pub at_limit : Refusal → Bool
at_limit QueueNumber = false
at_limit SameQueue = false
at_limit (AtLimit h) = true
at_limit NoCell = false
at_limit NoStamp = false
at_limit (NotQueued h) = false

abbrev pub turned_away : Bool → ℕ → ℕ → Refusal → Machine → Machine
turned_away true i k f m = tell (Away i k) (mark i is-away m)
turned_away false i k f m = strand i (fail f Orders m)

abbrev pub waited : ℕ → ℕ → Continuation
waited i k (Ok n) m = tell (Wait i k) (mark i (Waiting n) m)
waited i k (Err f) m = turned_away (at_limit f) i k f m

abbrev pub its_entry : ℕ → Machine → LineEntry
its_entry i m = line_entry m.network i

abbrev pub wait : ℕ → ℕ → Machine → Machine
wait i k = put_line k (its_entry i) (waited i k)

-- Order i enters station k: at the open station it starts if a bench is free, and else is put in the line.

abbrev pub enter_by : Bool → ℕ → ℕ → Machine → Machine
enter_by true i r m = start i r m
enter_by false i r m = wait i r m

abbrev pub enter_at : ℕ → ℕ → Machine → Machine
enter_at i r m = enter_by (has_free m.network r) i r m

abbrev pub enter : ℕ → ℕ → Machine → Machine
enter i k m = enter_at i (open_station m.network k) m

-- The front of line k, if any, is taken and started at station k.

abbrev pub line : Machine → ℕ → Option (Entry LineEntry)
line m k = front (list_of m.lines.state k)

abbrev pub take_line : ℕ → Machine → Machine
take_line k m = with_lines m (less_one m.lines (take_after m.lines.state k (Ok (line m k))))

abbrev pub start_by : Option (Entry LineEntry) → ℕ → Machine → Machine
start_by None k m = m
start_by (Some e) k m = start e.element.order k (take_line k m)

abbrev pub start_front : ℕ → Machine → Machine
start_front k m = start_by (line m k) k m

-- Order i has finished at station k: the record, a bench becomes free, the line's front starts; then the order enters
-- the next station, or is done at a last one. Where that start ended the run, the order is stranded.

abbrev pub free_bench : ℕ → Machine → Machine
free_bench k m = with_network m (freed k m.network)

abbrev pub release : ℕ → ℕ → Machine → Machine
release i k m = start_front k (free_bench k (tell (Finish i k) m))

abbrev pub leave_by : Option ℕ → ℕ → Machine → Machine
leave_by None i m = tell (Done i) (mark i is-done m)
leave_by (Some k) i m = enter i k m

abbrev pub leave : ℕ → ℕ → Machine → Machine
leave i k m = leave_by (station m.network k).next i m

abbrev pub finish : ℕ → ℕ → Machine → Machine
finish i k = seq_else (release i k) (leave i k) (strand i)

-- Order i is withdrawn: its own state decides.

-- the entry with that stamp leaves its queue
abbrev pub cancelled : {T : Type 0} → Store T → ℕ → Store T
cancelled s k = listed s (cancel_after s.state k (found 0 (queue_with k s.state.lists 0)))

abbrev pub cancel_event : ℕ → Machine → Machine
cancel_event k m = with_events m (cancelled m.events k)

abbrev pub cancel_line : ℕ → Machine → Machine
cancel_line k m = with_lines m (cancelled m.lines k)

abbrev pub withdraw_by : OrderState → ℕ → Machine → Machine
withdraw_by NotYet i m = tell (Missed i) m
withdraw_by (Waiting s) i m = tell (Withdrawn i) (mark i is-withdrawn (cancel_line s m))
withdraw_by (InService k s) i m = start_front k (tell (Withdrawn i) (free_bench k (mark i is-withdrawn (cancel_event s m))))
withdraw_by is-done i m = tell (Missed i) m
withdraw_by is-away i m = tell (Missed i) m
withdraw_by is-withdrawn i m = tell (Missed i) m
withdraw_by Stranded i m = tell (Missed i) m

abbrev pub withdraw : ℕ → Machine → Machine
withdraw i m = withdraw_by (order m.network i).state i m

-- Station k closes into station j, unless they are one or either is closed: its line melds into line j; then, while j has
-- a free bench and a front, that starts. A station has at most 8 benches, so 8 turns are enough.

abbrev pub fill_by : Bool → ℕ → Machine → Machine
fill_by true j m = start_front j m
fill_by false j m = m

abbrev pub fill_one : ℕ → Machine → Machine
fill_one j m = fill_by (has_free m.network j) j m

abbrev pub fill : ℕ → ℕ → Machine → Machine
fill zero j m = m
fill (suc n) j m = seq (fill n j) (fill_one j) m

abbrev pub stays_open : ℕ → ℕ → Network → Bool
stays_open k j n = k == j || (is_some (station n k).into || is_some (station n j).into)

abbrev pub meld_lines : ℕ → ℕ → Machine → Machine
meld_lines j k m = with_lines m (listed m.lines (meld_after line_le m.lines.state j k (meld_answer m.lines.state j k)))

abbrev pub close_into : ℕ → ℕ → Machine → Machine
close_into k j m = tell (Close k j (count_of m.lines.state k)) (meld_lines j k (with_network m (closed k j m.network)))

abbrev pub close_by : Bool → ℕ → ℕ → Machine → Machine
close_by true k j m = tell (Kept k j) m
close_by false k j m = fill 8 j (close_into k j m)

abbrev pub close : ℕ → ℕ → Machine → Machine
close k j m = close_by (stays_open k j m.network) k j m

-- The front event is taken, its time is the instant, and it happens; unless none is left or it is later than the end.

abbrev pub react : EventKind → Machine → Machine
react (Arrive i k) m = enter i k m
react (Finishing i k) m = finish i k m
react (Withdraw i) m = withdraw i m
react (Closing k j) m = close k j m

abbrev pub next_event : Machine → Option (Entry Event)
next_event m = front (list_of m.events.state 0)

abbrev pub take_event : Machine → Machine
take_event m = with_events m (less_one m.events (take_after m.events.state 0 (Ok (next_event m))))

abbrev pub happen : Event → Machine → Machine
happen e m = react e.kind (with_instant (take_event m) e.time)

-- the event that a step takes: none in a draft, after a fault, and at the end
abbrev pub not_after : Bool → Event → Option Event
not_after true e = None
not_after false e = Some e

abbrev pub due_by : Option Fault → Option ℕ → Option (Entry Event) → Option Event
due_by (Some f) t e = None
due_by None None e = None
due_by None (Some t) None = None
due_by None (Some t) (Some e) = not_after (nat_lt t e.element.time) e.element

abbrev pub due_event : Machine → Option Event
due_event m = due_by m.fault m.end (next_event m)

abbrev pub step_by : Option Event → Machine → Machine
step_by None m = m
step_by (Some e) m = happen e m

abbrev pub step : Machine → Machine
step m = step_by (due_event m) (with_refusal m None)

-- what a step tells
abbrev pub told_by : Option Fault → Option Event → Progress
told_by (Some f) e = Faulted
told_by None None = Ended
told_by None (Some e) = Stepped

abbrev pub told : Machine → Progress
told m = told_by (step m).fault (due_event m)

-- steps until the run is over, but no more than n
abbrev pub steps_by : Option Event → (Machine → Machine) → Machine → Machine
steps_by None on m = m
steps_by (Some e) on m = on (step m)

abbrev pub steps : ℕ → Machine → Machine
steps zero m = m
steps (suc n) m = steps_by (due_event m) (steps n) m
