-- A step leaves no refusal.
use Rattle.std.proofs.Common.{◌≡◌, ℕ, zero, suc, Bool, true, false, Some, None, Ok, Err, Option, Result, refl}
use Rattle.elements.specs.declared.events.Event.{Event}
use Rattle.elements.specs.declared.events.EventKind.{EventKind}
use Rattle.elements.specs.declared.events.EventKind.TheVariants.{Arrive, Finish as Finishing, Withdraw, Close as Closing}
use Rattle.elements.specs.declared.lines.LineEntry.{LineEntry}
use Rattle.elements.specs.declared.entries.Entry.{Entry}
use Rattle.stores.specs.declared.refusals.Refusal.{Refusal}
use Rattle.machine.specs.declared.networks.OrderState.{OrderState}
use Rattle.machine.specs.declared.networks.OrderState.TheVariants.{NotYet, Waiting, InService, Done, Away, Withdrawn, Stranded}
use Rattle.machine.specs.Network.{station, open_station, order, has_free}
use Rattle.elements.specs.Elements.{event_le, line_le}
use Rattle.machine.specs.declared.records.RecordKind.TheVariants.{Finish, Withdrawn as is-withdrawn}
use Rattle.machine.specs.Machine.{Machine, with_cut, with_events, with_lines, with_instant, with_refusal, listed, tell, mark, branch, halted, strand, as_is}
use Rattle.machine.specs.Puts.{Tried, try}
use Rattle.machine.specs.Step.{finish_event, its_entry, cancel_event, take_event, started, start, at_limit, turned_away, waited, wait, enter_by, enter, take_line, line, start_by, start_front, release, free_bench, leave_by, leave, finish, withdraw_by, fill_by, fill_one, fill, stays_open, close_into, close_by, react, due_event, step_by, step}

abbrev Calm : (Machine → Machine) → Type 0
Calm f = (m : Machine) → m.refusal ≡ None → (f m).refusal ≡ None

calm_started : (i k : ℕ) (r : Result ℕ Refusal) → Calm (started i k r)
calm_started i k (Ok n) m e = e
calm_started i k (Err f) m e = refl

calm_start : (i k : ℕ) → Calm (start i k)
calm_start i k m e =
    let t : Tried Event = try event_le m.cut m.events 0 (finish_event i k m) in
    calm_started i k t.answer (with_cut (with_events m (listed m.events t.state)) t.cut) e

calm_turned : (b : Bool) (i k : ℕ) (f : Refusal) → Calm (turned_away b i k f)
calm_turned true i k f m e = e
calm_turned false i k f m e = refl

calm_waited : (i k : ℕ) (r : Result ℕ Refusal) → Calm (waited i k r)
calm_waited i k (Ok n) m e = e
calm_waited i k (Err f) m e = calm_turned (at_limit f) i k f m e

calm_wait : (i k : ℕ) → Calm (wait i k)
calm_wait i k m e =
    let t : Tried LineEntry = try line_le m.cut m.lines k (its_entry i m) in
    calm_waited i k t.answer (with_cut (with_lines m (listed m.lines t.state)) t.cut) e

calm_enter_by : (b : Bool) (i k : ℕ) → Calm (enter_by b i k)
calm_enter_by true i k m e = calm_start i k m e
calm_enter_by false i k m e = calm_wait i k m e

calm_enter : (i k : ℕ) → Calm (enter i k)
calm_enter i k m e = calm_enter_by (has_free m.network (open_station m.network k)) i (open_station m.network k) m e

calm_start_by : (o : Option (Entry LineEntry)) (k : ℕ) → Calm (start_by o k)
calm_start_by None k m e = e
calm_start_by (Some x) k m e = calm_start x.element.order k (take_line k m) e

calm_front : (k : ℕ) → Calm (start_front k)
calm_front k m e = calm_start_by (line m k) k m e

calm_leave_by : (o : Option ℕ) (i : ℕ) → Calm (leave_by o i)
calm_leave_by None i m e = e
calm_leave_by (Some k) i m e = calm_enter i k m e

calm_release : (i k : ℕ) → Calm (release i k)
calm_release i k m e = calm_front k (free_bench k (tell (Finish i k) m)) e

calm_finish : (i k : ℕ) → Calm (finish i k)
calm_finish i k m e = go (halted (release i k m)) (release i k m) (calm_release i k m e)
  where
    go : (b : Bool) (v : Machine) → v.refusal ≡ None → (branch b (leave i k) (strand i) v).refusal ≡ None
    go true v q = q
    go false v q = calm_leave_by (station v.network k).next i v q

calm_withdraw_by : (st : OrderState) (i : ℕ) → Calm (withdraw_by st i)
calm_withdraw_by NotYet i m e = e
calm_withdraw_by (Waiting s) i m e = e
calm_withdraw_by (InService k s) i m e = calm_front k (tell (is-withdrawn i) (free_bench k (mark i Withdrawn (cancel_event s m)))) e
calm_withdraw_by Done i m e = e
calm_withdraw_by Away i m e = e
calm_withdraw_by Withdrawn i m e = e
calm_withdraw_by Stranded i m e = e

calm_fill_by : (b : Bool) (j : ℕ) → Calm (fill_by b j)
calm_fill_by true j m e = calm_front j m e
calm_fill_by false j m e = e

calm_fill : (n j : ℕ) → Calm (fill n j)
calm_fill zero j m e = e
calm_fill (suc n) j m e = go (halted (fill n j m)) (fill n j m) (calm_fill n j m e)
  where
    go : (b : Bool) (v : Machine) → v.refusal ≡ None → (branch b (fill_one j) as_is v).refusal ≡ None
    go true v q = q
    go false v q = calm_fill_by (has_free v.network j) j v q

calm_close_by : (b : Bool) (k j : ℕ) → Calm (close_by b k j)
calm_close_by true k j m e = e
calm_close_by false k j m e = calm_fill 8 j (close_into k j m) e

calm_react : (x : EventKind) → Calm (react x)
calm_react (Arrive i k) m e = calm_enter i k m e
calm_react (Finishing i k) m e = calm_finish i k m e
calm_react (Withdraw i) m e = calm_withdraw_by (order m.network i).state i m e
calm_react (Closing k j) m e = calm_close_by (stays_open k j m.network) k j m e

pub calm_step : (m : Machine) → (step m).refusal ≡ None
calm_step m = go (due_event m)
  where
    go : (o : Option Event) → (step_by o (with_refusal m None)).refusal ≡ None
    go None = refl
    go (Some x) = calm_react x.kind (with_instant (take_event (with_refusal m None)) x.time) refl
