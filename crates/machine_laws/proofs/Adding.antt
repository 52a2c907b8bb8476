-- How many records each part of a step adds.
use Rattle.std.proofs.Common.{◌≡◌, ℕ, zero, suc, ◌+◌, ◌≤◌, Bool, true, false, [], ◌∷◌, ◌++◌, Some, None, Ok, Err, Option, Result, sym, refl, ap, ◌∙◌, add-one, arith, length-append}
use Rattle.std.proofs.lemmas.List.{append-nil, append_assoc}
use Rattle.elements.specs.declared.events.Event.{Event}
use Rattle.elements.specs.declared.events.EventKind.{EventKind}
use Rattle.elements.specs.declared.events.EventKind.TheVariants.{Arrive, Finish as Finishing, Withdraw, Close as Closing}
use Rattle.elements.specs.declared.lines.LineEntry.{LineEntry}
use Rattle.elements.specs.declared.entries.Entry.{Entry}
use Rattle.elements.specs.Elements.{event_le, line_le}
use Rattle.stores.specs.declared.refusals.Refusal.{Refusal}
use Rattle.machine.specs.declared.networks.OrderState.{OrderState}
use Rattle.machine.specs.declared.networks.OrderState.TheVariants.{NotYet, Waiting, InService, Done as is-done, Away as is-away, Withdrawn as is-withdrawn, Stranded}
use Rattle.machine.specs.declared.records.RecordKind.{RecordKind}
use Rattle.machine.specs.declared.records.RecordKind.TheVariants.{Finish}
use Rattle.machine.specs.Network.{station, order, has_free, open_station}
use Rattle.machine.specs.Machine.{Machine, listed, with_cut, with_events, with_lines, tell, mark, strand, with_refusal, with_instant, seq_by, branch, halted, as_is}
use Rattle.machine.specs.Puts.{Continuation, try, put_event, put_line}
use Rattle.machine.specs.Step.{started, start, at_limit, turned_away, waited, wait, its_entry, finish_event, enter_by, enter, line, take_line, start_by, start_front, free_bench, release, leave_by, leave, finish, cancel_event, withdraw_by, withdraw, fill_by, fill_one, fill, stays_open, close_into, close_by, close, react, take_event, happen, due_event, step_by}
use Rattle.machine_laws.specs.Records.{Adds, FewRecords}

pub none : (n : ℕ) (m v : Machine) → v.records ≡ m.records → Adds n m v
none n m v e = record { more = []; is = e ∙ sym (append-nil m.records); few = omega arith }

-- one record is told, of what has m's records
pub one : (n : ℕ) (x : RecordKind) (m v : Machine) → 1 ≤ n → v.records ≡ m.records → Adds n m (tell x v)
one n x m v h e = record { more = record { at = v.instant; kind = x } ∷ []; is = ap (λ rs. rs ++ (record { at = v.instant; kind = x } ∷ [])) e; few = omega arith }

pub onto : (n p : ℕ) (m v w : Machine) → Adds n m v → Adds p v w → Adds (n + p) m w
onto n p m v w a b = record {
  more = a.more ++ b.more;
  is = b.is ∙ ap (λ rs. rs ++ b.more) a.is ∙ append_assoc m.records a.more b.more;
  few = omega (arith, a.few, b.few, length-append a.more b.more);
}

pub weaken : (n p : ℕ) (m v : Machine) → n ≤ p → Adds n m v → Adds p m v
weaken n p m v h a = record { more = a.more; is = a.is; few = omega (arith, a.few) }

pub both : (ends : Machine → Bool) (f g h : Machine → Machine) (n p : ℕ) → ((m : Machine) → Adds n m (f m)) → ((m : Machine) → Adds p m (g m)) → ((m : Machine) → Adds p m (h m)) → (m : Machine) → Adds (n + p) m (seq_by ends f g h m)
both ends f g h n p af ag ah m = onto n p m (f m) _ (af m) (go (ends (f m)))
  where
    go : (b : Bool) → Adds p (f m) (branch b g h (f m))
    go false = ag (f m)
    go true = ah (f m)

-- from what has m's records
pub from : (n : ℕ) (m v w : Machine) → v.records ≡ m.records → Adds n v w → Adds n m w
from n m v w e a = record { more = a.more; is = a.is ∙ ap (λ rs. rs ++ a.more) e; few = a.few }

put_event_adds : (x : Machine → Event) (then : Continuation) (n : ℕ) → ((o : Result ℕ Refusal) (v : Machine) → Adds n v (then o v)) → (m : Machine) → Adds n m (put_event x then m)
put_event_adds x then n h m =
    let t = try event_le m.cut m.events 0 (x m) in
    let v = with_cut (with_events m (listed m.events t.state)) t.cut in
    from n m v (then t.answer v) refl (h t.answer v)

put_line_adds : (q : ℕ) (x : Machine → LineEntry) (then : Continuation) (n : ℕ) → ((o : Result ℕ Refusal) (v : Machine) → Adds n v (then o v)) → (m : Machine) → Adds n m (put_line q x then m)
put_line_adds q x then n h m =
    let t = try line_le m.cut m.lines q (x m) in
    let v = with_cut (with_lines m (listed m.lines t.state)) t.cut in
    from n m v (then t.answer v) refl (h t.answer v)

started_adds : (i k : ℕ) (o : Result ℕ Refusal) (m : Machine) → Adds 1 m (started i k o m)
started_adds i k (Ok n) m = one 1 _ m _ (omega arith) refl
started_adds i k (Err f) m = none 1 m _ refl

start_adds : (i k : ℕ) (m : Machine) → Adds 1 m (start i k m)
start_adds i k m = put_event_adds (finish_event i k) (started i k) 1 (started_adds i k) m

away_adds : (b : Bool) (i k : ℕ) (f : Refusal) (m : Machine) → Adds 1 m (turned_away b i k f m)
away_adds true i k f m = one 1 _ m _ (omega arith) refl
away_adds false i k f m = none 1 m _ refl

waited_adds : (i k : ℕ) (o : Result ℕ Refusal) (m : Machine) → Adds 1 m (waited i k o m)
waited_adds i k (Ok n) m = one 1 _ m _ (omega arith) refl
waited_adds i k (Err f) m = away_adds (at_limit f) i k f m

wait_adds : (i k : ℕ) (m : Machine) → Adds 1 m (wait i k m)
wait_adds i k m = put_line_adds k (its_entry i) (waited i k) 1 (waited_adds i k) m

pub enter_adds : (i k : ℕ) (m : Machine) → Adds 1 m (enter i k m)
enter_adds i k m = go (has_free m.network (open_station m.network k)) (open_station m.network k)
  where
    go : (b : Bool) (r : ℕ) → Adds 1 m (enter_by b i r m)
    go true r = start_adds i r m
    go false r = wait_adds i r m

pub front_adds : (k : ℕ) (m : Machine) → Adds 1 m (start_front k m)
front_adds k m = go (line m k)
  where
    go : (o : Option (Entry LineEntry)) → Adds 1 m (start_by o k m)
    go None = none 1 m m refl
    go (Some e) = from 1 m (take_line k m) _ refl (start_adds e.element.order k (take_line k m))

pub leave_adds : (i k : ℕ) (m : Machine) → Adds 1 m (leave i k m)
leave_adds i k m = go (station m.network k).next
  where
    go : (o : Option ℕ) → Adds 1 m (leave_by o i m)
    go None = one 1 _ m _ (omega arith) refl
    go (Some j) = enter_adds i j m

release_adds : (i k : ℕ) (m : Machine) → Adds 2 m (release i k m)
release_adds i k m = onto 1 1 m (tell (Finish i k) m) _ (one 1 (Finish i k) m m (omega arith) refl) (from 1 _ (free_bench k (tell (Finish i k) m)) _ refl (front_adds k _))

finish_adds : (i k : ℕ) (m : Machine) → Adds 3 m (finish i k m)
finish_adds i k m = both halted (release i k) (leave i k) (strand i) 2 1 (release_adds i k) (leave_adds i k) (λ v. none 1 v _ refl) m

withdraw_adds : (i : ℕ) (m : Machine) → Adds 2 m (withdraw i m)
withdraw_adds i m = go (order m.network i).state
  where
    go : (st : OrderState) → Adds 2 m (withdraw_by st i m)
    go NotYet = one 2 _ m _ (omega arith) refl
    go (Waiting s) = one 2 _ m _ (omega arith) refl
    go (InService k s) = onto 1 1 m (tell _ (free_bench k (mark i is-withdrawn (cancel_event s m)))) _ (one 1 _ m _ (omega arith) refl) (front_adds k _)
    go is-done = one 2 _ m _ (omega arith) refl
    go is-away = one 2 _ m _ (omega arith) refl
    go is-withdrawn = one 2 _ m _ (omega arith) refl
    go Stranded = one 2 _ m _ (omega arith) refl

pub fill_one_adds : (j : ℕ) (m : Machine) → Adds 1 m (fill_one j m)
fill_one_adds j m = go (has_free m.network j)
  where
    go : (b : Bool) → Adds 1 m (fill_by b j m)
    go true = front_adds j m
    go false = none 1 m m refl

pub fill_adds : (n j : ℕ) (m : Machine) → Adds n m (fill n j m)
fill_adds zero j m = none 0 m m refl
fill_adds (suc n) j m = rw (← add-one) (both halted (fill n j) (fill_one j) as_is n 1 (fill_adds n j) (fill_one_adds j) (λ v. none 1 v v refl) m)

close_adds : (k j : ℕ) (m : Machine) → Adds 9 m (close k j m)
close_adds k j m = go (stays_open k j m.network)
  where
    go : (b : Bool) → Adds 9 m (close_by b k j m)
    go true = one 9 _ m _ (omega arith) refl
    go false = onto 1 8 m (close_into k j m) _ (one 1 _ m _ (omega arith) refl) (fill_adds 8 j _)

react_adds : (x : EventKind) (m : Machine) → Adds 9 m (react x m)
react_adds (Arrive i k) m = weaken 1 9 m _ (omega arith) (enter_adds i k m)
react_adds (Finishing i k) m = weaken 3 9 m _ (omega arith) (finish_adds i k m)
react_adds (Withdraw i) m = weaken 2 9 m _ (omega arith) (withdraw_adds i m)
react_adds (Closing k j) m = close_adds k j m

happen_adds : (e : Event) (m : Machine) → Adds 9 m (happen e m)
happen_adds e m = from 9 m (with_instant (take_event m) e.time) _ refl (react_adds e.kind _)

pub few_records : FewRecords
few_records m = go (due_event m)
  where
    go : (o : Option Event) → Adds 9 m (step_by o (with_refusal m None))
    go None = none 9 m _ refl
    go (Some e) = from 9 m (with_refusal m None) _ refl (happen_adds e _)
