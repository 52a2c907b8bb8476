-- Every call keeps that closings lead to an open station.
use Rattle.std.proofs.Common.{◌≡◌, ℕ, Bool, true, false, not, ◌&&◌, length, get_or, Some, None, Ok, Err, Option, Result, sym, refl, ap, ◌∙◌, arith}
use Rattle.elements.specs.declared.events.Event.{Event}
use Rattle.elements.specs.declared.events.EventKind.TheVariants.{Arrive, Withdraw, Close as Closing}
use Rattle.elements.specs.Elements.{event_le}
use Rattle.elements.specs.declared.entries.Entry.{Entry}
use Rattle.stores.specs.declared.refusals.Refusal.{Refusal}
use Rattle.machine.specs.declared.networks.Station.{Station}
use Rattle.machine.specs.declared.networks.Network.{Network}
use Rattle.machine.specs.declared.forms.Form.{Form}
use Rattle.machine.specs.declared.forms.Form.TheVariants.{Station as a-station, Order as an-order, Withdraw as a-withdraw, Close as a-close, End}
use Rattle.machine.specs.declared.forms.FormRefusal.{FormRefusal}
use Rattle.machine.specs.declared.records.Fault.{Fault}
use Rattle.machine.specs.Network.{no_station, cleared, station, with_station, follow}
use Rattle.machine.specs.Machine.{listed, with_cut, with_events, is_some, Bounds, Machine, start_machine, with_refusal, with_instant}
use Rattle.machine.specs.Puts.{Continuation, try, put_event}
use Rattle.machine.specs.Step.{due_by, due_event, next_event, take_event, step_by, step}
use Rattle.machine.specs.Forms.{event_at, new_order, in_range, form_in_place, names_declared, checked, announced, ordered, new_station, accept, form_by, form_refusal, form}
use Rattle.machine.specs.Calls.{Call, a_form, a_step, call}
use Rattle.machine_laws.specs.Closings.{OpenReached}
use Rattle.machine_laws.proofs.Walks.{Closed, react_walks}
use Rattle.machine_laws.proofs.Stopping.{Extends, extends}
use Rattle.machine_laws.proofs.Elements.{set-has, replicate-has}
use Rattle.machine_laws.proofs.Calling.{calls_keep}
use Rattle.machine_laws.proofs.Following.{Forest, closed_in, leads, follow_same, forest_kept, forest_closed}

-- the same stations
forest_same : (n v : Network) → v.stations ≡ n.stations → Forest n → Forest v
forest_same n v e h =
    let intos : (j : ℕ) → (station v j).into ≡ (station n j).into = λ j. ap (λ ss. (get_or ss j no_station).into) e in
    record {
      stations = ap length e ∙ h.stations;
      opens = λ j. intos _ ∙ ap (λ x. (station n x).into) (ap (λ ss. follow (closed_in (record { stations = ss; orders = n.orders; declared = n.declared })) v j) e ∙ follow_same n v intos (closed_in n) j) ∙ h.opens j;
    }

abbrev Keeps : Machine → Machine → Type 0
Keeps m v = Forest m.network → Forest v.network

keeps : Closed Keeps
keeps = record {
  same = λ m h. h;
  then = λ m v w a b h. b (a h);
  told = λ x m h. h;
  marked = λ i st m h. forest_same m.network _ refl h;
  occupied = λ k m h. forest_kept m.network k _ refl h;
  freed = λ k m h. forest_kept m.network k _ refl h;
  closing = λ k j m e h. forest_closed m.network k j e h;
  event_put = λ x m e f h. h;
  event_cancelled = λ k m h. h;
  line_put = λ q x m e h. h;
  line_taken = λ k m h. h;
  line_cancelled = λ k m h. h;
  line_melded = λ j k m h. h;
  cut = λ c m h. h;
  failed = λ f s m h. h;
}

-- and while forms are taken, no station is closed
record Grown (m : Machine) : Type 0 where
  forest : Forest m.network
  draft : m.end ≡ None → (k : ℕ) → (station m.network k).into ≡ None

-- a step is made only after the end form
pub due_ended : (f : Option Fault) (t : Option ℕ) (o : Option (Entry Event)) (e : Event) → due_by f t o ≡ Some e → t ≡ None → ⊥
due_ended (Some f) t o e p q = let z : ◌≡◌ {A = ℕ} 0 1 = cc in omega arith
due_ended None None o e p q = let z : ◌≡◌ {A = ℕ} 0 1 = cc in omega arith
due_ended None (Some t) o e p q = let z : ◌≡◌ {A = ℕ} 0 1 = cc in omega arith

step_grown : (m : Machine) → Grown m → Grown (step m)
step_grown m h = go (due_event m) refl
  where
    go : (o : Option Event) → due_event m ≡ o → Grown (step_by o (with_refusal m None))
    go None p = record { forest = h.forest; draft = h.draft }
    go (Some e) p =
        let v = with_instant (take_event (with_refusal m None)) e.time in
        record {
          forest = react_walks Keeps keeps e.kind v h.forest;
          draft = λ q. absurd (due_ended m.fault m.end (next_event m) e p (sym (react_walks Extends extends e.kind v).end ∙ q));
        }

put_grown : (x : Machine → Event) (then : Continuation) → ((r : Result ℕ Refusal) (m : Machine) → Grown m → Grown (then r m)) → (m : Machine) → Grown m → Grown (put_event x then m)
put_grown x then keep m h =
    let t = try event_le m.cut m.events 0 (x m) in
    keep t.answer (with_cut (with_events m (listed m.events t.state)) t.cut) (record { forest = h.forest; draft = h.draft })

announced_grown : (r : Result ℕ Refusal) (m : Machine) → Grown m → Grown (announced r m)
announced_grown (Ok n) m h = h
announced_grown (Err f) m h = record { forest = h.forest; draft = h.draft }

accept_grown : (f : Form) (m : Machine) → m.end ≡ None → Grown m → Grown (accept f m)
accept_grown (a-station k b d w next) m e h =
    let s = new_station b d w next in
    record {
      forest = forest_same (with_station m.network k s) _ refl (forest_kept m.network k s (sym (h.draft e k)) h.forest);
      draft = λ q j. set-has (λ (x : Station). x.into ≡ None) m.network.stations k j s no_station refl (h.draft q j);
    }
accept_grown (an-order i t u v k) m e h = put_grown (event_at t (Arrive i k)) (ordered i (new_order u v k)) (λ r x g. go r x g) m h
  where
    go : (r : Result ℕ Refusal) (x : Machine) → Grown x → Grown (ordered i (new_order u v k) r x)
    go (Ok n) x g = record { forest = forest_same x.network _ refl g.forest; draft = g.draft }
    go (Err f) x g = record { forest = g.forest; draft = g.draft }
accept_grown (a-withdraw i t) m e h = put_grown (event_at t (Withdraw i)) announced announced_grown m h
accept_grown (a-close k t j) m e h = put_grown (event_at t (Closing k j)) announced announced_grown m h
accept_grown (End t) m e h = record { forest = h.forest; draft = λ q. absurd (let z : ◌≡◌ {A = ℕ} 0 1 = cc in omega arith) }

pub in_draft : (o : Option ℕ) (b : Bool) (r d : Bool) → checked r (not (is_some o) && b) d ≡ None → o ≡ None
in_draft None b r d e = refl
in_draft (Some t) b true d e = absurd (let z : ◌≡◌ {A = ℕ} 0 1 = cc in omega arith)
in_draft (Some t) b false d e = absurd (let z : ◌≡◌ {A = ℕ} 0 1 = cc in omega arith)

form_grown : (f : Form) (m : Machine) → Grown m → Grown (form f m)
form_grown f m h = go (form_refusal f m) refl
  where
    go : (o : Option FormRefusal) → form_refusal f m ≡ o → Grown (form_by o f (with_refusal m None))
    go None p = accept_grown f (with_refusal m None) (in_draft m.end (form_in_place f m) (in_range f) (names_declared f m.network) p) (record { forest = h.forest; draft = h.draft })
    go (Some r) p = record { forest = h.forest; draft = h.draft }

call_grown : (x : Call) (m : Machine) → Grown m → Grown (call x m)
call_grown (a_form f) m h = form_grown f m h
call_grown a_step m h = step_grown m h

first_grown : (e l : Bounds) (c : Option ℕ) → Grown (start_machine e l c)
first_grown e l c = record {
  forest = record { stations = refl; opens = λ k. none k };
  draft = λ q k. none k;
}
  where
    none : (k : ℕ) → (station cleared k).into ≡ None
    none k = replicate-has (λ (x : Station). x.into ≡ None) 32 k no_station refl

pub open_reached : OpenReached
open_reached xs e l c = leads _ (calls_keep Grown call_grown xs (start_machine e l c) (first_grown e l c)).forest
