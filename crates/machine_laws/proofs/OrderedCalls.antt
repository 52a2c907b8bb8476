-- Every call keeps what holds of the orders.
use Rattle.std.proofs.Common.{◌≡◌, ℕ, ◌+◌, ◌<◌, ◌≤◌, Bool, true, false, not, ◌&&◌, eqb, leb, ◌⊎◌, [], length, Some, None, Option, sym, refl, ap, ◌∙◌, subst, inl, inr, arith}
use Rattle.std.proofs.lemmas.Bool.{and_parts, eqb-true, leb-true}
use Rattle.elements.specs.declared.events.Event.{Event}
use Rattle.elements.specs.declared.events.EventKind.TheVariants.{Arrive, Withdraw, Close as Closing}
use Rattle.elements.specs.declared.lines.LineEntry.{LineEntry}
use Rattle.elements.specs.declared.entries.Entry.{Entry}
use Rattle.elements.specs.Elements.{event_le}
use Rattle.stores.specs.Meaning.{fresh}
use Rattle.machine.specs.declared.networks.Declared.{Declared}
use Rattle.machine.specs.declared.forms.Form.{Form}
use Rattle.machine.specs.declared.forms.Form.TheVariants.{Station as a-station, Order as an-order, Withdraw as a-withdraw, Close as a-close, End}
use Rattle.machine.specs.declared.forms.FormRefusal.{FormRefusal}
use Rattle.machine.specs.declared.records.Fault.{Fault}
use Rattle.machine.specs.Machine.{Machine, with_refusal, with_instant, is_some}
use Rattle.machine.specs.Puts.{event_tried, put_event}
use Rattle.machine.specs.Step.{due_by, due_event, next_event, take_event, react, step_by, step}
use Rattle.machine.specs.Forms.{announced, ordered, new_order, in_range, form_in_place, names_declared, checked, some_station, order_number, station_number, tick, accept, form_by, form_refusal, form}
use Rattle.machine.specs.Calls.{Call, a_form, a_step, call}
use Rattle.machine_laws.specs.Arrivals.{is_arrival, arriving_by, arriving}
use Rattle.machine_laws.proofs.Trying.{Refused, Accepted, tried}
use Rattle.machine_laws.proofs.Walks.{Closed, react_walks}
use Rattle.machine_laws.proofs.Stopping.{Extends, extends}
use Rattle.machine_laws.proofs.Closings.{due_ended, in_draft}
use Rattle.machine_laws.proofs.Timing.{Sound}
use Rattle.machine_laws.proofs.TimedCalls.{Timed, call_timed, due_front, sound_taken}
use Rattle.machine_laws.proofs.Orders.{Stations, Base, Orders, Stays}
use Rattle.machine_laws.proofs.Unchanged.{Foreign, foreign_withdrawal, foreign_closing}
use Rattle.machine_laws.proofs.Holding.{taken, taken_is}
use Rattle.machine_laws.proofs.OrderedSteps.{still}
use Rattle.machine_laws.proofs.OrderedEvents.{react_inv}
use Rattle.machine_laws.proofs.OrderedForms.{put_base, put_orders, declared_base, declared_orders}

-- n arrivals are left
pub record Reached (n : ℕ) (m : Machine) : Type 0 where
  pub who : ℕ → LineEntry
  pub base : Base who n m
  pub orders : Orders [] n m
  pub timed : Timed m
  -- while forms are taken
  pub quiet : m.end ≡ None → m.records ≡ []
  pub empty : m.end ≡ None → m.lines.state ≡ fresh

-- a call leads on: so many arrive in it, and every declared order is one that arrived or is left
pub record Leads (x : Call) (n : ℕ) (m : Machine) : Type 0 where
  pub left : ℕ
  pub reached : Reached left (call x m)
  pub count : arriving x m + left + m.network.declared.orders ≡ n + (call x m).network.declared.orders

-- a step declares nothing
abbrev Declares : Machine → Machine → Type 0
Declares m v = v.network.declared ≡ m.network.declared

declares : Closed Declares
declares = record {
  same = λ m. refl;
  then = λ m v w a b. b ∙ a;
  told = λ x m. refl;
  marked = λ i st m. refl;
  occupied = λ k m. refl;
  freed = λ k m. refl;
  closing = λ k j m e. refl;
  event_put = λ x m e f. refl;
  event_cancelled = λ k m. refl;
  line_put = λ q x m e. refl;
  line_taken = λ k m. refl;
  line_cancelled = λ k m. refl;
  line_melded = λ j k m. refl;
  cut = λ c m. refl;
  failed = λ f s m. refl;
}

-- an event is due only while there is no fault
due_running : (f : Option Fault) (t : Option ℕ) (o : Option (Entry Event)) (x : Event) → due_by f t o ≡ Some x → f ≡ None
due_running None t o x p = refl
due_running (Some f) t o x p = absurd (let z : ◌≡◌ {A = ℕ} 0 1 = cc in omega arith)

step_leads : (n : ℕ) (m : Machine) → Reached n m → Leads a_step n m
step_leads n m h = go (due_event m) refl
  where
    timed : Timed (step m)
    timed = call_timed a_step m h.timed

    go : (o : Option Event) → due_event m ≡ o → Leads a_step n m
    go None p =
        let s = still h.who [] n m (with_refusal m None) refl refl refl refl refl (λ f q. f q) h.base h.orders in
        let is : step m ≡ with_refusal m None = ap (λ o. step_by o (with_refusal m None)) p in
        record {
          left = n;
          reached = record {
            who = h.who;
            base = subst (Base h.who n) (sym is) s.0;
            orders = subst (Orders [] n) (sym is) s.1;
            timed = timed;
            quiet = λ e. ap (λ v. v.records) is ∙ h.quiet (sym (ap (λ v. v.end) is) ∙ e);
            empty = λ e. ap (λ v. v.lines.state) is ∙ h.empty (sym (ap (λ v. v.end) is) ∙ e);
          };
          count = omega (arith, ap arriving_by p, ap (λ v. v.network.declared.orders) is);
        }
    go (Some x) p =
        let u = with_refusal m None in
        let d = due_front m.fault m.end (next_event m) x p in
        let e = d.0 in
        let running = due_running m.fault m.end (next_event m) x p in
        let s = still h.who [] n m u refl refl refl refl refl (λ f q. f q) h.base h.orders in
        let sound : Sound (taken e u) = subst Sound (taken_is u e d.1) (sound_taken u e d.1 h.timed.sound) in
        let r = react_inv h.who n u (record { base = s.0; orders = s.1; sound = h.timed.sound; calm = refl }) running e d.1 sound e.element.kind refl in
        let is : step m ≡ react e.element.kind (taken e u) = ap (λ o. step_by o u) p ∙ ap (λ (y : Event). react y.kind (with_instant (take_event u) y.time)) (sym d.2) ∙ ap (react e.element.kind) (taken_is u e d.1) in
        let ended : (step m).end ≡ m.end = ap (λ v. v.end) is ∙ (react_walks Extends extends e.element.kind (taken e u)).end in
        record {
          left = r.0;
          reached = record {
            who = h.who;
            base = subst (Base h.who r.0) (sym is) r.2.base;
            orders = subst (Orders [] r.0) (sym is) r.2.orders;
            timed = timed;
            quiet = λ q. absurd (due_ended m.fault m.end (next_event m) x p (sym ended ∙ q));
            empty = λ q. absurd (due_ended m.fault m.end (next_event m) x p (sym ended ∙ q));
          };
          count = omega (arith, r.1, ap arriving_by p, ap (λ (y : Event). is_arrival y.kind) d.2, ap (λ v. v.network.declared.orders) is, ap (λ (y : Declared). y.orders) (react_walks Declares declares e.element.kind (taken e u)));
        }

-- what a form leaves of the orders: so many arrivals, and as many declared orders more
record Formed (n : ℕ) (m v : Machine) : Type 0 where
  who : ℕ → LineEntry
  left : ℕ
  base : Base who left v
  orders : Orders [] left v
  quiet : v.end ≡ None → v.records ≡ []
  empty : v.end ≡ None → v.lines.state ≡ fresh
  count : left + m.network.declared.orders ≡ n + v.network.declared.orders

-- nothing of the orders changes
formed_still : (n : ℕ) (m v : Machine) → Reached n m → v.network.orders ≡ m.network.orders → v.network.declared.orders ≡ m.network.declared.orders → v.events.state ≡ m.events.state → v.lines.state ≡ m.lines.state → v.records ≡ m.records → Stays m v → (v.end ≡ None → m.end ≡ None) → Formed n m v
formed_still n m v h os d e l r f en =
    let s = still h.who [] n m v os d e l r f h.base h.orders in
    record { who = h.who; left = n; base = s.0; orders = s.1; quiet = λ q. r ∙ h.quiet (en q); empty = λ q. l ∙ h.empty (en q); count = omega (arith, d) }

-- a withdrawal or a closing is announced
formed_put : (n : ℕ) (m : Machine) (x : Event) → Reached n m → is_arrival x.kind ≡ 0 → Stations x.kind → ((j : ℕ) → Foreign j x.kind) → Formed n m (put_event (λ v. x) announced m)
formed_put n m x h z fine f = go (tried event_le m.cut m.events 0 x)
  where
    go : Refused event_le m.cut m.events 0 x ⊎ Accepted event_le m.cut m.events 0 x → Formed n m (put_event (λ v. x) announced m)
    go (inl p) = subst (λ t. Formed n m (event_tried announced m t)) (sym p.is) (formed_still n m _ h refl refl refl refl refl (λ a q. a q) (λ q. q))
    go (inr p) =
        let inside : 0 < length m.events.state.lists = omega (arith, h.timed.sound.events_tidy.queues) in
        subst (λ t. Formed n m (event_tried announced m t)) (sym p.is) (record {
          who = h.who;
          left = n;
          base = put_base h.who n m x p.cut inside h.base h.orders fine z f;
          orders = put_orders h.who n m x p.cut inside h.base h.orders fine z f;
          quiet = h.quiet;
          empty = h.empty;
          count = refl;
        })

passed : (r p d : Bool) → checked r p d ≡ None → (r ≡ true) × (p ≡ true)
passed false p d e = absurd (let z : ◌≡◌ {A = ℕ} 0 1 = cc in omega arith)
passed true false d e = absurd (let z : ◌≡◌ {A = ℕ} 0 1 = cc in omega arith)
passed true true d e = (refl, refl)

accept_formed : (f : Form) (n : ℕ) (m : Machine) → Reached n m → m.end ≡ None → in_range f ≡ true → form_in_place f m ≡ true → Formed n m (accept f m)
accept_formed (a-station k b d w next) n m h e r p = formed_still n m _ h refl refl refl refl refl (λ a q. a q) (λ q. q)
accept_formed (an-order i t u d k) n m h e r p = go (tried event_le m.cut m.events 0 (record { time = t; kind = Arrive i k }))
  where
    go : Refused event_le m.cut m.events 0 (record { time = t; kind = Arrive i k }) ⊎ Accepted event_le m.cut m.events 0 (record { time = t; kind = Arrive i k }) → Formed n m (accept (an-order i t u d k) m)
    go (inl q) = subst (λ y. Formed n m (event_tried (ordered i (new_order u d k)) m y)) (sym q.is) (formed_still n m _ h refl refl refl refl refl (λ a z. a z) (λ z. z))
    go (inr q) =
        let inside : 0 < length m.events.state.lists = omega (arith, h.timed.sound.events_tidy.queues) in
        let next : i ≡ m.network.declared.orders = eqb-true _ _ (and_parts (some_station m.network) (eqb i m.network.declared.orders) p).1 in
        let few : i ≤ 1023 = leb-true _ _ (and_parts (order_number i) (tick t && (leb u 9 && (tick d && station_number k))) r).0 in
        let y : Event = record { time = t; kind = Arrive i k } in
        subst (λ y. Formed n m (event_tried (ordered i (new_order u d k)) m y)) (sym q.is) (record {
          who = _;
          left = n + 1;
          base = declared_base h.who n m y q.cut inside h.base h.orders tt i k u d k refl next few (h.empty e) (h.quiet e);
          orders = declared_orders h.who n m y q.cut inside h.base h.orders tt i k u d k refl next few (h.empty e) (h.quiet e);
          quiet = h.quiet;
          empty = h.empty;
          count = omega arith;
        })
accept_formed (a-withdraw i t) n m h e r p = formed_put n m (record { time = t; kind = Withdraw i }) h refl tt (λ j. foreign_withdrawal i j)
accept_formed (a-close k t j) n m h e r p =
    let a = and_parts (station_number k) (tick t && station_number j) r in
    let b = and_parts (tick t) (station_number j) a.1 in
    let lk = leb-true k 31 a.0 in
    let lj = leb-true j 31 b.1 in
    formed_put n m (record { time = t; kind = Closing k j }) h refl (omega arith, omega arith) (λ q. foreign_closing k j q)
accept_formed (End t) n m h e r p = formed_still n m _ h refl refl refl refl refl (λ a q. a q) (λ q. e)

form_leads : (f : Form) (n : ℕ) (m : Machine) → Reached n m → Leads (a_form f) n m
form_leads f n m h = done (go (form_refusal f m) refl)
  where
    there : Reached n (with_refusal m None)
    there =
        let s = still h.who [] n m (with_refusal m None) refl refl refl refl refl (λ a q. a q) h.base h.orders in
        record { who = h.who; base = s.0; orders = s.1; timed = record { sound = h.timed.sound; draft = h.timed.draft }; quiet = h.quiet; empty = h.empty }

    go : (o : Option FormRefusal) → form_refusal f m ≡ o → Formed n (with_refusal m None) (form_by o f (with_refusal m None))
    go None p =
        let q = passed (in_range f) (not (is_some m.end) && form_in_place f m) (names_declared f m.network) p in
        accept_formed f n (with_refusal m None) there (in_draft m.end (form_in_place f m) (in_range f) (names_declared f m.network) p) q.0 (place_kept f (and_parts (not (is_some m.end)) (form_in_place f m) q.1).1)
      where
        place_kept : (g : Form) → form_in_place g m ≡ true → form_in_place g (with_refusal m None) ≡ true
        place_kept (a-station k b d w next) e = e
        place_kept (an-order i t a d k) e = e
        place_kept (a-withdraw i t) e = e
        place_kept (a-close k t j) e = e
        place_kept (End t) e = e
    go (Some r) p = formed_still n (with_refusal m None) _ there refl refl refl refl refl (λ a q. a q) (λ q. q)

    done : Formed n (with_refusal m None) (form f m) → Leads (a_form f) n m
    done g = record {
      left = g.left;
      reached = record { who = g.who; base = g.base; orders = g.orders; timed = call_timed (a_form f) m h.timed; quiet = g.quiet; empty = g.empty };
      count = omega (arith, g.count);
    }

pub call_leads : (x : Call) (n : ℕ) (m : Machine) → Reached n m → Leads x n m
call_leads (a_form f) n m h = form_leads f n m h
call_leads a_step n m h = step_leads n m h
