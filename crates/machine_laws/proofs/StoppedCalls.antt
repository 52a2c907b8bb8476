-- Stopped and unstopped, calls and lists of calls do the same up to the stop.
use Rattle.std.proofs.Common.{◌≡◌, ℕ, zero, suc, Bool, true, false, not, ◌&&◌, ◌⊎◌, List, [], ◌∷◌, ◌++◌, Some, None, Ok, Err, Option, Result, sym, refl, ap, ◌∙◌, inl, inr, arith}
use Rattle.std.proofs.lemmas.List.{append-nil, append_assoc}
use Rattle.elements.specs.declared.events.Event.{Event}
use Rattle.elements.specs.declared.events.EventKind.{EventKind}
use Rattle.elements.specs.declared.events.EventKind.TheVariants.{Arrive, Finish as Finishing, Withdraw, Close as Closing}
use Rattle.elements.specs.declared.lines.LineEntry.{LineEntry}
use Rattle.elements.specs.declared.entries.Entry.{Entry}
use Rattle.stores.specs.declared.refusals.Refusal.{Refusal}
use Rattle.machine.specs.declared.networks.Order.{Order}
use Rattle.machine.specs.declared.networks.OrderState.{OrderState}
use Rattle.machine.specs.declared.networks.OrderState.TheVariants.{NotYet, Waiting, InService, Done as is-done, Away as is-away, Withdrawn as is-withdrawn, Stranded}
use Rattle.machine.specs.declared.forms.Form.{Form}
use Rattle.machine.specs.declared.forms.Form.TheVariants.{Station as a-station, Order as an-order, Withdraw as a-withdraw, Close as a-close, End}
use Rattle.machine.specs.declared.forms.FormRefusal.{FormRefusal}
use Rattle.machine.specs.declared.forms.ScriptRefusal.{ScriptRefusal}
use Rattle.machine.specs.declared.records.RecordKind.TheVariants.{Finish, Withdrawn}
use Rattle.machine.specs.declared.records.StoreName.{StoreName}
use Rattle.machine.specs.declared.records.StoreName.TheVariants.{Events, Orders}
use Rattle.machine.specs.declared.records.Fault.{Fault}
use Rattle.machine.specs.Network.{station, order, has_free, open_station}
use Rattle.machine.specs.Machine.{Machine, with_cut, tell, with_refusal, with_instant, mark, strand, is_some, seq_by, branch, halted, halted_by, as_is}
use Rattle.machine.specs.Puts.{stopped, stopped_by}
use Rattle.machine.specs.Step.{started, start, at_limit, turned_away, waited, wait, its_entry, finish_event, enter_by, enter, line, take_line, start_by, start_front, free_bench, release, leave_by, leave, finish, cancel_event, withdraw_by, withdraw, fill_by, fill_one, fill, stays_open, close_into, close_by, close, react, take_event, due_event, step_by, step}
use Rattle.machine.specs.Forms.{in_range, form_in_place, names_declared, checked, event_at, announced, ordered, new_order, accept, form_by, form_refusal, form}
use Rattle.machine.specs.Calls.{Call, a_form, a_step, call, is_stopped, calls}
use Rattle.machine_laws.specs.Records.{Adds}
use Rattle.machine_laws.specs.Stops.{Begins, Unreached, Reached, ReachedNow, StoppedAlike}
use Rattle.machine_laws.proofs.Adding.{few_records}
use Rattle.machine_laws.proofs.Walks.{started_walks, waited_walks, strand_walks, leave_walks, fill_one_walks}
use Rattle.machine_laws.proofs.Stopping.{Extends, kept, extends, event_put_extends, Alike, alike_at, alike_as, alike_blind, Tells, event_put_alike, line_put_alike}

-- h follows a stop, and leaves what is told of it
pub record Gentle (h : Machine → Machine) : Type 0 where
  pub cut : (m : Machine) (c : Option ℕ) → h (with_cut m c) ≡ with_cut (h m) c
  pub stop : (m : Machine) → stopped (h m) ≡ stopped m
  pub records : (m : Machine) → (h m).records ≡ m.records
  pub instant : (m : Machine) → (h m).instant ≡ m.instant
  pub end : (m : Machine) → (h m).end ≡ m.end

gentle_as_is : Gentle as_is
gentle_as_is = record { cut = λ m c. refl; stop = λ m. refl; records = λ m. refl; instant = λ m. refl; end = λ m. refl }

gentle_strand : (i : ℕ) → Gentle (strand i)
gentle_strand i = record { cut = λ m c. refl; stop = λ m. refl; records = λ m. refl; instant = λ m. refl; end = λ m. refl }

-- who was never stopped, stands at no cut
uncut : (m : Machine) → m.cut ≡ None → m ≡ with_cut m None
uncut m e = ap (with_cut m) e

begins_then : (v u w : Machine) → Begins v u → Begins u w → Begins v w
begins_then v u w a b = record { more = a.more ++ b.more; is = b.is ∙ ap (λ rs. rs ++ b.more) a.is ∙ append_assoc v.records a.more b.more }

begins_as : (v x u w : Machine) → v.records ≡ x.records → u.records ≡ w.records → Begins v u → Begins x w
begins_as v x u w e f a = record { more = a.more; is = sym f ∙ a.is ∙ ap (λ rs. rs ++ a.more) e }

halts : (r : Option ScriptRefusal) (f : Option Fault) (s : StoreName) → stopped_by r f ≡ Some s → halted_by r f ≡ true
halts None None s e = absurd (let z : ◌≡◌ {A = ℕ} 0 1 = cc in omega arith)
halts None (Some f) s e = refl
halts (Some r) f s e = refl

module _ (ends : Machine → Bool) (blind : (m : Machine) (c : Option ℕ) → ends (with_cut m c) ≡ ends m) (at_stop : (m : Machine) (s : StoreName) → stopped m ≡ Some s → ends m ≡ true) (f g h : Machine → Machine) (gentle : Gentle h) where
  goes : (m : Machine) (b : Bool) → ends (f (with_cut m None)) ≡ b → (o d : Option ℕ) → f (with_cut m o) ≡ with_cut (f (with_cut m None)) d → seq_by ends f g h (with_cut m o) ≡ branch b g h (with_cut (f (with_cut m None)) d)
  goes m b e o d q = ap (λ w. branch (ends w) g h w) q ∙ ap (λ x. branch x g h (with_cut (f (with_cut m None)) d)) (blind (f (with_cut m None)) d ∙ e)

  -- f reached the stop, and what the unstopped one goes on with extends what there was
  reached_both : (m : Machine) (c : ℕ) → Reached f m c → Begins (f (with_cut m None)) (seq_by ends f g h (with_cut m None)) → Reached (seq_by ends f g h) m c
  reached_both m c p on =
      let e : seq_by ends f g h (with_cut m (Some c)) ≡ h (f (with_cut m (Some c))) = ap (λ b. branch b g h (f (with_cut m (Some c)))) (at_stop _ _ p.stop) in
      record {
        store = p.store;
        stop = ap stopped e ∙ gentle.stop _ ∙ p.stop;
        records = begins_then _ (f (with_cut m None)) _ (begins_as (f (with_cut m (Some c))) _ (f (with_cut m None)) _ (sym (ap (λ w. w.records) e ∙ gentle.records _)) refl p.records) on;
      }

  pub alike_both : ((m : Machine) (c : ℕ) → Alike f m c) → ((m : Machine) (c : ℕ) → Alike g m c) → ((v : Machine) → Extends v (g v)) → ((v : Machine) → Extends v (h v)) → (m : Machine) (c : ℕ) → Alike (seq_by ends f g h) m c
  alike_both qf qg eg eh m c = record { never = never_by (ends (f (with_cut m None))) refl; ways = go (qf m c).ways }
    where
      to : (b : Bool) → ends (f (with_cut m None)) ≡ b → seq_by ends f g h (with_cut m None) ≡ branch b g h (with_cut (f (with_cut m None)) None)
      to b e = goes m b e None None (uncut _ (qf m c).never)

      never_by : (b : Bool) → ends (f (with_cut m None)) ≡ b → (seq_by ends f g h (with_cut m None)).cut ≡ None
      never_by false e = ap (λ w. w.cut) (to false e) ∙ (qg (f (with_cut m None)) c).never
      never_by true e = ap (λ w. w.cut) (to true e ∙ gentle.cut (f (with_cut m None)) None)

      further : (b : Bool) (v : Machine) → Extends v (branch b g h v)
      further false v = eg v
      further true v = eh v

      go : Unreached f m c ⊎ ReachedNow f m c → Unreached (seq_by ends f g h) m c ⊎ ReachedNow (seq_by ends f g h) m c
      go (inl p) = on (ends (f (with_cut m None))) refl
        where
          on : (b : Bool) → ends (f (with_cut m None)) ≡ b → Unreached (seq_by ends f g h) m c ⊎ ReachedNow (seq_by ends f g h) m c
          on false e = (alike_at (seq_by ends f g h) g m (f (with_cut m None)) c p.left (goes m false e (Some c) (Some p.left) p.same) (to false e) (qg (f (with_cut m None)) p.left)).ways
          on true e = (alike_at (seq_by ends f g h) h m (f (with_cut m None)) c p.left (goes m true e (Some c) (Some p.left) p.same) (to true e) (alike_blind h (f (with_cut m None)) (gentle.cut (f (with_cut m None))) p.left)).ways
      go (inr p) =
          let x = further (ends (f (with_cut m None))) (f (with_cut m None)) in
          let e : seq_by ends f g h (with_cut m (Some c)) ≡ h (f (with_cut m (Some c))) = ap (λ b. branch b g h (f (with_cut m (Some c)))) (at_stop _ _ p.reached.stop) in
          inr (record {
            reached = reached_both m c p.reached x.records;
            instant = ap (λ w. w.instant) e ∙ gentle.instant _ ∙ p.instant ∙ sym x.instant;
            end = ap (λ w. w.end) e ∙ gentle.end _ ∙ p.end ∙ sym x.end;
          })

halted_both : (f g h : Machine → Machine) → Gentle h → ((m : Machine) (c : ℕ) → Alike f m c) → ((m : Machine) (c : ℕ) → Alike g m c) → ((v : Machine) → Extends v (g v)) → ((v : Machine) → Extends v (h v)) → (m : Machine) (c : ℕ) → Alike (seq_by halted f g h) m c
halted_both f g h = alike_both halted (λ m c. refl) (λ m s e. halts m.refusal m.fault s e) f g h

started_tells : (i k : ℕ) → Tells (started i k) Events
started_tells i k = record { cut = cut_by; stop = λ m. refl; records = λ m. refl; extends = started_walks Extends extends i k }
  where
    cut_by : (r : Result ℕ Refusal) (m : Machine) (c : Option ℕ) → started i k r (with_cut m c) ≡ with_cut (started i k r m) c
    cut_by (Ok n) m c = refl
    cut_by (Err f) m c = refl

waited_tells : (i k : ℕ) → Tells (waited i k) Orders
waited_tells i k = record { cut = cut_by; stop = λ m. refl; records = λ m. refl; extends = waited_walks Extends extends i k }
  where
    away : (b : Bool) (f : Refusal) (m : Machine) (c : Option ℕ) → turned_away b i k f (with_cut m c) ≡ with_cut (turned_away b i k f m) c
    away true f m c = refl
    away false f m c = refl

    cut_by : (r : Result ℕ Refusal) (m : Machine) (c : Option ℕ) → waited i k r (with_cut m c) ≡ with_cut (waited i k r m) c
    cut_by (Ok n) m c = refl
    cut_by (Err f) m c = away (at_limit f) f m c

start_alike : (i k : ℕ) (m : Machine) (c : ℕ) → Alike (start i k) m c
start_alike i k = event_put_alike (finish_event i k) (started i k) (λ m c. refl) (started_tells i k)

wait_alike : (i k : ℕ) (m : Machine) (c : ℕ) → Alike (wait i k) m c
wait_alike i k = line_put_alike k (its_entry i) (waited i k) (λ m c. refl) (waited_tells i k)

enter_alike : (i k : ℕ) (m : Machine) (c : ℕ) → Alike (enter i k) m c
enter_alike i k m c = alike_as (enter i k) (enter_by (has_free m.network (open_station m.network k)) i (open_station m.network k)) m m (λ d. refl) c (go (has_free m.network (open_station m.network k)) (open_station m.network k))
  where
    go : (b : Bool) (r : ℕ) → Alike (enter_by b i r) m c
    go true r = alike_as (enter_by true i r) (start i r) m m (λ d. refl) c (start_alike i r m c)
    go false r = alike_as (enter_by false i r) (wait i r) m m (λ d. refl) c (wait_alike i r m c)

front_alike : (k : ℕ) (m : Machine) (c : ℕ) → Alike (start_front k) m c
front_alike k m c = alike_as (start_front k) (start_by (line m k) k) m m (λ d. refl) c (go (line m k))
  where
    go : (o : Option (Entry LineEntry)) → Alike (start_by o k) m c
    go None = alike_blind (start_by None k) m (λ d. refl) c
    go (Some e) = alike_as (start_by (Some e) k) (start e.element.order k) m (take_line k m) (λ d. refl) c (start_alike e.element.order k (take_line k m) c)

leave_alike : (i k : ℕ) (m : Machine) (c : ℕ) → Alike (leave i k) m c
leave_alike i k m c = alike_as (leave i k) (leave_by (station m.network k).next i) m m (λ d. refl) c (go (station m.network k).next)
  where
    go : (o : Option ℕ) → Alike (leave_by o i) m c
    go None = alike_blind (leave_by None i) m (λ d. refl) c
    go (Some j) = alike_as (leave_by (Some j) i) (enter i j) m m (λ d. refl) c (enter_alike i j m c)

release_alike : (i k : ℕ) (m : Machine) (c : ℕ) → Alike (release i k) m c
release_alike i k m c = alike_as (release i k) (start_front k) m (free_bench k (tell (Finish i k) m)) (λ d. refl) c (front_alike k _ c)

finish_alike : (i k : ℕ) (m : Machine) (c : ℕ) → Alike (finish i k) m c
finish_alike i k = halted_both (release i k) (leave i k) (strand i) (gentle_strand i) (release_alike i k) (leave_alike i k) (leave_walks Extends extends i k) (strand_walks Extends extends i)

withdraw_alike : (i : ℕ) (m : Machine) (c : ℕ) → Alike (withdraw i) m c
withdraw_alike i m c = alike_as (withdraw i) (withdraw_by (order m.network i).state i) m m (λ d. refl) c (go (order m.network i).state)
  where
    go : (st : OrderState) → Alike (withdraw_by st i) m c
    go NotYet = alike_blind (withdraw_by NotYet i) m (λ d. refl) c
    go (Waiting s) = alike_blind (withdraw_by (Waiting s) i) m (λ d. refl) c
    go (InService k s) = alike_as (withdraw_by (InService k s) i) (start_front k) m (tell (Withdrawn i) (free_bench k (mark i is-withdrawn (cancel_event s m)))) (λ d. refl) c (front_alike k _ c)
    go is-done = alike_blind (withdraw_by is-done i) m (λ d. refl) c
    go is-away = alike_blind (withdraw_by is-away i) m (λ d. refl) c
    go is-withdrawn = alike_blind (withdraw_by is-withdrawn i) m (λ d. refl) c
    go Stranded = alike_blind (withdraw_by Stranded i) m (λ d. refl) c

fill_one_alike : (j : ℕ) (m : Machine) (c : ℕ) → Alike (fill_one j) m c
fill_one_alike j m c = alike_as (fill_one j) (fill_by (has_free m.network j) j) m m (λ d. refl) c (go (has_free m.network j))
  where
    go : (b : Bool) → Alike (fill_by b j) m c
    go true = alike_as (fill_by true j) (start_front j) m m (λ d. refl) c (front_alike j m c)
    go false = alike_blind (fill_by false j) m (λ d. refl) c

fill_alike : (n j : ℕ) (m : Machine) (c : ℕ) → Alike (fill n j) m c
fill_alike zero j m c = alike_blind (fill zero j) m (λ d. refl) c
fill_alike (suc n) j m c = alike_as (fill (suc n) j) (seq_by halted (fill n j) (fill_one j) as_is) m m (λ d. refl) c (halted_both (fill n j) (fill_one j) as_is gentle_as_is (fill_alike n j) (fill_one_alike j) (fill_one_walks Extends extends j) extends.same m c)

close_alike : (k j : ℕ) (m : Machine) (c : ℕ) → Alike (close k j) m c
close_alike k j m c = alike_as (close k j) (close_by (stays_open k j m.network) k j) m m (λ d. refl) c (go (stays_open k j m.network))
  where
    go : (b : Bool) → Alike (close_by b k j) m c
    go true = alike_blind (close_by true k j) m (λ d. refl) c
    go false = alike_as (close_by false k j) (fill 8 j) m (close_into k j m) (λ d. refl) c (fill_alike 8 j _ c)

react_alike : (x : EventKind) (m : Machine) (c : ℕ) → Alike (react x) m c
react_alike (Arrive i k) m c = alike_as (react (Arrive i k)) (enter i k) m m (λ d. refl) c (enter_alike i k m c)
react_alike (Finishing i k) m c = alike_as (react (Finishing i k)) (finish i k) m m (λ d. refl) c (finish_alike i k m c)
react_alike (Withdraw i) m c = alike_as (react (Withdraw i)) (withdraw i) m m (λ d. refl) c (withdraw_alike i m c)
react_alike (Closing k j) m c = alike_as (react (Closing k j)) (close k j) m m (λ d. refl) c (close_alike k j m c)

step_alike : (m : Machine) (c : ℕ) → Alike step m c
step_alike m c = alike_as step (step_by (due_event m)) m (with_refusal m None) (λ d. refl) c (go (due_event m))
  where
    go : (o : Option Event) → Alike (step_by o) (with_refusal m None) c
    go None = alike_blind (step_by None) _ (λ d. refl) c
    go (Some e) = alike_as (step_by (Some e)) (react e.kind) _ (with_instant (take_event (with_refusal m None)) e.time) (λ d. refl) c (react_alike e.kind _ c)

announced_tells : Tells announced Events
announced_tells = record { cut = cut_by; stop = λ m. refl; records = λ m. refl; extends = extends_by }
  where
    cut_by : (r : Result ℕ Refusal) (m : Machine) (c : Option ℕ) → announced r (with_cut m c) ≡ with_cut (announced r m) c
    cut_by (Ok n) m c = refl
    cut_by (Err f) m c = refl

    extends_by : (r : Result ℕ Refusal) (m : Machine) → Extends m (announced r m)
    extends_by (Ok n) m = extends.same m
    extends_by (Err f) m = kept m _ refl refl refl

ordered_tells : (i : ℕ) (o : Order) → Tells (ordered i o) Events
ordered_tells i o = record { cut = cut_by; stop = λ m. refl; records = λ m. refl; extends = extends_by }
  where
    cut_by : (r : Result ℕ Refusal) (m : Machine) (c : Option ℕ) → ordered i o r (with_cut m c) ≡ with_cut (ordered i o r m) c
    cut_by (Ok n) m c = refl
    cut_by (Err f) m c = refl

    extends_by : (r : Result ℕ Refusal) (m : Machine) → Extends m (ordered i o r m)
    extends_by (Ok n) m = kept m _ refl refl refl
    extends_by (Err f) m = kept m _ refl refl refl

accept_alike : (f : Form) (m : Machine) (c : ℕ) → Alike (accept f) m c
accept_alike (a-station k b d w n) m c = alike_blind (accept (a-station k b d w n)) m (λ o. refl) c
accept_alike (an-order i t u v k) m c = event_put_alike (event_at t (Arrive i k)) (ordered i (new_order u v k)) (λ x o. refl) (ordered_tells i (new_order u v k)) m c
accept_alike (a-withdraw i t) m c = event_put_alike (event_at t (Withdraw i)) announced (λ x o. refl) announced_tells m c
accept_alike (a-close k t j) m c = event_put_alike (event_at t (Closing k j)) announced (λ x o. refl) announced_tells m c
accept_alike (End t) m c = alike_blind (accept (End t)) m (λ o. refl) c

place_blind : (f : Form) (m : Machine) (c : Option ℕ) → form_in_place f (with_cut m c) ≡ form_in_place f m
place_blind (a-station k b d w n) m c = refl
place_blind (an-order i t u v k) m c = refl
place_blind (a-withdraw i t) m c = refl
place_blind (a-close k t j) m c = refl
place_blind (End t) m c = refl

form_alike : (f : Form) (m : Machine) (c : ℕ) → Alike (form f) m c
form_alike f m c = alike_as (form f) (form_by (form_refusal f m) f) m (with_refusal m None) (λ d. ap (λ b. form_by (checked (in_range f) (not (is_some m.end) && b) (names_declared f m.network)) f (with_cut (with_refusal m None) d)) (place_blind f m d)) c (go (form_refusal f m))
  where
    go : (o : Option FormRefusal) → Alike (form_by o f) (with_refusal m None) c
    go None = alike_as (form_by None f) (accept f) (with_refusal m None) (with_refusal m None) (λ d. refl) c (accept_alike f (with_refusal m None) c)
    go (Some r) = alike_blind (form_by (Some r) f) _ (λ d. refl) c

call_alike : (x : Call) (m : Machine) (c : ℕ) → Alike (call x) m c
call_alike (a_form f) m c = form_alike f m c
call_alike a_step m c = step_alike m c

-- a list of calls, too

begins_by : (n : ℕ) (m v : Machine) → Adds n m v → Begins m v
begins_by n m v a = record { more = a.more; is = a.is }

accept_extends : (f : Form) (m : Machine) → Begins m (accept f m)
accept_extends (a-station k b d w n) m = record { more = []; is = sym (append-nil m.records) }
accept_extends (an-order i t u v k) m = (event_put_extends (event_at t (Arrive i k)) (ordered i (new_order u v k)) (ordered_tells i (new_order u v k)).extends m).records
accept_extends (a-withdraw i t) m = (event_put_extends (event_at t (Withdraw i)) announced announced_tells.extends m).records
accept_extends (a-close k t j) m = (event_put_extends (event_at t (Closing k j)) announced announced_tells.extends m).records
accept_extends (End t) m = record { more = []; is = sym (append-nil m.records) }

form_begins : (o : Option FormRefusal) (f : Form) (m : Machine) → Begins m (form_by o f m)
form_begins None f m = accept_extends f m
form_begins (Some r) f m = record { more = []; is = sym (append-nil m.records) }

call_begins : (x : Call) (m : Machine) → Begins m (call x m)
call_begins (a_form f) m = begins_as (with_refusal m None) m _ _ refl refl (form_begins (form_refusal f m) f (with_refusal m None))
call_begins a_step m = begins_by 9 m (step m) (few_records m)

pub calls_begin : (xs : List Call) (m : Machine) → Begins m (calls xs m)
calls_begin [] m = record { more = []; is = sym (append-nil m.records) }
calls_begin (x ∷ xs) m = begins_then m (call x m) _ (call_begins x m) (go (is_stopped (call x m)) (calls_begin xs (call x m)))
  where
    go : (b : Bool) → Begins (call x m) (calls xs (call x m)) → Begins (call x m) (branch b (calls xs) as_is (call x m))
    go false e = e
    go true e = record { more = []; is = sym (append-nil (call x m).records) }

abbrev Ways : (Machine → Machine) → Machine → ℕ → Type 0
Ways f m c = Unreached f m c ⊎ Reached f m c

ways_at : (f g : Machine → Machine) (m v : Machine) (c d : ℕ) → f (with_cut m (Some c)) ≡ g (with_cut v (Some d)) → f (with_cut m None) ≡ g (with_cut v None) → Ways g v d → Ways f m c
ways_at f g m v c d e n (inl p) = inl (record { left = p.left; same = e ∙ p.same ∙ ap (λ w. with_cut w (Some p.left)) (sym n) })
ways_at f g m v c d e n (inr p) = inr (record { store = p.store; stop = ap stopped e ∙ p.stop; records = begins_as _ _ _ _ (sym (ap (λ w. w.records) e)) (sym (ap (λ w. w.records) n)) p.records })

list_alike : (xs : List Call) (m : Machine) (c : ℕ) → Ways (calls xs) m c
list_alike [] m c = inl (record { left = c; same = refl })
list_alike (x ∷ xs) m c = go (call_alike x m c).ways (list_alike xs)
  where
    stops : (v : Machine) (s : StoreName) → stopped v ≡ Some s → is_stopped v ≡ true
    stops v s e = ap is_some e

    go : Unreached (call x) m c ⊎ ReachedNow (call x) m c → ((v : Machine) (d : ℕ) → Ways (calls xs) v d) → Ways (calls (x ∷ xs)) m c
    go (inl p) ih = on (is_stopped (call x (with_cut m None))) refl
      where
        to : (b : Bool) → is_stopped (call x (with_cut m None)) ≡ b → (o d : Option ℕ) → call x (with_cut m o) ≡ with_cut (call x (with_cut m None)) d → calls (x ∷ xs) (with_cut m o) ≡ branch b (calls xs) as_is (with_cut (call x (with_cut m None)) d)
        to = goes is_stopped (λ v o. refl) stops (call x) (calls xs) as_is gentle_as_is m

        on : (b : Bool) → is_stopped (call x (with_cut m None)) ≡ b → Ways (calls (x ∷ xs)) m c
        on false e = ways_at (calls (x ∷ xs)) (calls xs) m (call x (with_cut m None)) c p.left (to false e (Some c) (Some p.left) p.same) (to false e None None (uncut _ (call_alike x m c).never)) (ih (call x (with_cut m None)) p.left)
        on true e = ways_at (calls (x ∷ xs)) as_is m (call x (with_cut m None)) c p.left (to true e (Some c) (Some p.left) p.same) (to true e None None (uncut _ (call_alike x m c).never)) (inl (record { left = p.left; same = refl }))
    go (inr p) ih = inr (reached_both is_stopped (λ v o. refl) stops (call x) (calls xs) as_is gentle_as_is m c p.reached (further (is_stopped (call x (with_cut m None))) (call x (with_cut m None))))
      where
        further : (b : Bool) (v : Machine) → Begins v (branch b (calls xs) as_is v)
        further false v = calls_begin xs v
        further true v = record { more = []; is = sym (append-nil v.records) }

pub stopped_alike : StoppedAlike
stopped_alike = record { one = λ x m c. (call_alike x m c).ways; many = list_alike }
