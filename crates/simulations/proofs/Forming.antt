-- The forms: refused at once, accepted, or put into the event store.
use Rattle.std.proofs.Common.{◌≡◌, ℕ, [], Some, None, Ok, Err, Option, Result, sym, refl, ap, ◌∙◌, subst, length-set}
use Rattle.elements.specs.declared.events.Event.{Event}
use Rattle.elements.specs.declared.events.EventKind.{EventKind}
use Rattle.elements.specs.declared.lines.LineEntry.{LineEntry}
use Rattle.elements.specs.Elements.{event_le}
use Rattle.stores.specs.declared.refusals.Refusal.{Refusal}
use Rattle.stores.specs.declared.refusals.Refusal.TheVariants.{NoCell}
use Rattle.stores.specs.Meaning.{Meaning}
use Rattle.stores.specs.Promises.{Puts}
use Rattle.machine.specs.declared.networks.Network.{Network}
use Rattle.machine.specs.declared.networks.Order.{Order}
use Rattle.machine.specs.declared.forms.Form.{Form}
use Rattle.machine.specs.declared.forms.Form.TheVariants.{Station as a-station, Order as an-order, Withdraw, Close, End}
use Rattle.machine.specs.declared.forms.FormRefusal.{FormRefusal}
use Rattle.machine.specs.declared.forms.FormRefusal.TheVariants.{Store as store-refused}
use Rattle.machine.specs.declared.forms.ScriptRefusal.{ScriptRefusal}
use Rattle.machine.specs.declared.forms.ScriptRefusal.TheVariants.{Form as form-refused}
use Rattle.machine.specs.declared.records.StoreName.{StoreName}
use Rattle.machine.specs.declared.records.StoreName.TheVariants.{Events, Orders}
use Rattle.machine.specs.Network.{with_new_station, with_new_order}
use Rattle.machine.specs.Machine.{Machine, with_cut, with_events, with_refusal}
use Rattle.machine.specs.Puts.{Continuation, put_event, stopped}
use Rattle.machine.specs.Forms.{form, form_by, form_refusal, accept, event_at, announced, ordered, new_station, new_order}
use Rattle.outcomes.specs.Simulation.{Control, Simulation, Earlier, no_takes, machine_of, store_of, entries_in}
use Rattle.outcomes.specs.Outcomes.{Outcome, Whole, Written}
use Rattle.outcomes.specs.Composition.{Follows}
use Rattle.outcomes.proofs.Onwards.{outcome_onward, outcome_quiet, no_takes_more}
use Rattle.outcomes.proofs.OnePut.{outcome_event_put}
use Rattle.outcomes.proofs.Cells.{enough_suffice}
use Rattle.simulations.specs.Conditions.{KindFit, EventFit, StationFit, OrderFit, NetworkFit, Fit, Each}
use Rattle.simulations.specs.Writes.{simulation}
use Rattle.simulations.specs.Drafts.{draft_control, draft, refused_at_once, Forms}
use Rattle.simulations.proofs.Fitting.{all_set, each_put}
use Rattle.simulations.proofs.Writing.{written_kept, kept_cells, kept_counted}
use Rattle.simulations.proofs.Entering.{outcome_as}

-- whether a form is refused at once depends on the network and the events alone
same_refusal : (f : Form) (n : Network) (m : Meaning Event) (l : Meaning LineEntry) (r : Option ScriptRefusal) (t : Earlier) (c : Option ℕ) → form_refusal f (with_cut (machine_of t (draft n m l r)) c) ≡ refused_at_once f n m l
same_refusal (a-station k b d w x) n m l r t c = refl
same_refusal (an-order i at u v k) n m l r t c = refl
same_refusal (Withdraw i at) n m l r t c = refl
same_refusal (Close k at j) n m l r t c = refl
same_refusal (End at) n m l r t c = refl

module _ (n : Network) (m : Meaning Event) (l : Meaning LineEntry) (h : Fit (draft n m l None)) (f : Form) where
  goes_by : (o : Option FormRefusal) → refused_at_once f n m l ≡ o → (r : Option ScriptRefusal) (t : Earlier) (c : Option ℕ) → form f (with_cut (machine_of t (draft n m l r)) c) ≡ form_by o f (with_cut (machine_of t (draft n m l None)) c)
  goes_by o e r t c = ap (λ z. form_by z f (with_cut (machine_of t (draft n m l None)) c)) (same_refusal f n m l r t c ∙ e)

  pub form_refused_at_once : (x : FormRefusal) → refused_at_once f n m l ≡ Some x → Forms f (draft n m l) (draft n m l) (Some x)
  form_refused_at_once x e = record {
    fit = h;
    whole = λ r. enough_suffice (form f) _ _ (outcome_quiet (form f) (draft n m l r) (draft n m l (Some (form-refused x))) (record {
      takes = no_takes;
      same = λ t c. goes_by (Some x) e r t c ∙ ap (λ v. with_cut (machine_of v (draft n m l (Some (form-refused x)))) c) (no_takes_more t);
      cells = kept_cells (draft_control n r) (draft_control n (Some (form-refused x))) m l [] [];
      counted = kept_counted (draft_control n r) (draft_control n (Some (form-refused x))) m l [] [];
      written = written_kept (draft n m l r) (draft n m l (Some (form-refused x))) refl refl;
    }));
  }

  module _ (e : refused_at_once f n m l ≡ None) where
    -- an accepted form goes on from the draft whose last call was not refused
    pub accepts_on : (r : Option ScriptRefusal) (z : Simulation) → Outcome (accept f) (draft n m l None) z → Outcome (form f) (draft n m l r) z
    accepts_on r z o = outcome_onward (form f) (accept f) (draft n m l r) (draft n m l None) z (record {
      takes = no_takes;
      same = λ t c. goes_by None e r t c ∙ ap (λ v. accept f (with_cut (machine_of v (draft n m l None)) c)) (no_takes_more t);
      cells = kept_cells (draft_control n r) (draft_control n None) m l [] [];
      counted = kept_counted (draft_control n r) (draft_control n None) m l [] [];
      written = written_kept (draft n m l r) (draft n m l None) refl refl;
    }) o

    -- it writes into the network alone
    form_written : (d : Control) → ((t : Earlier) (c : Option ℕ) → accept f (with_cut (machine_of t (draft n m l None)) c) ≡ with_cut (machine_of t (simulation d m l [])) c) → d.used ≡ 0 → (r : Option ScriptRefusal) → Whole (form f) (draft n m l r) (simulation d m l [])
    form_written d same u r =
        let b : Simulation = simulation d m l [] in
        enough_suffice (form f) _ _ (accepts_on r b (outcome_quiet (accept f) (draft n m l None) b (record {
          takes = no_takes;
          same = λ t c. same t c ∙ ap (λ v. with_cut (machine_of v b) c) (no_takes_more t);
          cells = kept_cells (draft_control n None) d m l [] [];
          counted = kept_counted (draft_control n None) d m l [] [];
          written = written_kept (draft n m l None) b u refl;
        })))

module _ (n : Network) (m : Meaning Event) (l : Meaning LineEntry) (h : Fit (draft n m l None)) where
  -- a station
  pub station_formed : (k b d w : ℕ) (x : Option ℕ) → refused_at_once (a-station k b d w x) n m l ≡ None → StationFit (new_station b d w x) → (n2 : Network) → n2 ≡ with_new_station n k (new_station b d w x) → Forms (a-station k b d w x) (draft n m l) (draft n2 m l) None
  station_formed k b d w x e s n2 is =
      let z : Network = with_new_station n k (new_station b d w x) in
      subst (λ (y : Network). Forms (a-station k b d w x) (draft n m l) (draft y m l) None) (sym is) (record {
        fit = record { network = record { stations = length-set n.stations k _ ∙ h.network.stations; orders = h.network.orders; each_station = all_set StationFit n.stations k _ h.network.each_station s; each_order = h.network.each_order }; instant = h.instant; end = tt; events = h.events; lines = h.lines };
        whole = form_written n m l h (a-station k b d w x) e (draft_control z None) (λ t c. refl) refl;
      })

  -- the end: the network runs
  pub end_formed : (t : ℕ) → refused_at_once (End t) n m l ≡ None → (r : Option ScriptRefusal) → Whole (form (End t)) (draft n m l r) (simulation (record { instant = 0; end = Some t; network = n; refusal = None; fault = None; used = 0 }) m l [])
  end_formed t e = form_written n m l h (End t) e (record { instant = 0; end = Some t; network = n; refusal = None; fault = None; used = 0 }) (λ u c. refl) refl

-- Forms that put an event: an accepted put may write into the network, a refused one is the form's refusal.

pub record Announces (then : Continuation) (write : Network → Network) : Type 0 where
  pub accepted : (x : ℕ) (n : Network) (m : Meaning Event) (l : Meaning LineEntry) (t : Earlier) → then (Ok x) (machine_of t (draft n m l None)) ≡ machine_of t (draft (write n) m l None)
  pub refused : (f : Refusal) (v : Machine) → then (Err f) v ≡ with_refusal v (Some (form-refused (store-refused f)))
  pub cut : (r : Result ℕ Refusal) (v : Machine) (c : Option ℕ) → then r (with_cut v c) ≡ with_cut (then r v) c

module _ (then : Continuation) (write : Network → Network) (p : Announces then write) where
  announces_follows : Follows then Events
  announces_follows = record { cut = p.cut; stop = λ v. ap stopped (p.refused NoCell v); entries = entries_by }
    where
      entries_by : (v : Machine) (s : StoreName) → entries_in (then (Err NoCell) v) s ≡ entries_in v s
      entries_by v Events = ap (λ w. entries_in w Events) (p.refused NoCell v)
      entries_by v Orders = ap (λ w. entries_in w Orders) (p.refused NoCell v)

  module _ (n : Network) (m : Meaning Event) (l : Meaning LineEntry) (h : Fit (draft n m l None)) (f : Form) (e : refused_at_once f n m l ≡ None) (at : ℕ) (kind : EventKind) (is : (v : Machine) → accept f v ≡ put_event (event_at at kind) then v) (kind-fit : KindFit kind) (m2 : Meaning Event) where
    abbrev the_event : Event
    the_event = record { time = at; kind = kind }

    events_put : (r : Result ℕ Refusal) → Puts event_le m 0 the_event r m2 → Each EventFit m2.state
    events_put r q = subst (Each EventFit) (sym q.after) (each_put EventFit event_le m.state 0 _ r (λ x. kind-fit) h.events)

    put_outcome : (r : Result ℕ Refusal) (b : Simulation) → Puts event_le m 0 the_event r m2 → b.events ≡ m2 → b.lines ≡ l → ((t : Earlier) → machine_of t b ≡ then r (with_events (machine_of t (draft n m l None)) (store_of m2 t.takes.events))) → Written (draft n m l None) b → (s : Option ScriptRefusal) → Whole (form f) (draft n m l s) b
    put_outcome r b q be bl same w s = enough_suffice (form f) _ _ (accepts_on n m l h f e s b (outcome_as (accept f) (put_event (event_at at kind) then) (draft n m l None) b (λ t c. is (with_cut (machine_of t (draft n m l None)) c)) (outcome_event_put then (event_at at kind) (draft n m l None) b the_event r (record {
      follows = announces_follows;
      blind = λ v c. refl;
      element = λ t. refl;
      inside = h.events.queues;
      puts = subst (λ (x : Meaning Event). Puts event_le m 0 the_event r x) (sym be) q;
      same = λ t. same t ∙ ap (λ (x : Meaning Event). then r (with_events (machine_of t (draft n m l None)) (store_of x t.takes.events))) (sym be);
      lines = bl;
      written = w;
    }))))

    pub form_accepted : (x : ℕ) → Puts event_le m 0 the_event (Ok x) m2 → NetworkFit (write n) → (n2 : Network) → n2 ≡ write n → Forms f (draft n m l) (draft n2 m2 l) None
    form_accepted x q nf n2 en = subst (λ (y : Network). Forms f (draft n m l) (draft y m2 l) None) (sym en) (record {
      fit = record { network = nf; instant = h.instant; end = tt; events = events_put (Ok x) q; lines = h.lines };
      whole = put_outcome (Ok x) (draft (write n) m2 l None) q refl refl (λ t. sym (p.accepted x n m2 l t)) (written_kept (draft n m l None) (draft (write n) m2 l None) refl refl);
    })

    pub form_put_refused : (x : Refusal) → Puts event_le m 0 the_event (Err x) m2 → Forms f (draft n m l) (draft n m2 l) (Some (store-refused x))
    form_put_refused x q = record {
      fit = record { network = h.network; instant = h.instant; end = tt; events = events_put (Err x) q; lines = h.lines };
      whole = put_outcome (Err x) (draft n m2 l (Some (form-refused (store-refused x)))) q refl refl (λ t. sym (p.refused x (machine_of t (draft n m2 l None)))) (written_kept (draft n m l None) (draft n m2 l (Some (form-refused (store-refused x)))) refl refl);
    }

abbrev pub no_write : Network → Network
no_write n = n

pub announced_only : Announces announced no_write
announced_only = record { accepted = λ x n m l t. refl; refused = λ f v. refl; cut = cut_by }
  where
    cut_by : (r : Result ℕ Refusal) (v : Machine) (c : Option ℕ) → announced r (with_cut v c) ≡ with_cut (announced r v) c
    cut_by (Ok x) v c = refl
    cut_by (Err f) v c = refl

pub orders_one : (i : ℕ) (o : Order) → Announces (ordered i o) (λ n. with_new_order n i o)
orders_one i o = record { accepted = λ x n m l t. refl; refused = λ f v. refl; cut = cut_by }
  where
    cut_by : (r : Result ℕ Refusal) (v : Machine) (c : Option ℕ) → ordered i o r (with_cut v c) ≡ with_cut (ordered i o r v) c
    cut_by (Ok x) v c = refl
    cut_by (Err f) v c = refl

pub new_order_fit : (i u v k : ℕ) (n : Network) → NetworkFit n → NetworkFit (with_new_order n i (new_order u v k))
new_order_fit i u v k n h = record { stations = h.stations; orders = length-set n.orders i _ ∙ h.orders; each_station = h.each_station; each_order = all_set OrderFit n.orders i _ h.each_order tt }
