-- What a form comes to, from the values that its calls leave.
use Rattle.std.proofs.Common.{◌≡◌, ℕ, Some, None, Ok, Err, Result, sym, refl, ap, ◌∙◌, subst}
use Rattle.std.specs.Result.{IsErrAnd}
use Rattle.std.proofs.lemmas.Result.{err_from_is_err_and}
use Rattle.elements.specs.declared.events.Event.{Event}
use Rattle.elements.specs.declared.events.EventKind.{EventKind}
use Rattle.elements.specs.declared.lines.LineEntry.{LineEntry}
use Rattle.stores.specs.Meaning.{Meaning}
use Rattle.machine.specs.declared.networks.Network.{Network}
use Rattle.machine.specs.declared.forms.Form.{Form}
use Rattle.machine.specs.declared.forms.Form.TheVariants.{Station, Order, Withdraw, Close, End}
use Rattle.machine.specs.declared.forms.FormRefusal.{FormRefusal}
use Rattle.machine.specs.Machine.{Machine}
use Rattle.machine.specs.Puts.{Continuation, put_event}
use Rattle.machine.specs.Forms.{accept, announced, event_at}
use Rattle.simulations.specs.Conditions.{KindFit, NetworkFit, Fit}
use Rattle.simulations.specs.Drafts.{draft, refused_at_once, Forms}
use Rattle.simulations.proofs.Forming.{Announces, form_refused_at_once, form_accepted, form_put_refused, no_write, announced_only}
use Rattle.network.specs.Checks.{at_once, refusal_in}
use Rattle.network.specs.Networks.{Announcing}

-- the check is the machine's
same_check : (f : Form) (n : Network) (m : Meaning Event) (l : Meaning LineEntry) → refused_at_once f n m l ≡ at_once f n m.state.next
same_check (Station k b d w x) n m l = refl
same_check (Order i t u v k) n m l = refl
same_check (Withdraw i t) n m l = refl
same_check (Close k t j) n m l = refl
same_check (End t) n m l = refl

-- an error that is passed on
passed_on : (r : Result (Unit {0}) FormRefusal) (x : FormRefusal) → IsErrAnd r (λ e. e ≡ x) → refusal_in r ≡ Some x
passed_on r x k = let p = err_from_is_err_and r k in ap refusal_in p.1 ∙ ap Some p.2

-- q is the answer of the check where the event store has issued i stamps
module _ (f : Form) (n : Network) (m : Meaning Event) (l : Meaning LineEntry) (h : Fit (draft n m l None)) (i : ℕ) (q : Result (Unit {0}) FormRefusal) (same : i ≡ m.state.next) (checked : refusal_in q ≡ at_once f n i) where
  told : refused_at_once f n m l ≡ refusal_in q
  told = same_check f n m l ∙ ap (at_once f n) (sym same) ∙ sym checked

  pub fails : (x : FormRefusal) → q ≡ Err x → Forms f (draft n m l) (draft n m l) (Some x)
  fails x is = form_refused_at_once n m l h f x (told ∙ ap refusal_in is)

  pub fails_by : (x : FormRefusal) → q ≡ Err x → (r : Result (Unit {0}) FormRefusal) → IsErrAnd r (λ e. e ≡ x) → Forms f (draft n m l) (draft n m l) (refusal_in r)
  fails_by x is r k = subst (Forms f (draft n m l) (draft n m l)) (sym (passed_on r x k)) (fails x is)

  module _ (u : Unit {0}) (is : q ≡ Ok u) where
    pub passes : refused_at_once f n m l ≡ None
    passes = told ∙ ap refusal_in is

    -- it puts an event
    module _ (then : Continuation) (write : Network → Network) (p : Announces then write) (at : ℕ) (kind : EventKind) (says : (v : Machine) → accept f v ≡ put_event (event_at at kind) then v) (fit : KindFit kind) (m2 : Meaning Event) where
      pub store_takes : Announcing at kind m (Ok tt) m2 → NetworkFit (write n) → (n2 : Network) → n2 ≡ write n → Forms f (draft n m l) (draft n2 m2 l) None
      store_takes a = form_accepted then write p n m l h f passes at kind says fit m2 a.0 a.1

      pub store_refuses : (x : FormRefusal) → Announcing at kind m (Err x) m2 → Forms f (draft n m l) (draft n m2 l) (Some x)
      store_refuses x a = subst (λ z. Forms f (draft n m l) (draft n m2 l) (Some z)) (sym a.1) (form_put_refused then write p n m l h f passes at kind says fit m2 a.0 a.2)

      pub store_refuses_by : (x : FormRefusal) → Announcing at kind m (Err x) m2 → (r : Result (Unit {0}) FormRefusal) → IsErrAnd r (λ e. e ≡ x) → Forms f (draft n m l) (draft n m2 l) (refusal_in r)
      store_refuses_by x a r k = subst (Forms f (draft n m l) (draft n m2 l)) (sym (passed_on r x k)) (store_refuses x a)

    -- and does nothing else
    pub only_announces : (at : ℕ) (kind : EventKind) → ((v : Machine) → accept f v ≡ put_event (event_at at kind) announced v) → KindFit kind → (m2 : Meaning Event) (r : Result (Unit {0}) FormRefusal) → Announcing at kind m r m2 → Forms f (draft n m l) (draft n m2 l) (refusal_in r)
    only_announces at kind says fit m2 (Ok t) a = store_takes announced no_write announced_only at kind says fit m2 a h.network n refl
    only_announces at kind says fit m2 (Err x) a = store_refuses announced no_write announced_only at kind says fit m2 x a
