-- What holds of the orders after every list of calls.
use Rattle.std.proofs.Common.{◌≡◌, ℕ, zero, suc, ◌+◌, Bool, true, false, List, [], ◌∷◌, replicate, Option, sym, refl, ap, subst, arith}
use Rattle.std.specs.List.{AllByRecursion}
use Rattle.std.proofs.lemmas.List.{length-replicate}
use Rattle.std.proofs.lemmas.Bool.{le-ltb}
use Rattle.elements.specs.declared.events.Event.{Event}
use Rattle.elements.specs.declared.lines.LineEntry.{LineEntry}
use Rattle.elements.specs.declared.entries.Entry.{Entry}
use Rattle.machine.specs.declared.networks.Order.{Order}
use Rattle.machine.specs.declared.networks.OrderState.TheVariants.{NotYet}
use Rattle.machine.specs.Network.{no_order, cleared, line_entry}
use Rattle.machine.specs.Machine.{Bounds, Machine, start_machine, branch, as_is}
use Rattle.machine.specs.Calls.{Call, call, is_stopped, calls}
use Rattle.machine_laws.specs.Arrivals.{arrived_by, arrived}
use Rattle.machine_laws.specs.Whereabouts.{one}
use Rattle.machine_laws.proofs.Elements.{replicate-has}
use Rattle.machine_laws.proofs.TimedCalls.{first_timed}
use Rattle.machine_laws.proofs.Orders.{Ranged, Fits}
use Rattle.machine_laws.proofs.Spending.{Written}
use Rattle.machine_laws.proofs.OrderedCalls.{Reached, call_leads}

-- after a list of calls
pub record Led (xs : List Call) (n : ℕ) (m : Machine) : Type 0 where
  pub left : ℕ
  pub reached : Reached left (calls xs m)
  pub count : arrived xs m + left + m.network.declared.orders ≡ n + (calls xs m).network.declared.orders

pub calls_lead : (xs : List Call) (n : ℕ) (m : Machine) → Reached n m → Led xs n m
calls_lead [] n m h = record { left = n; reached = h; count = omega arith }
calls_lead (x ∷ xs) n m h = go (is_stopped (call x m)) refl (calls_lead xs (call_leads x n m h).left (call x m) (call_leads x n m h).reached)
  where
    go : (b : Bool) → is_stopped (call x m) ≡ b → Led xs (call_leads x n m h).left (call x m) → Led (x ∷ xs) n m
    go false e g =
        let is : calls (x ∷ xs) m ≡ calls xs (call x m) = ap (λ b. branch b (calls xs) as_is (call x m)) e in
        record {
          left = g.left;
          reached = subst (Reached g.left) (sym is) g.reached;
          count = omega (arith, g.count, (call_leads x n m h).count, ap (λ b. arrived_by b (arrived xs) (call x m)) e, ap (λ v. v.network.declared.orders) is);
        }
    go true e g =
        let is : calls (x ∷ xs) m ≡ call x m = ap (λ b. branch b (calls xs) as_is (call x m)) e in
        record {
          left = (call_leads x n m h).left;
          reached = subst (Reached (call_leads x n m h).left) (sym is) (call_leads x n m h).reached;
          count = omega (arith, (call_leads x n m h).count, ap (λ b. arrived_by b (arrived xs) (call x m)) e, ap (λ v. v.network.declared.orders) is);
        }

pub first_reached : (e l : Bounds) (c : Option ℕ) → Reached 0 (start_machine e l c)
first_reached e l c = record {
  who = λ i. line_entry cleared i;
  base = record {
    size = length-replicate 1024 no_order;
    few = omega arith;
    known = λ i. refl;
    written = none (Entry LineEntry) (Written (λ i. line_entry cleared i)) 32;
    stamped = refl;
    good = tt;
    left = refl;
    undeclared = λ i le. replicate-has (λ (x : Order). x.state ≡ NotYet) 1024 i no_order refl;
    ranged = none (Entry Event) Ranged 32;
  };
  orders = record {
    pending = refl;
    hand = tt;
    apart = tt;
    fits = λ i q. subst (Fits (start_machine e l c) i) (sym (replicate-has (λ (x : Order). x.state ≡ NotYet) 1024 i no_order refl)) (record { arrivals = sym (ap one (le-ltb i 0 (omega arith))); finishes = refl; waits = refl }, (refl, refl));
  };
  timed = first_timed e l c;
  quiet = λ q. refl;
  empty = λ q. refl;
}
  where
    none : (A : Type 0) (P : A → Type 0) (w : ℕ) → AllByRecursion (AllByRecursion P) (replicate w [])
    none A P zero = tt
    none A P (suc w) = (tt, none A P w)
