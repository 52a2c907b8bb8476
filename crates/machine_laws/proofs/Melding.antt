-- A station closes: whoever waits in its line waits in the other.
use Rattle.std.proofs.Common.{◌≡◌, ℕ, ◌+◌, ◌<◌, ◌≤◌, cond, eqb, ◌⊎◌, [], length, set, None, Ok, sum_by, Result, sym, refl, ap, ◌∙◌, subst, inl, inr, arith}
use Rattle.std.specs.List.{AllByRecursion}
use Rattle.std.proofs.ByRecursion.{All-set}
use Rattle.std.proofs.lemmas.Bool.{cases_eq, cond-true, cond-false, eq-eqb, ne_eqb}
use Rattle.elements.specs.declared.lines.LineEntry.{LineEntry}
use Rattle.elements.specs.declared.entries.Entry.{Entry}
use Rattle.elements.specs.Elements.{line_le}
use Rattle.elements.specs.Order.{precedes_by}
use Rattle.stores.specs.declared.refusals.Refusal.{Refusal}
use Rattle.stores.specs.SortedLists.{merge}
use Rattle.stores.specs.Meaning.{State, list_of, count_of}
use Rattle.stores.specs.Calls.{meld_answer, meld_after}
use Rattle.stores.proofs.Answering.{meld_told}
use Rattle.machine.specs.declared.networks.OrderState.{OrderState}
use Rattle.machine.specs.declared.networks.OrderState.TheVariants.{NotYet, Waiting, InService, Done as is-done, Away as is-away, Withdrawn as is-withdrawn, Stranded}
use Rattle.machine.specs.declared.records.RecordKind.TheVariants.{Close}
use Rattle.machine.specs.Network.{closed}
use Rattle.machine.specs.Machine.{Machine, listed, with_network, with_lines, tell}
use Rattle.machine.specs.Step.{close_into}
use Rattle.machine_laws.specs.Entries.{total}
use Rattle.machine_laws.specs.History.{moved, place}
use Rattle.machine_laws.specs.Whereabouts.{wait_of, wait_with, Spot}
use Rattle.machine_laws.proofs.Elements.{all_get, all_merge}
use Rattle.machine_laws.proofs.Totalling.{total_meld, sum_none, sum_alike, only_at}
use Rattle.machine_laws.proofs.Histories.{waits_push, place_push, unfinished_push, good_push}
use Rattle.machine_laws.proofs.Orders.{wait_at, Fits, Base, Orders}
use Rattle.machine_laws.proofs.Spending.{Written}
use Rattle.machine_laws.proofs.Holding.{base_kept}

-- line k melds into line j, and the record tells how many moved
abbrev pub melded : ℕ → ℕ → Machine → Machine
melded k j m = tell (Close k j (count_of m.lines.state k)) (with_lines (with_network m (closed k j m.network)) (listed m.lines (meld_after line_le m.lines.state j k (Ok (count_of m.lines.state k)))))

pub melded_is : (k j : ℕ) (m : Machine) → k < 32 → j < 32 → (j ≡ k → ⊥) → close_into k j m ≡ melded k j m
melded_is k j m lk lj ne =
    let e : meld_answer m.lines.state j k ≡ Ok (count_of m.lines.state k) = sym (meld_told m.lines.state j k (count_of m.lines.state k) lj lk ne refl) in
    ap (λ (r : Result ℕ Refusal). tell (Close k j (count_of m.lines.state k)) (with_lines (with_network m (closed k j m.network)) (listed m.lines (meld_after line_le m.lines.state j k r)))) e

module _ (k j : ℕ) (l : State LineEntry) (lk : k < length l.lists) (lj : j < length l.lists) (ne : j ≡ k → ⊥) where
  abbrev joined : State LineEntry
  joined = meld_after line_le l j k (Ok (count_of l k))

  melds : (f : ℕ → Entry LineEntry → ℕ) → total f joined + sum_by (f k) (list_of l k) ≡ total f l + sum_by (f j) (list_of l k)
  melds f = total_meld f line_le l j k (count_of l k) lj lk ne

  -- no entry is lost or won
  waits_kept : (i : ℕ) → total (wait_of i) joined ≡ total (wait_of i) l
  waits_kept i = omega (arith, melds (wait_of i))

  -- whoever waited in line q is in the line that the closing moved it to
  pub waits_moved : (i s q : ℕ) → 1 ≤ total (wait_at i s q) l → 1 ≤ total (wait_at i s (cond (eqb q k) j q)) joined
  waits_moved i s q h = go (cases_eq q k)
    where
      go : (q ≡ k) ⊎ (q ≡ k → ⊥) → 1 ≤ total (wait_at i s (cond (eqb q k) j q)) joined
      go (inl e) =
          let here : 1 ≤ sum_by (wait_with i s 0) (list_of l k) = omega (arith, subst (λ p. 1 ≤ total (wait_at i s p) l) e h, only_at k (wait_with i s 0) l) in
          let none = sum_none (wait_at i s j k) (λ y. cond-false (eqb k j) (wait_with i s k y) 0 (ne_eqb k j (λ p. ne (sym p)))) (list_of l k) in
          let all = sum_alike (wait_at i s j j) (wait_with i s 0) (λ y. cond-true (eqb j j) (wait_with i s j y) 0 (eq-eqb j j refl)) (list_of l k) in
          subst (λ p. 1 ≤ total (wait_at i s p) joined) (sym (cond-true (eqb q k) j q (eq-eqb q k e))) (omega (arith, here, none, all, melds (wait_at i s j)))
      go (inr e) =
          let none = sum_none (wait_at i s q k) (λ y. cond-false (eqb k q) (wait_with i s k y) 0 (ne_eqb k q (λ p. e (sym p)))) (list_of l k) in
          subst (λ p. 1 ≤ total (wait_at i s p) joined) (sym (cond-false (eqb q k) j q (ne_eqb q k e))) (omega (arith, h, none, melds (wait_at i s q)))

module _ (who : ℕ → LineEntry) (n k j : ℕ) (m : Machine) (b : Base who n m) (o : Orders [] n m) (lk : k < length m.lines.state.lists) (lj : j < length m.lines.state.lists) (ne : j ≡ k → ⊥) where
  abbrev v : Machine
  v = melded k j m

  spot_kept : (i a f w : ℕ) → Spot m i a f w → Spot v i a f w
  spot_kept i a f w p = record { arrivals = p.arrivals; finishes = p.finishes; waits = waits_kept k j m.lines.state lk lj ne i ∙ p.waits }

  place_moved : (i : ℕ) → place i v.records ≡ moved k j (place i m.records)
  place_moved i = place_push i m.records _

  nowhere : (i : ℕ) → place i m.records ≡ None → place i v.records ≡ None
  nowhere i p = place_moved i ∙ ap (moved k j) p

  fits_melded : (i : ℕ) (st : OrderState) → Fits m i st → Fits v i st
  fits_melded i NotYet f = (spot_kept i _ 0 0 f.0, (unfinished_push i m.records _ ∙ f.1.0, nowhere i f.1.1))
  fits_melded i (Waiting s) f = (spot_kept i 0 0 1 f.0, (cond (eqb f.1.0 k) j f.1.0, unfinished_push i m.records _ ∙ f.1.1, place_moved i ∙ ap (moved k j) f.1.2, waits_moved k j m.lines.state lk lj ne i s f.1.0 f.1.3))
  fits_melded i (InService q s) f = (spot_kept i 0 1 0 f.0, (nowhere i f.1.0, f.1.1))
  fits_melded i is-done f = (spot_kept i 0 0 0 f.0, (unfinished_push i m.records _ ∙ f.1.0, nowhere i f.1.1))
  fits_melded i is-away f = (spot_kept i 0 0 0 f.0, (unfinished_push i m.records _ ∙ f.1.0, nowhere i f.1.1))
  fits_melded i is-withdrawn f = (spot_kept i 0 0 0 f.0, nowhere i f.1)
  fits_melded i Stranded f = (spot_kept i 0 0 0 f.0, f.1)

  pub melded_orders : Orders [] n v
  melded_orders = record { pending = o.pending; hand = tt; apart = tt; fits = λ i q. fits_melded i _ (o.fits i q) }

  pub melded_base : Base who n v
  melded_base =
      let l = m.lines.state in
      let at = λ (q : ℕ). all_get (AllByRecursion (Written who)) l.lists q [] b.written tt in
      base_kept [] n m v refl refl who n b (All-set (AllByRecursion (Written who)) (set l.lists j (merge (precedes_by line_le) (list_of l j) (list_of l k))) k [] tt (All-set (AllByRecursion (Written who)) l.lists j _ (all_merge (Written who) (precedes_by line_le) (list_of l j) (list_of l k) (at j) (at k)) b.written)) (waits_push m.records _ ∙ omega (arith, b.stamped)) (good_push who m.records _ b.good tt) b.left b.ranged
