-- The front of a line is taken in hand: nobody who waits there precedes it.
use Rattle.std.proofs.Common.{◌≡◌, ℕ, ◌+◌, ◌≤◌, true, false, cond, eqb, List, [], ◌∷◌, Some, None, Ok, sum_by, Option, sym, refl, ap, ◌∙◌, subst, arith}
use Rattle.std.specs.List.{AllByRecursion}
use Rattle.std.proofs.ByRecursion.{All-set, All-weaker}
use Rattle.std.proofs.lemmas.Bool.{eq-eqb}
use Rattle.std.proofs.lemmas.Bool.Decides.{nat_tests}
use Rattle.elements.specs.declared.lines.LineEntry.{LineEntry}
use Rattle.elements.specs.declared.entries.Entry.{Entry}
use Rattle.elements.specs.Elements.{line_le}
use Rattle.elements.specs.Order.{precedes_by, stamp_of}
use Rattle.stores.specs.SortedLists.{Sorted}
use Rattle.stores.specs.Meaning.{list_of}
use Rattle.stores.specs.Calls.{take_after, front}
use Rattle.stores.proofs.Removing.{front_before}
use Rattle.machine.specs.declared.networks.OrderState.{OrderState}
use Rattle.machine.specs.declared.networks.OrderState.TheVariants.{NotYet, Waiting, InService, Done as is-done, Away as is-away, Withdrawn as is-withdrawn, Stranded}
use Rattle.machine.specs.Network.{order}
use Rattle.machine.specs.Machine.{Machine, with_lines, less_one}
use Rattle.machine.specs.Step.{line, take_line}
use Rattle.machine_laws.specs.Entries.{total}
use Rattle.machine_laws.specs.History.{Place, place}
use Rattle.machine_laws.specs.Whereabouts.{one, wait_of, wait_with}
use Rattle.machine_laws.proofs.Elements.{all_get}
use Rattle.machine_laws.proofs.Totalling.{total_le, only_at, find}
use Rattle.machine_laws.proofs.TidyStores.{Tidy, sorted_at}
use Rattle.machine_laws.proofs.Timing.{line_strict}
use Rattle.machine_laws.proofs.Histories.{Fair}
use Rattle.machine_laws.proofs.Orders.{wait_at, pending_in, Hand, IsInHand, Out, Fits, Base, Orders}
use Rattle.machine_laws.proofs.Hands.{hold}
use Rattle.machine_laws.proofs.Unchanged.{same_by, events_kept, told_kept, line_left, front_leaves}
use Rattle.machine_laws.proofs.Spending.{Written}
use Rattle.machine_laws.proofs.Holding.{base_kept, all_rest, out_by, Queued, queued_by, is_declared}

-- the front entry e of line k is taken
abbrev pub fronted : Entry LineEntry → ℕ → Machine → Machine
fronted e k m = with_lines m (less_one m.lines (take_after m.lines.state k (Ok (Some e))))

pub fronted_is : (m : Machine) (k : ℕ) (e : Entry LineEntry) → line m k ≡ Some e → take_line k m ≡ fronted e k m
fronted_is m k e p = λ j. with_lines m (less_one m.lines (take_after m.lines.state k (Ok (p j))))

-- the line and the stamp of a place
line_of : Place → ℕ
line_of None = 0
line_of (Some p) = p.0

stamp_in : Place → ℕ
stamp_in None = 0
stamp_in (Some p) = p.1

pub same_place : (a b c d : ℕ) → ◌≡◌ {A = Place} (Some (a, b)) (Some (c, d)) → (a ≡ c) × (b ≡ d)
unfolding line_of stamp_in
same_place a b c d e = (ap line_of e, ap stamp_in e)

-- nobody behind the front precedes it
behind : (xs : List (Entry LineEntry)) (e : Entry LineEntry) → front xs ≡ Some e → Sorted (precedes_by line_le) xs → AllByRecursion (λ y. precedes_by line_le y e ≡ false) xs
behind [] e p s = tt
behind (x ∷ xs) e p s =
    let same : x ≡ e = cc in
    subst (λ z. AllByRecursion (λ y. precedes_by line_le y z ≡ false) (x ∷ xs)) same (line_strict.irreflexive x, All-weaker (λ y. precedes_by line_le x y ≡ true) (λ y. precedes_by line_le y x ≡ false) (λ y h. line_strict.asymmetric x y h) xs (front_before (precedes_by line_le) stamp_of line_strict x xs s))

both : {A : Type 0} (P Q : A → Type 0) (xs : List A) → AllByRecursion P xs → AllByRecursion Q xs → AllByRecursion (λ x. P x × Q x) xs
both P Q [] p q = tt
both P Q (x ∷ xs) p q = ((p.0, q.0), both P Q xs p.1 q.1)

-- nobody in hand waits by the records
abbrev pub Placeless : List Hand → Type 0
Placeless h = AllByRecursion (λ (x : Hand). x.place ≡ None) h

-- whoever waits in line k by the records is in it
record Stands (m : Machine) (j k t : ℕ) : Type 0 where
  there : 1 ≤ total (wait_at j t k) m.lines.state

stands_by : (st : OrderState) (m : Machine) (j k t : ℕ) → (st ≡ Stranded → ⊥) → Fits m j st → place j m.records ≡ Some (k, t) → Stands m j k t
stands_by NotYet m j k t z f p = absurd (let y = f.1.1 in let w : ◌≡◌ {A = ℕ} 0 1 = cc in omega arith)
stands_by (Waiting s) m j k t z f p =
    let e = same_place f.1.0 s k t (sym f.1.2 ∙ p) in
    record { there = subst (λ q. 1 ≤ total (wait_at j t q) m.lines.state) e.0 (subst (λ q. 1 ≤ total (wait_at j q f.1.0) m.lines.state) e.1 f.1.3) }
stands_by (InService l s) m j k t z f p = absurd (let y = f.1.0 in let w : ◌≡◌ {A = ℕ} 0 1 = cc in omega arith)
stands_by is-done m j k t z f p = absurd (let y = f.1.1 in let w : ◌≡◌ {A = ℕ} 0 1 = cc in omega arith)
stands_by is-away m j k t z f p = absurd (let y = f.1.1 in let w : ◌≡◌ {A = ℕ} 0 1 = cc in omega arith)
stands_by is-withdrawn m j k t z f p = absurd (let y = f.1 in let w : ◌≡◌ {A = ℕ} 0 1 = cc in omega arith)
stands_by Stranded m j k t z f p = absurd (z refl)

stranded_not : (st : OrderState) (m : Machine) (j : ℕ) → m.fault ≡ None → Fits m j st → st ≡ Stranded → ⊥
stranded_not NotYet m j q f e = let w : ◌≡◌ {A = ℕ} 0 1 = cc in omega arith
stranded_not (Waiting s) m j q f e = let w : ◌≡◌ {A = ℕ} 0 1 = cc in omega arith
stranded_not (InService l s) m j q f e = let w : ◌≡◌ {A = ℕ} 0 1 = cc in omega arith
stranded_not is-done m j q f e = let w : ◌≡◌ {A = ℕ} 0 1 = cc in omega arith
stranded_not is-away m j q f e = let w : ◌≡◌ {A = ℕ} 0 1 = cc in omega arith
stranded_not is-withdrawn m j q f e = let w : ◌≡◌ {A = ℕ} 0 1 = cc in omega arith
stranded_not Stranded m j q f e = f.1 q

-- whether order j is one of those in hand
held_or_out : (m : Machine) (j k t : ℕ) (h : List Hand) → AllByRecursion (IsInHand m) h → Placeless h → place j m.records ≡ Some (k, t) → Out h j
held_or_out m j k t [] p q e = tt
held_or_out m j k t (x ∷ h) p q e = ((λ s. let y = p.0.place in let z = q.0 in let a : ◌≡◌ {A = Option (ℕ × ℕ)} (Some (k, t)) None = sym e ∙ ap (λ i. place i m.records) (sym s) ∙ y ∙ z in let w : ◌≡◌ {A = ℕ} 0 1 = cc in omega arith), held_or_out m j k t h p.1 q.1 e)

module _ (who : ℕ → LineEntry) (n k : ℕ) (h : List Hand) (m : Machine) (b : Base who n m) (o : Orders h n m) (tidy : Tidy line_le m.lines.state) (e : Entry LineEntry) (p : line m k ≡ Some e) where
  abbrev i : ℕ
  i = e.element.order

  takes : (f : ℕ → Entry LineEntry → ℕ) → total f (fronted e k m).lines.state + f k e ≡ total f m.lines.state
  takes f = (front_leaves m.lines.state k e p).total f

  self : one (eqb i i) ≡ 1
  self = ap one (eq-eqb i i refl)

  pub front_out : Out h i
  front_out = out_by m i h o.hand (λ s. omega (arith, s.waits, takes (wait_of i), self))

  front_queued : Queued m i (order m.network i).state
  front_queued = queued_by (order m.network i).state m i (o.fits i front_out) (omega (arith, takes (wait_of i), self))

  at_le : (s q : ℕ) (l : ℕ) (y : Entry LineEntry) → wait_at i s q l y ≤ wait_of i l y
  at_le s q l y = grind (arith, nat_tests)

  -- the records have it in line k, with its stamp
  front_place : place i m.records ≡ Some (k, e.stamp)
  front_place =
      let f = front_queued.fits in
      let s = front_queued.stamp in
      let q = f.1.0 in
      let left : total (wait_at i s q) (fronted e k m).lines.state ≤ 0 = omega (arith, total_le (wait_at i s q) (wait_of i) (at_le s q) (fronted e k m).lines.state, takes (wait_of i), self, f.0.waits) in
      let here : 1 ≤ cond (eqb k q) (cond (eqb e.stamp s) (one (eqb i i)) 0) 0 = omega (arith, left, takes (wait_at i s q), f.1.3) in
      let line-is : q ≡ k = grind (arith, nat_tests, here) in
      let stamp_is : s ≡ e.stamp = grind (arith, nat_tests, here) in
      f.1.2 ∙ (λ j. Some (line-is j, stamp_is j))

  pub front_base : Base who n (fronted e k m)
  front_base = base_kept h n m (fronted e k m) refl refl who n b (All-set (AllByRecursion (Written who)) m.lines.state.lists k _ (all_rest (Written who) (list_of m.lines.state k) (all_get (AllByRecursion (Written who)) m.lines.state.lists k [] b.written tt)) b.written) b.stamped b.good b.left b.ranged

  pub front_orders : Orders (record { order = i; place = Some (k, e.stamp); unfinished = false } ∷ h) n (fronted e k m)
  front_orders =
      let f = front_queued.fits in
      hold _ h n n m (fronted e k m) front_out o refl (omega (arith, ap pending_in front_queued.is)) (λ x y. x y)
      (λ j ne. same_by m (fronted e k m) j (events_kept m.events.state j) (line_left m.lines.state (fronted e k m).lines.state e.stamp j (front_leaves m.lines.state k e p) ne) (told_kept m.records j))
      (record {
        declared = is_declared who n m i b (ap pending_in front_queued.is);
        spot = record { arrivals = f.0.arrivals; finishes = f.0.finishes; waits = omega (arith, takes (wait_of i), self, f.0.waits) };
        place = front_place;
        unfinished = f.1.1;
      })

  pub front_fair : m.fault ≡ None → Placeless h → Fair who (λ j. place j m.records) i k
  front_fair running placeless s j t pi pj =
      let out = held_or_out m j k t h o.hand placeless pj in
      let fits = o.fits j out in
      let st = stands_by (order m.network j).state m j k t (stranded_not (order m.network j).state m j running fits) fits pj in
      let there : 1 ≤ sum_by (wait_with j t 0) (list_of m.lines.state k) = omega (arith, st.there, only_at k (wait_with j t 0) m.lines.state) in
      let y = find (λ z. (precedes_by line_le z e ≡ false) × Written who z) (wait_with j t 0) (list_of m.lines.state k) (both (λ z. precedes_by line_le z e ≡ false) (Written who) (list_of m.lines.state k) (behind (list_of m.lines.state k) e p (sorted_at line_le line_strict m.lines.state tidy k)) (all_get (AllByRecursion (Written who)) m.lines.state.lists k [] b.written tt)) there in
      let here : 1 ≤ cond (eqb y.0.stamp t) (one (eqb y.0.element.order j)) 0 = y.2 in
      let order_is : y.0.element.order ≡ j = grind (arith, nat_tests, here) in
      let stamp_is : y.0.stamp ≡ t = grind (arith, nat_tests, here) in
      let mine : e.element ≡ who i = front_is (list_of m.lines.state k) p (all_get (AllByRecursion (Written who)) m.lines.state.lists k [] b.written tt) in
      let s-is : e.stamp ≡ s = (same_place k e.stamp k s (sym front_place ∙ pi)).1 in
      subst (λ (a : Entry LineEntry). precedes_by line_le a (record { element = who i; stamp = s }) ≡ false) (λ d. record { element = (y.1.1 ∙ ap who order_is) d; stamp = stamp_is d }) (subst (λ (a : Entry LineEntry). precedes_by line_le y.0 a ≡ false) (λ d. record { element = mine d; stamp = s-is d }) y.1.0)
    where
      front_is : (xs : List (Entry LineEntry)) → front xs ≡ Some e → AllByRecursion (Written who) xs → Written who e
      front_is [] q a = absurd (let w : ◌≡◌ {A = ℕ} 0 1 = cc in omega arith)
      front_is (x ∷ xs) q a = let same : x ≡ e = cc in subst (Written who) same a.0
