-- Each part of a step keeps what holds of the orders.
use Rattle.std.proofs.Common.{◌≡◌, ℕ, ◌<◌, Bool, true, false, ◌⊎◌, List, [], ◌∷◌, ◌++◌, length, Some, None, Option, sym, refl, ap, ◌∙◌, subst, inl, inr, arith}
use Rattle.std.specs.List.{AllByRecursion}
use Rattle.std.proofs.lemmas.Bool.{leb-false}
use Rattle.elements.specs.declared.lines.LineEntry.{LineEntry}
use Rattle.elements.specs.declared.entries.Entry.{Entry}
use Rattle.elements.specs.Elements.{event_le, line_le}
use Rattle.stores.specs.declared.refusals.Refusal.{Refusal}
use Rattle.machine.specs.declared.networks.OrderState.TheVariants.{Done as is-done, Away as is-away}
use Rattle.machine.specs.declared.records.RecordKind.TheVariants.{Away, Done}
use Rattle.machine.specs.declared.records.StoreName.{StoreName}
use Rattle.machine.specs.declared.records.StoreName.TheVariants.{Events, Orders as order-store}
use Rattle.machine.specs.Network.{station, has_free, open_station}
use Rattle.machine.specs.Machine.{Machine, with_cut, fail, mark, strand}
use Rattle.machine.specs.Puts.{event_tried, line_tried}
use Rattle.machine.specs.Step.{started, start, at_limit, turned_away, waited, wait, its_entry, finish_event, enter_by, enter, line, start_by, start_front, leave_by, leave}
use Rattle.machine_laws.specs.Entries.{total}
use Rattle.machine_laws.specs.History.{place}
use Rattle.machine_laws.proofs.Trying.{Refused, Accepted, tried}
use Rattle.machine_laws.proofs.Walks.{Closed, start_walks, wait_walks}
use Rattle.machine_laws.proofs.Timing.{Sound, keeps}
use Rattle.machine_laws.proofs.Histories.{waits, waits_push, unfinished, Fair, Good}
use Rattle.machine_laws.proofs.Orders.{any_arrival, Hand, Ranged, Base, Orders, Same, Stays}
use Rattle.machine_laws.proofs.Unchanged.{away_silent, done_silent}
use Rattle.machine_laws.proofs.Spending.{Written, start_base, start_orders, wait_base, wait_orders, gone_base, gone_spot, gone_settled, gone_orders, strand_base, strand_orders}
use Rattle.machine_laws.proofs.Holding.{carry, base_kept}
use Rattle.machine_laws.proofs.Fronts.{fronted, fronted_is, Placeless, front_base, front_orders, front_fair}

-- at any moment of a step: these orders are in hand, n arrivals are left
pub record Inv (who : ℕ → LineEntry) (h : List Hand) (n : ℕ) (m : Machine) : Type 0 where
  pub base : Base who n m
  pub orders : Orders h n m
  pub sound : Sound m
  pub calm : m.refusal ≡ None

-- no part of a step is refused
abbrev Calm : Machine → Machine → Type 0
Calm m v = m.refusal ≡ None → v.refusal ≡ None

calm : Closed Calm
calm = record {
  same = λ m h. h;
  then = λ m v w a b h. b (a h);
  told = λ x m h. h;
  marked = λ i st m h. h;
  occupied = λ k m h. h;
  freed = λ k m h. h;
  closing = λ k j m e h. h;
  event_put = λ x m e f h. h;
  event_cancelled = λ k m h. h;
  line_put = λ q x m e h. h;
  line_taken = λ k m h. h;
  line_cancelled = λ k m h. h;
  line_melded = λ j k m h. h;
  cut = λ c m h. h;
  failed = λ f s m h. refl;
}

module _ (who : ℕ → LineEntry) where
  -- nothing of orders, stores or records changes
  pub still : (h : List Hand) (n : ℕ) (m v : Machine) → v.network.orders ≡ m.network.orders → v.network.declared.orders ≡ m.network.declared.orders → v.events.state ≡ m.events.state → v.lines.state ≡ m.lines.state → v.records ≡ m.records → Stays m v → Base who n m → Orders h n m → Base who n v × Orders h n v
  still h n m v os d e l r f b o =
      let kept : (j : ℕ) → Same m v j = λ j. record {
        arrivals = ap (total _) e;
        finishes = ap (total _) e;
        benches = λ k s. ap (total _) e;
        waits = ap (total _) l;
        lines = λ s k. ap (total _) l;
        place = ap (place j) r;
        unfinished = ap (unfinished j) r;
      } in (
        base_kept h n m v os d who n b (subst (λ x. AllByRecursion (AllByRecursion (Written who)) x.lists) (sym l) b.written) (ap waits r ∙ b.stamped ∙ ap (λ x. x.next) (sym l)) (subst (Good who) (sym r) b.good) (ap (total any_arrival) e ∙ b.left) (subst (λ x. AllByRecursion (AllByRecursion Ranged) x.lists) (sym e) b.ranged),
        carry h n m v os d f kept o,
      )

  -- a put was refused and ended the run: the order in hand is stranded
  stranded : (i n : ℕ) (x : Hand) (h : List Hand) (m : Machine) (c : Option ℕ) (f : Refusal) (s : StoreName) → x.order ≡ i → Inv who (x ∷ h) n m → Base who n (strand i (fail f s (with_cut m c))) × Orders h n (strand i (fail f s (with_cut m c)))
  stranded i n x h m c f s xi inv =
      let u = fail f s (with_cut m c) in
      let g : u.fault ≡ None → ⊥ = λ e. let z : ◌≡◌ {A = ℕ} 0 1 = cc in omega arith in
      let k = still (x ∷ h) n m u refl refl refl refl refl (λ a. g) inv.base inv.orders in
      (strand_base who i 0 n x h u None xi k.0 k.1 g, strand_orders who i 0 n x h u None xi k.0 k.1 g)

  start_inv : (i k n : ℕ) (x : Hand) (h : List Hand) (m : Machine) → x.order ≡ i → x.unfinished ≡ false → Fair who (λ j. place j m.records) i k → Inv who (x ∷ h) n m → Inv who h n (start i k m)
  start_inv i k n x h m xi idle fair inv = go (tried event_le m.cut m.events 0 (finish_event i k m))
    where
      done : Base who n (start i k m) × Orders h n (start i k m) → Inv who h n (start i k m)
      done p = record { base = p.0; orders = p.1; sound = start_walks _ keeps i k m inv.sound; calm = start_walks _ calm i k m inv.calm }

      inside : 0 < length m.events.state.lists
      inside = omega (arith, inv.sound.events_tidy.queues)

      go : Refused event_le m.cut m.events 0 (finish_event i k m) ⊎ Accepted event_le m.cut m.events 0 (finish_event i k m) → Inv who h n (start i k m)
      go (inl p) = done (subst (λ t. Base who n (event_tried (started i k) m t) × Orders h n (event_tried (started i k) m t)) (sym p.is) (stranded i n x h m p.cut p.refusal Events xi inv))
      go (inr p) = done (subst (λ t. Base who n (event_tried (started i k) m t) × Orders h n (event_tried (started i k) m t)) (sym p.is) (start_base who i k n x h m p.cut xi inv.base inv.orders inside fair idle, start_orders who i k n x h m p.cut xi inv.base inv.orders inside fair idle))

  -- an order in hand that the records have nowhere
  nowhere : (i n : ℕ) (x : Hand) (h : List Hand) (m : Machine) → x.order ≡ i → x.place ≡ None → Orders (x ∷ h) n m → place i m.records ≡ None
  nowhere i n x h m xi e o = subst (λ j. place j m.records ≡ x.place) xi o.hand.0.place ∙ e

  wait_inv : (i k n : ℕ) (x : Hand) (h : List Hand) (m : Machine) → x.order ≡ i → x.unfinished ≡ false → x.place ≡ None → Inv who (x ∷ h) n m → Inv who h n (wait i k m)
  wait_inv i k n x h m xi idle gone inv = go (tried line_le m.cut m.lines k (its_entry i m))
    where
      done : Base who n (wait i k m) × Orders h n (wait i k m) → Inv who h n (wait i k m)
      done p = record { base = p.0; orders = p.1; sound = wait_walks _ keeps i k m inv.sound; calm = wait_walks _ calm i k m inv.calm }

      turned : (b : Bool) (f : Refusal) (c : Option ℕ) → Base who n (turned_away b i k f (with_cut m c)) × Orders h n (turned_away b i k f (with_cut m c))
      turned true f c =
          let no_wait = waits_push m.records (record { at = m.instant; kind = Away i k }) ∙ omega arith in (
            gone_base who i k n x h m c xi inv.base inv.orders (Away i k) (away_silent i k) idle gone tt no_wait is-away,
            gone_orders who i k n x h m c xi inv.base inv.orders (Away i k) (away_silent i k) idle gone tt no_wait is-away refl (gone_spot who i k n x h m c xi inv.base inv.orders (Away i k) (away_silent i k) idle gone tt no_wait is-away, gone_settled who i k n x h m c xi inv.base inv.orders (Away i k) (away_silent i k) idle gone tt no_wait is-away),
          )
      turned false f c = stranded i n x h m c f order-store xi inv

      go : Refused line_le m.cut m.lines k (its_entry i m) ⊎ Accepted line_le m.cut m.lines k (its_entry i m) → Inv who h n (wait i k m)
      go (inl p) = done (subst (λ t. Base who n (line_tried (waited i k) m t) × Orders h n (line_tried (waited i k) m t)) (sym p.is) (turned (at_limit p.refusal) p.refusal p.cut))
      go (inr p) =
          let inside : k < length m.lines.state.lists = omega (arith, leb-false _ _ p.queue, inv.sound.lines_tidy.queues) in
          done (subst (λ t. Base who n (line_tried (waited i k) m t) × Orders h n (line_tried (waited i k) m t)) (sym p.is) (wait_base who i k n x h m p.cut xi inv.base inv.orders inside idle, wait_orders who i k n x h m p.cut xi inv.base inv.orders inside idle))

  pub enter_inv : (i k n : ℕ) (x : Hand) (h : List Hand) (m : Machine) → x.order ≡ i → x.unfinished ≡ false → x.place ≡ None → Inv who (x ∷ h) n m → Inv who h n (enter i k m)
  enter_inv i k n x h m xi idle gone inv = go (has_free m.network (open_station m.network k)) (open_station m.network k)
    where
      go : (b : Bool) (r : ℕ) → Inv who h n (enter_by b i r m)
      go true r = start_inv i r n x h m xi idle (λ s j t p q. absurd (let z = nowhere i n x h m xi gone inv.orders in let w : ◌≡◌ {A = ℕ} 0 1 = cc in omega arith)) inv
      go false r = wait_inv i r n x h m xi idle gone inv

  -- the front of a line, if any, starts
  pub front_inv : (k n : ℕ) (h : List Hand) (m : Machine) → m.fault ≡ None → Placeless h → Inv who h n m → Inv who h n (start_front k m)
  front_inv k n h m running placeless inv = go (line m k) refl
    where
      go : (o : Option (Entry LineEntry)) → line m k ≡ o → Inv who h n (start_by o k m)
      go None p = inv
      go (Some e) p = subst (λ v. Inv who h n (start e.element.order k v)) (sym (fronted_is m k e p)) (start_inv e.element.order k n (record { order = e.element.order; place = Some (k, e.stamp); unfinished = false }) h (fronted e k m) refl refl (front_fair who n k h m inv.base inv.orders inv.sound.lines_tidy e p running placeless) (record {
        base = front_base who n k h m inv.base inv.orders inv.sound.lines_tidy e p;
        orders = front_orders who n k h m inv.base inv.orders inv.sound.lines_tidy e p;
        sound = subst Sound (fronted_is m k e p) (keeps.line_taken k m inv.sound);
        calm = inv.calm;
      }))

  pub leave_inv : (i k n : ℕ) (x : Hand) (h : List Hand) (m : Machine) → x.order ≡ i → x.unfinished ≡ false → x.place ≡ None → Inv who (x ∷ h) n m → Inv who h n (leave i k m)
  leave_inv i k n x h m xi idle gone inv = go (station m.network k).next
    where
      no_wait : waits (m.records ++ (record { at = m.instant; kind = Done i } ∷ [])) ≡ waits m.records
      no_wait = waits_push m.records (record { at = m.instant; kind = Done i }) ∙ omega arith

      go : (o : Option ℕ) → Inv who h n (leave_by o i m)
      go None = record {
        base = gone_base who i k n x h m m.cut xi inv.base inv.orders (Done i) (done_silent i) idle gone tt no_wait is-done;
        orders = gone_orders who i k n x h m m.cut xi inv.base inv.orders (Done i) (done_silent i) idle gone tt no_wait is-done refl (gone_spot who i k n x h m m.cut xi inv.base inv.orders (Done i) (done_silent i) idle gone tt no_wait is-done, gone_settled who i k n x h m m.cut xi inv.base inv.orders (Done i) (done_silent i) idle gone tt no_wait is-done);
        sound = keeps.told (Done i) (mark i is-done m) inv.sound;
        calm = inv.calm;
      }
      go (Some j) = enter_inv i j n x h m xi idle gone inv
