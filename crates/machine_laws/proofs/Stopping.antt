-- Stopped and unstopped, each part of a step does the same up to the stop.
use Rattle.std.proofs.Common.{◌≡◌, ℕ, zero, suc, Bool, true, false, eqb, leb, ◌⊎◌, [], ◌∷◌, ◌++◌, Some, None, Err, Option, Result, sym, refl, ap, ◌∙◌, inl, inr}
use Rattle.std.proofs.lemmas.List.{append-nil, append_assoc}
use Rattle.elements.specs.declared.events.Event.{Event}
use Rattle.elements.specs.declared.lines.LineEntry.{LineEntry}
use Rattle.elements.specs.Elements.{event_le, line_le}
use Rattle.stores.specs.declared.refusals.Refusal.{Refusal}
use Rattle.stores.specs.declared.refusals.Refusal.TheVariants.{NoCell}
use Rattle.stores.specs.Meaning.{State, count_of, reached, reached_height}
use Rattle.machine.specs.declared.records.StoreName.{StoreName}
use Rattle.machine.specs.declared.records.StoreName.TheVariants.{Events, Orders}
use Rattle.machine.specs.Machine.{Store, Machine, listed, with_cut, with_events, with_lines}
use Rattle.machine.specs.Puts.{Continuation, try, tried_by, bound_at, event_tried, put_event, line_tried, put_line, stopped}
use Rattle.machine_laws.specs.Stops.{Begins, Unreached, ReachedNow}
use Rattle.machine_laws.proofs.Walks.{Closed}

-- v has m's records and maybe more, at the same instant, with the same end
pub record Extends (m v : Machine) : Type 0 where
  pub records : Begins m v
  pub instant : v.instant ≡ m.instant
  pub end : v.end ≡ m.end

pub kept : (m v : Machine) → v.records ≡ m.records → v.instant ≡ m.instant → v.end ≡ m.end → Extends m v
kept m v r i e = record { records = record { more = []; is = r ∙ sym (append-nil m.records) }; instant = i; end = e }

pub extends : Closed Extends
extends = record {
  same = λ m. kept m m refl refl refl;
  then = λ m v w a b. record {
    records = record { more = a.records.more ++ b.records.more; is = b.records.is ∙ ap (λ rs. rs ++ b.records.more) a.records.is ∙ append_assoc m.records a.records.more b.records.more };
    instant = b.instant ∙ a.instant;
    end = b.end ∙ a.end;
  };
  told = λ x m. record { records = record { more = record { at = m.instant; kind = x } ∷ []; is = refl }; instant = refl; end = refl };
  marked = λ i st m. kept m _ refl refl refl;
  occupied = λ k m. kept m _ refl refl refl;
  freed = λ k m. kept m _ refl refl refl;
  closing = λ k j m e. kept m _ refl refl refl;
  event_put = λ x m e f. kept m _ refl refl refl;
  event_cancelled = λ k m. kept m _ refl refl refl;
  line_put = λ q x m e. kept m _ refl refl refl;
  line_taken = λ k m. kept m _ refl refl refl;
  line_cancelled = λ k m. kept m _ refl refl refl;
  line_melded = λ j k m. kept m _ refl refl refl;
  cut = λ c m. kept m _ refl refl refl;
  failed = λ f s m. kept m _ refl refl refl;
}

pub event_put_extends : (x : Machine → Event) (then : Continuation) → ((r : Result ℕ Refusal) (m : Machine) → Extends m (then r m)) → (m : Machine) → Extends m (put_event x then m)
event_put_extends x then h m =
    let t = try event_le m.cut m.events 0 (x m) in
    let v = with_cut (with_events m (listed m.events t.state)) t.cut in
    extends.then m v _ (kept m v refl refl refl) (h t.answer v)

line_put_extends : (q : ℕ) (x : Machine → LineEntry) (then : Continuation) → ((r : Result ℕ Refusal) (m : Machine) → Extends m (then r m)) → (m : Machine) → Extends m (put_line q x then m)
line_put_extends q x then h m =
    let t = try line_le m.cut m.lines q (x m) in
    let v = with_cut (with_lines m (listed m.lines t.state)) t.cut in
    extends.then m v _ (kept m v refl refl refl) (h t.answer v)

pub record Alike (f : Machine → Machine) (m : Machine) (c : ℕ) : Type 0 where
  -- who is never stopped stays so
  pub never : (f (with_cut m None)).cut ≡ None
  pub ways : Unreached f m c ⊎ ReachedNow f m c

-- f does from m, stopped there or never, what g does from v
pub alike_at : (f g : Machine → Machine) (m v : Machine) (c d : ℕ) → f (with_cut m (Some c)) ≡ g (with_cut v (Some d)) → f (with_cut m None) ≡ g (with_cut v None) → Alike g v d → Alike f m c
alike_at f g m v c d e n a = record { never = ap (λ w. w.cut) n ∙ a.never; ways = go a.ways }
  where
    go : Unreached g v d ⊎ ReachedNow g v d → Unreached f m c ⊎ ReachedNow f m c
    go (inl p) = inl (record { left = p.left; same = e ∙ p.same ∙ ap (λ w. with_cut w (Some p.left)) (sym n) })
    go (inr p) = inr (record {
      reached = record {
        store = p.reached.store;
        stop = ap stopped e ∙ p.reached.stop;
        records = record { more = p.reached.records.more; is = ap (λ w. w.records) n ∙ p.reached.records.is ∙ ap (λ w. w.records ++ p.reached.records.more) (sym e) };
      };
      instant = ap (λ w. w.instant) e ∙ p.instant ∙ sym (ap (λ w. w.instant) n);
      end = ap (λ w. w.end) e ∙ p.end ∙ sym (ap (λ w. w.end) n);
    })

pub alike_as : (f g : Machine → Machine) (m v : Machine) → ((d : Option ℕ) → f (with_cut m d) ≡ g (with_cut v d)) → (c : ℕ) → Alike g v c → Alike f m c
alike_as f g m v e c a = alike_at f g m v c c (e (Some c)) (e None) a

-- f does not look at the cut
pub alike_blind : (f : Machine → Machine) (m : Machine) → ((d : Option ℕ) → f (with_cut m d) ≡ with_cut (f m) d) → (c : ℕ) → Alike f m c
alike_blind f m e c = record { never = ap (λ w. w.cut) (e None); ways = inl (record { left = c; same = e (Some c) ∙ sym (ap (λ w. with_cut w (Some c)) (e None)) }) }

-- what follows a put does not look at the cut; where no cell is found it tells the stop and makes no record
pub record Tells (then : Continuation) (store : StoreName) : Type 0 where
  pub cut : (r : Result ℕ Refusal) (m : Machine) (c : Option ℕ) → then r (with_cut m c) ≡ with_cut (then r m) c
  pub stop : (m : Machine) → stopped (then (Err NoCell) m) ≡ Some store
  pub records : (m : Machine) → (then (Err NoCell) m).records ≡ m.records
  pub extends : (r : Result ℕ Refusal) (m : Machine) → Extends m (then r m)

module _ {T : Type 0} (le : T → T → Bool) where
  -- a put, by its tests
  pub record Passes (s : Store T) (q : ℕ) (x : T) (c : ℕ) : Type 0 where
    pub left : ℕ
    pub answer : Result ℕ Refusal
    pub state : State T
    pub later : try le (Some c) s q x ≡ record { answer = answer; state = state; cut = Some left }
    pub never : try le None s q x ≡ record { answer = answer; state = state; cut = None }

  -- the put at which the machine is stopped
  pub record Meets (s : Store T) (q : ℕ) (x : T) (c : ℕ) : Type 0 where
    pub answer : Result ℕ Refusal
    pub state : State T
    pub now : try le (Some c) s q x ≡ record { answer = Err NoCell; state = s.state; cut = Some 0 }
    pub never : try le None s q x ≡ record { answer = answer; state = state; cut = None }

  abbrev height : Store T → ℕ → ℕ
  height s q = reached_height (bound_at s.bounds q) (count_of s.state q)

  try_ways : (s : Store T) (q : ℕ) (x : T) (c : ℕ) → Passes s q x c ⊎ Meets s q x c
  try_ways s q x c = go (leb 32 q) (reached (bound_at s.bounds q) (count_of s.state q)) (eqb s.state.next s.bounds.stamps) c refl refl refl
    where
      at : (a b d : Bool) → leb 32 q ≡ a → reached (bound_at s.bounds q) (count_of s.state q) ≡ b → eqb s.state.next s.bounds.stamps ≡ d → (o : Option ℕ) → try le o s q x ≡ tried_by le a b d (height s q) o s.state q x
      at a b d ea eb ed o = λ i. tried_by le (ea i) (eb i) (ed i) (height s q) o s.state q x

      go : (a b d : Bool) (c : ℕ) → leb 32 q ≡ a → reached (bound_at s.bounds q) (count_of s.state q) ≡ b → eqb s.state.next s.bounds.stamps ≡ d → Passes s q x c ⊎ Meets s q x c
      go true b d c ea eb ed = inl (record { left = c; answer = _; state = _; later = at true b d ea eb ed (Some c); never = at true b d ea eb ed None })
      go false true d c ea eb ed = inl (record { left = c; answer = _; state = _; later = at false true d ea eb ed (Some c); never = at false true d ea eb ed None })
      go false false true zero ea eb ed = inr (record { answer = _; state = _; now = at false false true ea eb ed (Some 0); never = at false false true ea eb ed None })
      go false false false zero ea eb ed = inr (record { answer = _; state = _; now = at false false false ea eb ed (Some 0); never = at false false false ea eb ed None })
      go false false true (suc c) ea eb ed = inl (record { left = c; answer = _; state = _; later = at false false true ea eb ed (Some (suc c)); never = at false false true ea eb ed None })
      go false false false (suc c) ea eb ed = inl (record { left = c; answer = _; state = _; later = at false false false ea eb ed (Some (suc c)); never = at false false false ea eb ed None })

module _ (x : Machine → Event) (then : Continuation) (blind : (m : Machine) (c : Option ℕ) → x (with_cut m c) ≡ x m) (tells : Tells then Events) where
  pub event_put_alike : (m : Machine) (c : ℕ) → Alike (put_event x then) m c
  event_put_alike m c = record { never = never_by (try_ways event_le m.events 0 (x m) c); ways = go (try_ways event_le m.events 0 (x m) c) }
    where
      tried : (o d : Option ℕ) (a : Result ℕ Refusal) (s : State Event) → try event_le o m.events 0 (x m) ≡ record { answer = a; state = s; cut = d } → put_event x then (with_cut m o) ≡ with_cut (then a (with_events m (listed m.events s))) d
      tried o d a s e = ap (λ y. event_tried then (with_cut m o) (try event_le o m.events 0 y)) (blind m o) ∙ ap (event_tried then (with_cut m o)) e ∙ tells.cut a (with_events m (listed m.events s)) d

      never_by : Passes event_le m.events 0 (x m) c ⊎ Meets event_le m.events 0 (x m) c → (put_event x then (with_cut m None)).cut ≡ None
      never_by (inl p) = ap (λ w. w.cut) (tried None None p.answer p.state p.never)
      never_by (inr p) = ap (λ w. w.cut) (tried None None p.answer p.state p.never)

      go : Passes event_le m.events 0 (x m) c ⊎ Meets event_le m.events 0 (x m) c → Unreached (put_event x then) m c ⊎ ReachedNow (put_event x then) m c
      go (inl p) = inl (record { left = p.left; same = tried (Some c) (Some p.left) p.answer p.state p.later ∙ sym (ap (λ w. with_cut w (Some p.left)) (tried None None p.answer p.state p.never)) })
      go (inr p) =
          let v = tried (Some c) (Some 0) (Err NoCell) m.events.state p.now in
          let u = event_put_extends x then tells.extends (with_cut m None) in
          let w = with_events m (listed m.events m.events.state) in
          let g = tells.extends (Err NoCell) w in
          inr (record {
            reached = record {
              store = Events;
              stop = ap stopped v ∙ tells.stop w;
              records = record { more = u.records.more; is = u.records.is ∙ ap (λ rs. rs ++ u.records.more) (sym (ap (λ z. z.records) v ∙ tells.records w)) };
            };
            instant = ap (λ z. z.instant) v ∙ g.instant ∙ sym u.instant;
            end = ap (λ z. z.end) v ∙ g.end ∙ sym u.end;
          })

module _ (q : ℕ) (x : Machine → LineEntry) (then : Continuation) (blind : (m : Machine) (c : Option ℕ) → x (with_cut m c) ≡ x m) (tells : Tells then Orders) where
  pub line_put_alike : (m : Machine) (c : ℕ) → Alike (put_line q x then) m c
  line_put_alike m c = record { never = never_by (try_ways line_le m.lines q (x m) c); ways = go (try_ways line_le m.lines q (x m) c) }
    where
      tried : (o d : Option ℕ) (a : Result ℕ Refusal) (s : State LineEntry) → try line_le o m.lines q (x m) ≡ record { answer = a; state = s; cut = d } → put_line q x then (with_cut m o) ≡ with_cut (then a (with_lines m (listed m.lines s))) d
      tried o d a s e = ap (λ y. line_tried then (with_cut m o) (try line_le o m.lines q y)) (blind m o) ∙ ap (line_tried then (with_cut m o)) e ∙ tells.cut a (with_lines m (listed m.lines s)) d

      never_by : Passes line_le m.lines q (x m) c ⊎ Meets line_le m.lines q (x m) c → (put_line q x then (with_cut m None)).cut ≡ None
      never_by (inl p) = ap (λ w. w.cut) (tried None None p.answer p.state p.never)
      never_by (inr p) = ap (λ w. w.cut) (tried None None p.answer p.state p.never)

      go : Passes line_le m.lines q (x m) c ⊎ Meets line_le m.lines q (x m) c → Unreached (put_line q x then) m c ⊎ ReachedNow (put_line q x then) m c
      go (inl p) = inl (record { left = p.left; same = tried (Some c) (Some p.left) p.answer p.state p.later ∙ sym (ap (λ w. with_cut w (Some p.left)) (tried None None p.answer p.state p.never)) })
      go (inr p) =
          let v = tried (Some c) (Some 0) (Err NoCell) m.lines.state p.now in
          let u = line_put_extends q x then tells.extends (with_cut m None) in
          let w = with_lines m (listed m.lines m.lines.state) in
          let g = tells.extends (Err NoCell) w in
          inr (record {
            reached = record {
              store = Orders;
              stop = ap stopped v ∙ tells.stop w;
              records = record { more = u.records.more; is = u.records.is ∙ ap (λ rs. rs ++ u.records.more) (sym (ap (λ z. z.records) v ∙ tells.records w)) };
            };
            instant = ap (λ z. z.instant) v ∙ g.instant ∙ sym u.instant;
            end = ap (λ z. z.end) v ∙ g.end ∙ sym u.end;
          })
