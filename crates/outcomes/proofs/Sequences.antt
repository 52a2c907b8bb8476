-- The parts of a call, one after the other.
use Rattle.std.proofs.Common.{◌≡◌, ℕ, ◌+◌, ◌-◌, Bool, true, false, ◌⊎◌, List, [], ◌∷◌, ◌++◌, drop, Some, Option, sym, refl, ap, ◌∙◌, subst, inl, inr, le_refl, add_assoc, arith, drop-drop}
use Rattle.std.proofs.lemmas.Bool.{both_ways}
use Rattle.machine.specs.declared.records.StoreName.{StoreName}
use Rattle.machine.specs.declared.records.StoreName.TheVariants.{Events, Orders}
use Rattle.machine.specs.Machine.{Machine, with_cut, branch, seq_by}
use Rattle.machine.specs.Puts.{stopped}
use Rattle.outcomes.specs.Simulation.{Simulation, Takes, Earlier, plus, machine_of, and_takes, takes_in, cells, entries_in}
use Rattle.outcomes.specs.Outcomes.{Put, up, later, Rooms, Counted, Agreed, Departed, Written, Outcome}
use Rattle.outcomes.specs.Composition.{Ends, Tidy, Left}

pub later_append : (xs ys : List Put) (c : Option ℕ) → later (xs ++ ys) c ≡ later xs (later ys c)
later_append [] ys c = refl
later_append (x ∷ xs) ys c = ap up (later_append xs ys c)

pub later_up : (xs : List Put) (c : Option ℕ) → later xs (up c) ≡ up (later xs c)
later_up [] c = refl
later_up (x ∷ xs) c = ap up (later_up xs c)

pub rooms_append : (f : Machine → Machine) (m : Machine) (k : StoreName → ℕ) (c : Option ℕ) (xs ys : List Put) → Rooms f m k c xs → Rooms f m k (later xs c) ys → Rooms f m k c (xs ++ ys)
rooms_append f m k c [] ys h i = i
rooms_append f m k c (x ∷ xs) ys h i = (h.0, rooms_append f m k (up c) xs ys h.1 (subst (λ d. Rooms f m k d ys) (sym (later_up xs c)) i))

pub rooms_cells : (f : Machine → Machine) (m : Machine) (j k : StoreName → ℕ) (c : Option ℕ) (xs : List Put) → ((s : StoreName) → j s ≡ k s) → Rooms f m j c xs → Rooms f m k c xs
rooms_cells f m j k c [] e h = tt
rooms_cells f m j k c (x ∷ xs) e h = (record { stops = h.0.stops; room = λ p. h.0.room (p ∙ sym (e x.store)) }, rooms_cells f m j k (up c) xs e h.1)

-- the takes of two parts
pub takes_twice : (t : Earlier) (x y : Takes) → and_takes (and_takes t x) y ≡ and_takes t (plus x y)
takes_twice t x y = λ i. record { records = t.records; takes = record { events = add_assoc t.takes.events x.events y.events i; lines = add_assoc t.takes.lines x.lines y.lines i } }

takes_plus : (x y : Takes) (s : StoreName) → takes_in (plus x y) s ≡ takes_in x s + takes_in y s
takes_plus x y Events = refl
takes_plus x y Orders = refl

pub counted_then : (x y : Takes) (a b d : Simulation) → Counted x a b → Counted y b d → Counted (plus x y) a d
counted_then x y a b d p q s = omega (arith, p s, q s, takes_plus x y s)

pub written_then : (a b d : Simulation) → Written a b → Written b d → Written a d
written_then a b d p q = record {
  more = omega (arith, p.more, q.more);
  length = q.length ∙ p.length;
  further =
      let n : ℕ = d.control.used - b.control.used in
      let e : b.control.used + n ≡ d.control.used = omega (arith, q.more) in
      q.further ∙ subst (λ u. drop u b.places ≡ drop u a.places) e (sym (drop-drop n b.control.used b.places) ∙ ap (drop n) p.further ∙ drop-drop n b.control.used a.places);
}

pub written_not : (a : Simulation) → Written a a
written_not a = record { more = le_refl _; length = refl; further = refl }

module _ (ends : Machine → Bool) (f g h : Machine → Machine) (test : Ends ends) (tidy : Tidy h) where
  stays : (m : Machine) → ends (f m) ≡ true → seq_by ends f g h m ≡ h (f m)
  stays m e = ap (λ b. branch b g h (f m)) e

  goes : (m v : Machine) (c : Option ℕ) → f m ≡ with_cut v c → ends v ≡ false → seq_by ends f g h m ≡ g (with_cut v c)
  goes m v c e z = ap (λ q. branch (ends q) g h q) e ∙ ap (λ b. branch b g h (with_cut v c)) (test.blind v c ∙ z)

  rooms_first : (m : Machine) (k : StoreName → ℕ) (c : Option ℕ) (xs : List Put) → Rooms f m k c xs → Rooms (seq_by ends f g h) m k c xs
  rooms_first m k c [] r = tt
  rooms_first m k c (x ∷ xs) r =
      let e = stays (with_cut m c) (test.at_stop _ _ r.0.stops) in
      let l : entries_in (seq_by ends f g h (with_cut m c)) x.store ≡ entries_in (f (with_cut m c)) x.store = ap (λ q. entries_in q x.store) e ∙ tidy.entries _ x.store in
      (record { stops = ap stopped e ∙ tidy.stop _ ∙ r.0.stops; room = λ p. r.0.room (sym (ap (λ n. n + x.held) l) ∙ p) }, rooms_first m k (up c) xs r.1)

  rooms_then : (m v : Machine) (k : StoreName → ℕ) (xs : List Put) (c : Option ℕ) (ys : List Put) → ((d : Option ℕ) → f (with_cut m (later xs d)) ≡ with_cut v d) → ends v ≡ false → Rooms g v k c ys → Rooms (seq_by ends f g h) m k (later xs c) ys
  rooms_then m v k xs c [] s z r = tt
  rooms_then m v k xs c (y ∷ ys) s z r =
      let e : seq_by ends f g h (with_cut m (later xs c)) ≡ g (with_cut v c) = goes (with_cut m (later xs c)) v c (s c) z in (
        record { stops = ap stopped e ∙ r.0.stops; room = λ p. r.0.room (sym (ap (λ q. entries_in q y.store + y.held) e) ∙ p) },
        subst (λ d. Rooms (seq_by ends f g h) m k d ys) (later_up xs c) (rooms_then m v k xs (up c) ys s z r.1),
      )

  module _ (a b d : Simulation) (same_cells : (s : StoreName) → cells b s ≡ cells a s) (z : (t : Earlier) → ends (machine_of t b) ≡ false) (p : Agreed f a b) where
    joined : (ys : List Put) → ((t : Earlier) → Rooms g (machine_of t b) (cells b) (Some 0) ys) → (t : Earlier) → Rooms (seq_by ends f g h) (machine_of t a) (cells a) (Some 0) (p.puts ++ ys)
    joined ys r t =
        let u = and_takes t p.takes in
        rooms_append (seq_by ends f g h) (machine_of t a) (cells a) (Some 0) p.puts ys (rooms_first (machine_of t a) (cells a) (Some 0) p.puts (p.rooms t)) (rooms_then (machine_of t a) (machine_of u b) (cells a) p.puts (Some 0) ys (p.same t) (z u) (rooms_cells g (machine_of u b) (cells b) (cells a) (Some 0) ys same_cells (r u)))

    on : (ys : List Put) (x : Takes) (t : Earlier) (c : Option ℕ) (e : Option ℕ) → g (with_cut (machine_of (and_takes t p.takes) b) (later ys c)) ≡ with_cut (machine_of (and_takes (and_takes t p.takes) x) d) e → seq_by ends f g h (with_cut (machine_of t a) (later (p.puts ++ ys) c)) ≡ with_cut (machine_of (and_takes t (plus p.takes x)) d) e
    on ys x t c e q =
        ap (λ o. seq_by ends f g h (with_cut (machine_of t a) o)) (later_append p.puts ys c)
        ∙ goes _ _ _ (p.same t (later ys c)) (z (and_takes t p.takes))
        ∙ q
        ∙ ap (λ u. with_cut (machine_of u d) e) (takes_twice t p.takes x)

    agreed_then : Agreed g b d → Agreed (seq_by ends f g h) a d
    agreed_then q = record {
      puts = p.puts ++ q.puts;
      takes = plus p.takes q.takes;
      rooms = joined q.puts q.rooms;
      same = λ t c. on q.puts q.takes t c c (q.same (and_takes t p.takes) c);
      counted = counted_then p.takes q.takes a b d p.counted q.counted;
    }

    departed_then : Departed g b d → Departed (seq_by ends f g h) a d
    departed_then q = record {
      puts = p.puts ++ q.puts;
      takes = plus p.takes q.takes;
      rooms = joined q.puts q.rooms;
      same = λ t. on q.puts q.takes t (Some 0) (Some 0) (q.same (and_takes t p.takes));
      counted = counted_then p.takes q.takes a b d p.counted q.counted;
      store = q.store;
      stop = q.stop;
      full = q.full ∙ same_cells q.store;
    }

  then_by : (a b d : Simulation) → ((s : StoreName) → cells b s ≡ cells a s) → ((t : Earlier) → ends (machine_of t b) ≡ false) → Earlier → Agreed f a b ⊎ Departed f a b → Agreed g b d ⊎ Departed g b d → Agreed (seq_by ends f g h) a d ⊎ Departed (seq_by ends f g h) a d
  then_by a b d k z t (inl p) (inl q) = inl (agreed_then a b d k z p q)
  then_by a b d k z t (inl p) (inr q) = inr (departed_then a b d k z p q)
  then_by a b d k z t (inr p) q = absurd (both_ways _ (z t) (test.at_stop (machine_of t b) p.store p.stop))

  -- the second part runs only where the first ended nothing
  pub outcome_then : (a b d : Simulation) → Outcome f a b → ((t : Earlier) → ends (machine_of t b) ≡ false) → Outcome g b d → Outcome (seq_by ends f g h) a d
  outcome_then a b d p z q = record {
    ends = then_by a b d p.cells z (record { records = []; takes = record { events = 0; lines = 0 } }) p.ends q.ends;
    cells = λ s. q.cells s ∙ p.cells s;
    written = written_then a b d p.written q.written;
  }

  module _ (a b d : Simulation) (z : (t : Earlier) → ends (machine_of t b) ≡ true) (l : Left h b d) where
    ended : (t : Earlier) (o c : Option ℕ) (x : Takes) → f (with_cut (machine_of t a) o) ≡ with_cut (machine_of (and_takes t x) b) c → seq_by ends f g h (with_cut (machine_of t a) o) ≡ with_cut (machine_of (and_takes t x) d) c
    ended t o c x e =
        let u = and_takes t x in
        ap (λ q. branch (ends q) g h q) e
        ∙ ap (λ w. branch w g h (with_cut (machine_of u b) c)) (test.blind (machine_of u b) c ∙ z u)
        ∙ tidy.cut (machine_of u b) c
        ∙ ap (λ q. with_cut q c) (sym (l.same u))

    counted_left : (x : Takes) → Counted x a b → Counted x a d
    counted_left x p s = omega (arith, p s, l.uses s, l.issued s)

    else_by : Agreed f a b ⊎ Departed f a b → Agreed (seq_by ends f g h) a d ⊎ Departed (seq_by ends f g h) a d
    else_by (inl p) = inl (record {
      puts = p.puts;
      takes = p.takes;
      rooms = λ t. rooms_first (machine_of t a) (cells a) (Some 0) p.puts (p.rooms t);
      same = λ t c. ended t _ c p.takes (p.same t c);
      counted = counted_left p.takes p.counted;
    })
    else_by (inr p) = inr (record {
      puts = p.puts;
      takes = p.takes;
      rooms = λ t. rooms_first (machine_of t a) (cells a) (Some 0) p.puts (p.rooms t);
      same = λ t. ended t _ (Some 0) p.takes (p.same t);
      counted = counted_left p.takes p.counted;
      store = p.store;
      stop =
          let t : Earlier = record { records = []; takes = record { events = 0; lines = 0 } } in
          ap stopped (l.same t) ∙ tidy.stop (machine_of t b) ∙ p.stop;
      full = l.uses p.store ∙ p.full;
    })

    pub outcome_else : Outcome f a b → Outcome (seq_by ends f g h) a d
    outcome_else p = record { ends = else_by p.ends; cells = λ s. l.cells s ∙ p.cells s; written = written_then a b d p.written l.written }
