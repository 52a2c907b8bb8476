-- Parts of a call that put nothing.
use Rattle.std.proofs.Common.{◌≡◌, ℕ, ◌+◌, ◌⊎◌, List, [], ◌∷◌, Some, Option, sym, refl, ap, ◌∙◌, inl, inr, add-zero, arith}
use Rattle.machine.specs.declared.records.StoreName.{StoreName}
use Rattle.machine.specs.declared.records.StoreName.TheVariants.{Events, Orders}
use Rattle.machine.specs.Machine.{Machine, with_cut, as_is}
use Rattle.machine.specs.Puts.{stopped}
use Rattle.outcomes.specs.Simulation.{Simulation, Earlier, no_takes, plus, machine_of, and_takes, takes_in, cells, entries_in}
use Rattle.outcomes.specs.Outcomes.{Put, up, later, Rooms, Agreed, Departed, Outcome}
use Rattle.outcomes.specs.Composition.{Onward}
use Rattle.outcomes.proofs.Sequences.{takes_twice, counted_then, written_then, written_not}

pub no_takes_more : (t : Earlier) → t ≡ and_takes t no_takes
no_takes_more t = λ i. record { records = t.records; takes = record { events = sym (add-zero t.takes.events) i; lines = sym (add-zero t.takes.lines) i } }

none_in : (s : StoreName) → takes_in no_takes s ≡ 0
none_in Events = refl
none_in Orders = refl

module _ (f g : Machine → Machine) (a b d : Simulation) (o : Onward f g a b) where
  rooms_onward : (t : Earlier) (c : Option ℕ) (ps : List Put) → Rooms g (machine_of (and_takes t o.takes) b) (cells b) c ps → Rooms f (machine_of t a) (cells a) c ps
  rooms_onward t c [] h = tt
  rooms_onward t c (x ∷ ps) h = (record { stops = ap stopped (o.same t c) ∙ h.0.stops; room = λ p. h.0.room (sym (ap (λ q. entries_in q x.store + x.held) (o.same t c)) ∙ p ∙ sym (o.cells x.store)) }, rooms_onward t (up c) ps h.1)

  ends_onward : Agreed g b d ⊎ Departed g b d → Agreed f a d ⊎ Departed f a d
  ends_onward (inl p) = inl (record {
    puts = p.puts;
    takes = plus o.takes p.takes;
    rooms = λ t. rooms_onward t (Some 0) p.puts (p.rooms (and_takes t o.takes));
    same = λ t c. o.same t (later p.puts c) ∙ p.same (and_takes t o.takes) c ∙ ap (λ u. with_cut (machine_of u d) c) (takes_twice t o.takes p.takes);
    counted = counted_then o.takes p.takes a b d o.counted p.counted;
  })
  ends_onward (inr p) = inr (record {
    puts = p.puts;
    takes = plus o.takes p.takes;
    rooms = λ t. rooms_onward t (Some 0) p.puts (p.rooms (and_takes t o.takes));
    same = λ t. o.same t (later p.puts (Some 0)) ∙ p.same (and_takes t o.takes) ∙ ap (λ u. with_cut (machine_of u d) (Some 0)) (takes_twice t o.takes p.takes);
    counted = counted_then o.takes p.takes a b d o.counted p.counted;
    store = p.store;
    stop = p.stop;
    full = p.full ∙ o.cells p.store;
  })

  pub outcome_onward : Outcome g b d → Outcome f a d
  outcome_onward p = record { ends = ends_onward p.ends; cells = λ s. p.cells s ∙ o.cells s; written = written_then a b d o.written p.written }

pub outcome_none : (a : Simulation) → Outcome as_is a a
outcome_none a = record {
  ends = inl (record {
    puts = [];
    takes = no_takes;
    rooms = λ t. tt;
    same = λ t c. ap (λ u. with_cut (machine_of u a) c) (no_takes_more t);
    counted = λ s. omega (arith, none_in s);
  });
  cells = λ s. refl;
  written = written_not a;
}

-- a part that puts nothing, by itself
pub outcome_quiet : (f : Machine → Machine) (a b : Simulation) → Onward f as_is a b → Outcome f a b
outcome_quiet f a b o = outcome_onward f as_is a b b o (outcome_none b)
