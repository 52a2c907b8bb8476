-- Simulations that differ by one write.
use Rattle.std.proofs.Common.{◌≡◌, ◌+◌, ◌<◌, List, [], ◌∷◌, ◌++◌, length, take, drop, set, None, sym, refl, ap, ◌∙◌, arith, length-set, drop-set-lt}
use Rattle.std.proofs.lemmas.List.{take_more_set, append_assoc}
use Rattle.elements.specs.declared.events.Event.{Event}
use Rattle.elements.specs.declared.lines.LineEntry.{LineEntry}
use Rattle.stores.specs.Meaning.{Meaning}
use Rattle.machine.specs.declared.records.RecordKind.{RecordKind}
use Rattle.machine.specs.declared.records.Record.{Record}
use Rattle.machine.specs.declared.records.StoreName.{StoreName}
use Rattle.machine.specs.declared.records.StoreName.TheVariants.{Events, Orders}
use Rattle.machine.specs.Machine.{tell}
use Rattle.outcomes.specs.Simulation.{Control, Simulation, Earlier, no_takes, machine_of, store_of, cells, uses, issued}
use Rattle.outcomes.specs.Outcomes.{Counted, Written}
use Rattle.simulations.specs.Writes.{simulation, one_more, noted}

-- a record was written, or none
pub written_noted : (a b : Simulation) (r : Record) → b.control.used ≡ a.control.used + 1 → b.places ≡ set a.places a.control.used r → Written a b
written_noted a b r u p = record {
  more = omega (arith, u);
  length = ap length p ∙ length-set a.places a.control.used r;
  further = ap (drop b.control.used) p ∙ drop-set-lt b.control.used a.places a.control.used r (omega (arith, u));
}

pub written_kept : (a b : Simulation) → b.control.used ≡ a.control.used → b.places ≡ a.places → Written a b
written_kept a b u p = record { more = omega (arith, u); length = ap length p; further = ap (drop b.control.used) p }

module _ (d : Control) (m : Meaning Event) (l : Meaning LineEntry) (ps : List Record) where
  -- the machine with a record more
  pub machine_noted : (x : RecordKind) (t : Earlier) → d.used < length ps → machine_of t (simulation (one_more d) m l (noted x d ps)) ≡ tell x (machine_of t (simulation d m l ps))
  machine_noted x t lt =
      let r : Record = record { at = d.instant; kind = x } in
      let e : t.records ++ take (d.used + 1) (set ps d.used r) ≡ (t.records ++ take d.used ps) ++ (r ∷ []) = ap (λ z. t.records ++ z) (take_more_set ps d.used r lt) ∙ sym (append_assoc t.records (take d.used ps) (r ∷ [])) in
      ap (λ (z : List Record). record { instant = d.instant; end = d.end; network = d.network; events = store_of m t.takes.events; lines = store_of l t.takes.lines; records = z; refusal = d.refusal; fault = d.fault; cut = None }) e

-- writes by themselves leave the stores
module _ (d d2 : Control) (m : Meaning Event) (l : Meaning LineEntry) (ps ps2 : List Record) where
  pub kept_uses : (s : StoreName) → uses (simulation d2 m l ps2) s ≡ uses (simulation d m l ps) s
  kept_uses Events = refl
  kept_uses Orders = refl

  pub kept_issued : (s : StoreName) → issued (simulation d2 m l ps2) s ≡ issued (simulation d m l ps) s
  kept_issued Events = refl
  kept_issued Orders = refl

  pub kept_cells : (s : StoreName) → cells (simulation d2 m l ps2) s ≡ cells (simulation d m l ps) s
  kept_cells Events = refl
  kept_cells Orders = refl

  pub kept_counted : Counted no_takes (simulation d m l ps) (simulation d2 m l ps2)
  kept_counted Events = omega arith
  kept_counted Orders = omega arith
