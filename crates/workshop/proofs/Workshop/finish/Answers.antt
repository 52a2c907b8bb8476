use Rattle.std.proofs.Common.{sym, refl, arith, rules}
use Rattle.simulations.proofs.Finishing.{vacated_on, finish_on, finish_stranded, stranded_fit}
use Rattle.workshop.proofs.Faults.{no_fault, a_fault}
use Rattle.workshop.proofs.Workshop.finish.Goals as goal

pub returns-then-is_some : goal.returns-then-is_some
returns-then-is_some g c =
    let s = rw c.vacate.ensures at c.start_front.ensures.call in
    let f = a_fault c.start_front.new.self.run.now.fault (sym c.if-is_some.ensures) in
    record {
      sound = search rules;
      call = rw c.strand.ensures (record {
        fit = stranded_fit c.args.hand.order c.args.k.number _ _ _ _ s.fit;
        few = omega (arith, s.few);
        outcome = finish_stranded _ _ _ _ _ _ _ f.0 (vacated_on c.args.hand.order c.args.k.number _ _ _ _ _ (omega (arith, c.requires.places)) s.outcome) refl f.1;
      });
      same = search rules;
    }

pub returns-else-is_some : goal.returns-else-is_some
returns-else-is_some g c =
    let s = rw c.vacate.ensures at c.start_front.ensures.call in
    let q = c.leave.ensures.call in
    record {
      sound = search rules;
      call = record {
        fit = q.fit;
        few = omega (arith, q.few, s.few);
        outcome = finish_on _ _ _ _ _ (vacated_on c.args.hand.order c.args.k.number _ _ _ _ _ (omega (arith, c.requires.places)) s.outcome) refl (no_fault _ (sym c.if-is_some.ensures)) q.outcome;
      };
      same = search rules;
    }
