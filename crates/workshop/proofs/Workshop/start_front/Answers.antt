use Rattle.std.proofs.Common.{arith, rules}
use Rattle.elements.specs.Elements.{line_le}
use Rattle.simulations.proofs.Entering.{front_starts, front_none}
use Rattle.workshop.proofs.Fronts.{took_front}
use Rattle.workshop.proofs.Workshop.start_front.Goals as goal

pub returns-in-Some : goal.returns-in-Some
returns-in-Some g c =
    let r = c.requires in
    let s = rw c.new.ensures.order at c.start.ensures.call in
    record {
      sound = search rules;
      call = record { fit = s.fit; few = s.few; outcome = front_starts _ _ _ _ _ _ c.args.k.known c.in-Some.entry _ (took_front line_le _ _ _ _ c.args.k.known c.take.ensures.effect _ _ _ c.ok.ensures.value c.flatten-front.ensures c.in-Some.is) s.outcome };
      same = search rules;
    }

pub returns-in_default : goal.returns-in_default
returns-in_default g c =
    let r = c.requires in
    let p = took_front line_le _ _ _ _ c.args.k.known c.take.ensures.effect _ _ _ c.ok.ensures.value c.flatten-front.ensures c.in_default.is in
    record {
      sound = search rules;
      call = record { fit = search rules; few = omega arith; outcome = front_none _ _ _ _ _ _ c.args.k.known p };
      same = search rules;
    }
