use Rattle.std.proofs.Common.{◌≡◌, None, ◌⊎◌, inl, inr}
use Rattle.elements.proofs.Strictness.{strict}
use Rattle.cells.proofs.Meldability.{named, one_empty}
use Rattle.forests.proofs.Joining.{joined_before}
use Rattle.pairing.specs.Pairing.{cells_of, pairing}
use Rattle.pairing.specs.Lawful.{lawful}
use Rattle.pairing.proofs.Melding.{joinable, melded}
use Rattle.pairing.proofs.heaps.LinkHeapLink.meld.Goals.{in_default-via-in-Some+in_default, in_default-via-in_default}
use Rattle.pairing.proofs.heaps.LinkHeapLink.meld.Goals as goal

pub join-requires : goal.join-requires
join-requires g c = let le = g.T.Ordered.le in record { joinable = (_, _, _, joinable le (named (pairing le) c.in-Some-Some.is-0 c.in-Some-Some.is-1 c.requires.2)); room = (tt, tt) }

pub returns-in_default : goal.returns-in_default
returns-in_default g c s t p =
    let le = g.T.Ordered.le in
    let law = strict le g.met.T.Ordered.laws in
    let none : (c.args.a ≡ None) ⊎ (c.args.b ≡ None) = elim c.in_default.branch [ in_default-via-in-Some+in_default w ↦ inr w.in_default.is-1 | in_default-via-in_default w ↦ inl w.in_default.is-0 ] in
    one_empty (pairing le) (lawful le law) law s t none c.or.ensures p

pub returns : goal.returns
returns g c s t p =
    let le = g.T.Ordered.le in
    let j = joinable le (named (pairing le) c.in-Some-Some.is-0 c.in-Some-Some.is-1 p) in
    melded le s t (joined_before (cells_of le) j (c.join.ensures _ _ _ j))
