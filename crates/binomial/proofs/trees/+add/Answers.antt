use Rattle.std.proofs.Common.{◌≡◌, None, ◌⊎◌, inl, inr, arith}
use Rattle.elements.proofs.Strictness.{strict}
use Rattle.forests.proofs.Parting.{extent_is}
use Rattle.forests.proofs.Adding.{apart_swapped, added_one, added_unswapped}
use Rattle.binomial.specs.Binomial.{cells_of}
use Rattle.binomial.specs.Lawful.{laid}
use Rattle.binomial.proofs.Joining.{twins_room, twins_joined}
use Rattle.binomial.proofs.Adding.{digit}
use Rattle.binomial.proofs.trees.+add.Goals.{in_default-via-in-Some+in_default, in_default-via-in_default}
use Rattle.binomial.proofs.trees.+add.Goals as goal

pub slice_copy_out-right : goal.slice_copy_out-right
slice_copy_out-right g t c = let le = g.T.Ordered.le in (digit le (strict le g.met.T.Ordered.laws) _ _ c.in-Some-Some.is-0 c.in-Some-Some.is-1 c.requires.3).within.1

pub add-rest-requires : goal.add-rest-requires
add-rest-requires g t c κs within =
    let le = g.T.Ordered.le in
    let p = c.requires.3 in
    let w = digit le (strict le g.met.T.Ordered.laws) _ _ c.in-Some-Some.is-0 c.in-Some-Some.is-1 p in
    let r = w.low c.if-left-right.true in
    (omega (arith, c.decreases, w.fewer, extent_is (cells_of le) (laid le) (omega (arith, p.few)) p.one, extent_is (cells_of le) (laid le) (omega (arith, p.few)) p.two, extent_is (cells_of le) (laid le) (omega (arith, r.few)) r.one, extent_is (cells_of le) (laid le) (omega (arith, r.few)) r.two), (within, (_, _, _, r)))

pub set_next-requires : goal.set_next-requires
set_next-requires g t c = let le = g.T.Ordered.le in omega (arith, c.add-rest.auto.links, (digit le (strict le g.met.T.Ordered.laws) _ _ c.in-Some-Some.is-0 c.in-Some-Some.is-1 c.requires.3).within)

pub add-rest-requires-then-right-left : goal.add-rest-requires-then-right-left
add-rest-requires-then-right-left g t c κs within =
    let le = g.T.Ordered.le in
    let p = apart_swapped (cells_of le) c.requires.3 in
    let w = digit le (strict le g.met.T.Ordered.laws) _ _ c.in-Some-Some.is-1 c.in-Some-Some.is-0 p in
    let r = w.low c.if-right-left.true in
    (omega (arith, c.decreases, w.fewer, extent_is (cells_of le) (laid le) (omega (arith, p.few)) p.one, extent_is (cells_of le) (laid le) (omega (arith, p.few)) p.two, extent_is (cells_of le) (laid le) (omega (arith, r.few)) r.one, extent_is (cells_of le) (laid le) (omega (arith, r.few)) r.two), (within, (_, _, _, r)))

pub set_next-requires-then-right-left : goal.set_next-requires-then-right-left
set_next-requires-then-right-left g t c = let le = g.T.Ordered.le in omega (arith, c.add-rest-then-right-left.auto.links, (digit le (strict le g.met.T.Ordered.laws) _ _ c.in-Some-Some.is-0 c.in-Some-Some.is-1 c.requires.3).within)

pub join-sum-requires : goal.join-sum-requires
join-sum-requires g t c =
    let le = g.T.Ordered.le in
    let w = ((digit le (strict le g.met.T.Ordered.laws) _ _ c.in-Some-Some.is-0 c.in-Some-Some.is-1 c.requires.3).even c.if-right-left.false c.if-left-right.false).twins in
    record { joinable = (_, _, _, w.joinable); room = twins_room le w }

pub add-rest-requires-else-right-left : goal.add-rest-requires-else-right-left
add-rest-requires-else-right-left g t c κs within =
    let le = g.T.Ordered.le in
    let p = c.requires.3 in
    let w = digit le (strict le g.met.T.Ordered.laws) _ _ c.in-Some-Some.is-0 c.in-Some-Some.is-1 p in
    let v = w.even c.if-right-left.false c.if-left-right.false in
    let r = v.rest _ _ (omega (arith, c.join-sum.auto.links)) (twins_joined le v.twins (c.join-sum.ensures _ _ _ v.twins.joinable)) in
    (omega (arith, c.decreases, w.fewer, extent_is (cells_of le) (laid le) (omega (arith, p.few)) p.one, extent_is (cells_of le) (laid le) (omega (arith, p.few)) p.two, extent_is (cells_of le) (laid le) (omega (arith, r.few)) r.one, extent_is (cells_of le) (laid le) (omega (arith, r.few)) r.two), (within, (_, _, _, r)))

pub carry-requires : goal.carry-requires
carry-requires g t c =
    let le = g.T.Ordered.le in
    let v = (digit le (strict le g.met.T.Ordered.laws) _ _ c.in-Some-Some.is-0 c.in-Some-Some.is-1 c.requires.3).even c.if-right-left.false c.if-left-right.false in
    let m₁ = twins_joined le v.twins (c.join-sum.ensures _ _ _ v.twins.joinable) in
    let m₂ = c.add-rest-else-right-left.ensures _ _ _ (v.rest _ _ (omega (arith, c.join-sum.auto.links)) m₁) in
    (_, _, _, v.carry _ _ (omega (arith, c.join-sum.auto.links)) m₁ _ _ (omega (arith, c.add-rest-else-right-left.auto.links)) m₂)

pub returns-in_default : goal.returns-in_default
returns-in_default g t c k s u p =
    let le = g.T.Ordered.le in
    let none : (c.args.a ≡ None) ⊎ (c.args.b ≡ None) = elim c.in_default.branch [ in_default-via-in-Some+in_default w ↦ inr w.in_default.is-1 | in_default-via-in_default w ↦ inl w.in_default.is-0 ] in
    added_one (cells_of le) (laid le) (strict le g.met.T.Ordered.laws) s u none c.or.ensures p

pub returns-then-left-right : goal.returns-then-left-right
returns-then-left-right g t c k s u p =
    let le = g.T.Ordered.le in
    let w = digit le (strict le g.met.T.Ordered.laws) s u c.in-Some-Some.is-0 c.in-Some-Some.is-1 p in
    w.low_ends c.if-left-right.true _ _ (omega (arith, c.add-rest.auto.links)) (c.add-rest.ensures _ _ _ (w.low c.if-left-right.true)) c.set_next.ensures

pub returns-then-right-left : goal.returns-then-right-left
returns-then-right-left g t c k s u p =
    let le = g.T.Ordered.le in
    let law = strict le g.met.T.Ordered.laws in
    let w = digit le law u s c.in-Some-Some.is-1 c.in-Some-Some.is-0 (apart_swapped (cells_of le) p) in
    added_unswapped (cells_of le) (laid le) law p (w.low_ends c.if-right-left.true _ _ (omega (arith, c.add-rest-then-right-left.auto.links)) (c.add-rest-then-right-left.ensures _ _ _ (w.low c.if-right-left.true)) c.set_next-then-right-left.ensures)

pub returns-else-right-left : goal.returns-else-right-left
returns-else-right-left g t c k s u p =
    let le = g.T.Ordered.le in
    let v = (digit le (strict le g.met.T.Ordered.laws) s u c.in-Some-Some.is-0 c.in-Some-Some.is-1 p).even c.if-right-left.false c.if-left-right.false in
    let m₁ = twins_joined le v.twins (c.join-sum.ensures _ _ _ v.twins.joinable) in
    let m₂ = c.add-rest-else-right-left.ensures _ _ _ (v.rest _ _ (omega (arith, c.join-sum.auto.links)) m₁) in
    v.ends _ _ (omega (arith, c.join-sum.auto.links)) m₁ _ _ (omega (arith, c.add-rest-else-right-left.auto.links)) m₂ _ _ (c.carry.ensures _ _ _ (v.carry _ _ (omega (arith, c.join-sum.auto.links)) m₁ _ _ (omega (arith, c.add-rest-else-right-left.auto.links)) m₂))
