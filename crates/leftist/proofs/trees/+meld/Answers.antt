use Rattle.std.proofs.Common.{◌≡◌, None, ◌⊎◌, inl, inr, sym, ap, ◌∙◌, arith}
use Rattle.leftist.specs.Leftist.{rank_at}
use Rattle.leftist.proofs.Melding.{first_turn, second_turn, second_precedes, turned, with_none}
use Rattle.leftist.proofs.trees.+meld.Goals.{in_default-via-in-Some+in_default, in_default-via-in_default}
use Rattle.leftist.proofs.trees.+meld.Goals as goal

pub offset_bounds-entries-i : goal.offset_bounds-entries-i
offset_bounds-entries-i g t c =
    let w = first_turn g.T.Ordered.le g.met.T.Ordered.laws c.in-Some-Some.is-0 c.in-Some-Some.is-1 c.requires.2 in
    omega (arith, w.entries)

pub bounds-entries-i : goal.bounds-entries-i
bounds-entries-i g t c = (first_turn g.T.Ordered.le g.met.T.Ordered.laws c.in-Some-Some.is-0 c.in-Some-Some.is-1 c.requires.2).entries

pub offset_bounds-entries-j : goal.offset_bounds-entries-j
offset_bounds-entries-j g t c =
    let w = second_turn g.T.Ordered.le g.met.T.Ordered.laws c.in-Some-Some.is-0 c.in-Some-Some.is-1 c.requires.2 in
    omega (arith, w.entries)

pub bounds-entries-j : goal.bounds-entries-j
bounds-entries-j g t c = (second_turn g.T.Ordered.le g.met.T.Ordered.laws c.in-Some-Some.is-0 c.in-Some-Some.is-1 c.requires.2).entries

pub bounds-links-i : goal.bounds-links-i
bounds-links-i g t c = (first_turn g.T.Ordered.le g.met.T.Ordered.laws c.in-Some-Some.is-0 c.in-Some-Some.is-1 c.requires.2).links

pub bounds-links-j : goal.bounds-links-j
bounds-links-j g t c = (second_turn g.T.Ordered.le g.met.T.Ordered.laws c.in-Some-Some.is-0 c.in-Some-Some.is-1 c.requires.2).links

pub meld-rest-requires : goal.meld-rest-requires
meld-rest-requires g t c κs within =
    let w = first_turn g.T.Ordered.le g.met.T.Ordered.laws c.in-Some-Some.is-0 c.in-Some-Some.is-1 c.requires.2 in
    (omega (arith, w.falls, c.decreases, ap (rank_at c.args.links.now) c.in-Some-Some.is-0, ap (rank_at c.args.links.now) c.in-Some-Some.is-1), (within, (_, _, w.meldable)))

pub meld-rest-requires-else-precedes : goal.meld-rest-requires-else-precedes
meld-rest-requires-else-precedes g t c κs within =
    let w = second_turn g.T.Ordered.le g.met.T.Ordered.laws c.in-Some-Some.is-0 c.in-Some-Some.is-1 c.requires.2 in
    (omega (arith, w.falls, c.decreases, ap (rank_at c.args.links.now) c.in-Some-Some.is-0, ap (rank_at c.args.links.now) c.in-Some-Some.is-1), (within, (_, _, w.meldable)))

pub join-requires : goal.join-requires
join-requires g t c =
    let w = first_turn g.T.Ordered.le g.met.T.Ordered.laws c.in-Some-Some.is-0 c.in-Some-Some.is-1 c.requires.2 in
    let j = w.joins _ _ (omega (arith, c.meld-rest.auto.links)) (c.meld-rest.ensures _ _ w.meldable) in
    record { at = j.at; left = j.left; rest = j.rest_at; fits = j.fits }

pub join-requires-else-precedes : goal.join-requires-else-precedes
join-requires-else-precedes g t c =
    let w = second_turn g.T.Ordered.le g.met.T.Ordered.laws c.in-Some-Some.is-0 c.in-Some-Some.is-1 c.requires.2 in
    let j = w.joins _ _ (omega (arith, c.meld-rest-else-precedes.auto.links)) (c.meld-rest-else-precedes.ensures _ _ w.meldable) in
    record { at = j.at; left = j.left; rest = j.rest_at; fits = j.fits }

pub returns-then-precedes : goal.returns-then-precedes
returns-then-precedes g t c s u p =
    let w = first_turn g.T.Ordered.le g.met.T.Ordered.laws c.in-Some-Some.is-0 c.in-Some-Some.is-1 p in
    w.ends _ _ c.index-entries-i.is c.index-entries-j.is (sym c.precedes.ensures ∙ c.if-precedes.true) _ _ (omega (arith, c.meld-rest.auto.links)) (c.meld-rest.ensures _ _ w.meldable) _ c.join.ensures

pub returns-else-precedes : goal.returns-else-precedes
returns-else-precedes g t c s u p =
    let le = g.T.Ordered.le in
    let laws = g.met.T.Ordered.laws in
    let w = second_turn le laws c.in-Some-Some.is-0 c.in-Some-Some.is-1 p in
    let first = second_precedes le laws c.in-Some-Some.is-0 c.in-Some-Some.is-1 p _ _ c.index-entries-i.is c.index-entries-j.is (sym c.precedes.ensures ∙ c.if-precedes.false) in
    turned le laws c.in-Some-Some.is-0 c.in-Some-Some.is-1 p (w.ends _ _ c.index-entries-j.is c.index-entries-i.is first _ _ (omega (arith, c.meld-rest-else-precedes.auto.links)) (c.meld-rest-else-precedes.ensures _ _ w.meldable) _ c.join-else-precedes.ensures)

pub returns-in_default : goal.returns-in_default
returns-in_default g t c s u p =
    let none : (c.args.a ≡ None) ⊎ (c.args.b ≡ None) = elim c.in_default.branch [ in_default-via-in-Some+in_default w ↦ inr w.in_default.is-1 | in_default-via-in_default w ↦ inl w.in_default.is-0 ] in
    with_none g.T.Ordered.le g.met.T.Ordered.laws s u none c.or.ensures p
