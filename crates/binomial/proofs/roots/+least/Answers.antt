use Rattle.std.proofs.Common.{sym, ◌∙◌, arith}
use Rattle.elements.proofs.Strictness.{strict}
use Rattle.binomial.proofs.LeastRoot.{look, look_none}
use Rattle.binomial.proofs.roots.+least.Goals as goal

pub least-other-requires : goal.least-other-requires
least-other-requires g t c κs within =
    let le = g.T.Ordered.le in
    let w = look le (strict le g.met.T.Ordered.laws) _ c.in-Some.is c.requires.1 in
    (omega (arith, c.decreases, w.falls), (within, (_, w.forest)))

pub offset_bounds-entries-other : goal.offset_bounds-entries-other
offset_bounds-entries-other g t c =
    let le = g.T.Ordered.le in
    let w = look le (strict le g.met.T.Ordered.laws) _ c.in-Some.is c.requires.1 in
    omega (arith, w.inside _ _ (c.least-other.ensures _ w.forest).1)

pub bounds-entries-other : goal.bounds-entries-other
bounds-entries-other g t c =
    let le = g.T.Ordered.le in
    let w = look le (strict le g.met.T.Ordered.laws) _ c.in-Some.is c.requires.1 in
    w.inside _ _ (c.least-other.ensures _ w.forest).1

pub returns-in_default : goal.returns-in_default
returns-in_default g t c s p = let le = g.T.Ordered.le in look_none le (strict le g.met.T.Ordered.laws) s c.in_default.is p

pub returns-then-precedes : goal.returns-then-precedes
returns-then-precedes g t c s p =
    let le = g.T.Ordered.le in
    let w = look le (strict le g.met.T.Ordered.laws) s c.in-Some.is p in
    w.here _ _ _ _ (c.least-other.ensures _ w.forest).1 c.index-entries-at.is c.index-entries-other.is (sym c.precedes.ensures ∙ c.if-precedes.true)

pub returns-else-precedes : goal.returns-else-precedes
returns-else-precedes g t c s p =
    let le = g.T.Ordered.le in
    let w = look le (strict le g.met.T.Ordered.laws) s c.in-Some.is p in
    w.there _ _ _ _ (c.least-other.ensures _ w.forest).1 c.index-entries-at.is c.index-entries-other.is (sym c.precedes.ensures ∙ c.if-precedes.false)
