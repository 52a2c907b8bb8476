use Rattle.forests.proofs.Parting.{built_then, built_forest}
use Rattle.pairing.specs.Pairing.{cells_of}
use Rattle.pairing.proofs.Taking.{parts}
use Rattle.pairing.proofs.heaps.LinkHeapLink.take_front.Goals as goal

pub bounds-links-root : goal.bounds-links-root
bounds-links-root g c = (parts g.T.Ordered.le c.requires.0 c.args.root c.requires.1).within

pub pair_up-paired-requires : goal.pair_up-paired-requires
pair_up-paired-requires g c = (_, (parts g.T.Ordered.le c.requires.0 c.args.root c.requires.1).forest)

pub gather-requires : goal.gather-requires
gather-requires g c =
    let p = parts g.T.Ordered.le c.requires.0 c.args.root c.requires.1 in
    (_, built_forest (cells_of g.T.Ordered.le) p.forest (c.pair_up-paired.ensures _ p.forest))

pub returns : goal.returns
returns g c t h =
    let le = g.T.Ordered.le in
    let p = parts le t c.args.root h in
    let m = c.pair_up-paired.ensures _ p.forest in
    p.taken (built_then (cells_of le) m (c.gather.ensures _ (built_forest (cells_of le) p.forest m)))
