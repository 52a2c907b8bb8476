use Rattle.std.proofs.Common.{◌≡◌}
use Rattle.stores.specs.Meaning.{count_of}
use Rattle.cancelled.proofs.Purging.{Purging}
use Rattle.lazy.proofs.layer.Lazy.purge.Given as goal

abbrev pub invariant-purge : goal.invariant-purge
invariant-purge g l =
    (g.B.Store.sound l.self.below)
    × Purging g.B.Item.Ordered.le l.initial.self.own.queue_of (g.B.Store.meaning l.initial.self.below) l.queue (g.B.Store.meaning l.self.below)
    × (l.self.own ≡ l.initial.self.own)

abbrev pub decreases-purge : goal.decreases-purge
decreases-purge g l = count_of (g.B.Store.meaning l.self.below).state l.queue
