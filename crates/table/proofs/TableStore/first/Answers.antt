use Rattle.stores.proofs.Answering.{first_refused}
use Rattle.std.proofs.Common.{◌≡◌, Ok, option_map, ap, ◌∙◌, rules}
use Rattle.table.specs.Tables.{meaning_of}
use Rattle.table.proofs.Standing.{first_here}
use Rattle.table.proofs.TableStore.first.Goals as goal

pub returns-then-queue-ge-QUEUES : goal.returns-then-queue-ge-QUEUES
returns-then-queue-ge-QUEUES g c = record { answer = first_refused (meaning_of g.T.Ordered.le c.args.self.now).state c.args.queue c.if-queue-ge-QUEUES.true }

pub returns : goal.returns
returns g c =
    let told : c.map.result ≡ option_map (λ p. p.1) c.front.result = search rules in
    record { answer = ap Ok told ∙ first_here c.requires g.T.Ordered.le c.args.queue c.if-queue-ge-QUEUES.false c.front.result c.front.ensures }
