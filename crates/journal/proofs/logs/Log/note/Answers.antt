use Rattle.journal.proofs.Noting.{note_kept, note_writes}
use Rattle.journal.proofs.logs.Log.note.Goals as goal

pub returns : goal.returns
returns c =
    let l = c.args.self.now in
    let next = c.following-self.ensures in
    let more = c.one_more-self.ensures in
    record {
      kept = note_kept l c.requires c.args.change _ _ next more;
      writes = note_writes l c.requires c.args.change _ _ next more;
    }
