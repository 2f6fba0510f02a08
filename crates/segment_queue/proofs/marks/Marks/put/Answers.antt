use Rattle.segment_queue.proofs.MarkWords.{set_marked}
use Rattle.segment_queue.proofs.marks.Marks.put.Goals as goal

pub returns : goal.returns
returns c = rw (← c.self.view_is, c.index.ensures) (set_marked c.self.inside.floor c.self.inside.words.items c.args.trip c.args.at c.requires.at)
