use Rattle.std.proofs.Common.{lit≤}
use Rattle.transfer_reduce.proofs.WordLaws.{begun_words}
use Rattle.transfer_reduce.proofs.times.Times.new.Goals as goal

pub returns : goal.returns
returns c = begun_words 4294434495 c.args.stops _ c.new-words.result.items c.resize.new.self.items (lit≤ tt) c.new-words.ensures.items c.new-words.ensures.len c.in_ok-resize.ensures.items
