use Rattle.std.proofs.Common.{take, ◌++◌}
use Rattle.tb_io.proofs.Pieces.{consumes_more}
use Rattle.tb_io.proofs.take.take_source.Goals as goal

pub returns-in_err-add_piece-in-Ok-read-clause-read :
    goal.returns-in_err-add_piece-in-Ok-read-clause-read
returns-in_err-add_piece-in-Ok-read-clause-read g c = (
  c.loop-turn.bytes.items ++ take c.in-Ok-read.count c.read.new.buf,
  consumes_more _ _ _ _ _ c.loop-turn.invariant.front c.in-Ok-read.ensures.bytes.0,
)
