use Rattle.std.proofs.Common.{◌≡◌, true, arith}
use Rattle.std.proofs.lemmas.Grind.{common_steps}
use Rattle.std.proofs.lemmas.List.{take_rest}
use Rattle.tb_io.proofs.CallLemmas.{call_failed}
use Rattle.tb_io.proofs.Pieces.{consumes_front}
use Rattle.tb_io.proofs.mem.source.MemSourceSource.read.Goals as goal

pub returns-then-failed-clause-cause : goal.returns-then-failed-clause-cause
returns-then-failed-clause-cause c = rw (← c.self.view_is) (call_failed _ c.self.inside.calls c.count.new.self c.fails_next-failed.result c.count.ensures c.if-failed.true)

pub returns-clause-bytes : goal.returns-clause-bytes
returns-clause-bytes c =
    rw (← c.self.view_is)
    (consumes_front c.self.inside.bytes.items _ c.copy_front-count.new.buf c.self.inside.at c.self.inside.piece c.copy_front-count.result (grind (arith, common_steps))
    (rw c.deref.ensures.value (take_rest c.self.inside.bytes.items c.self.inside.at)) c.copy_front-count.ensures.count c.copy_front-count.ensures.copied)
