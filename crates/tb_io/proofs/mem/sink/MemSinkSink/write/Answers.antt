use Rattle.std.proofs.Common.{◌≡◌, true}
use Rattle.tb_io.proofs.CallLemmas.{call_failed}
use Rattle.tb_io.proofs.mem.sink.MemSinkSink.write.Goals as goal

pub returns-then-failed-clause-cause : goal.returns-then-failed-clause-cause
returns-then-failed-clause-cause c = rw (← c.self.view_is) (call_failed _ c.self.inside.calls c.count.new.self c.if-fails_next.failed c.count.ensures c.if-failed.true)
