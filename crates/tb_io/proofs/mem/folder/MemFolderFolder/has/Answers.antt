use Rattle.std.proofs.Common.{◌≡◌, true}
use Rattle.tb_io.proofs.CallLemmas.{call_failed}
use Rattle.tb_io.proofs.mem.folder.MemFolderFolder.has.Goals as goal

pub returns-then-call_fails-clause-cause : goal.returns-then-call_fails-clause-cause
returns-then-call_fails-clause-cause c = call_failed _ c.args.self.now.calls c.call_fails.new.self.calls c.call_fails.result (rw c.call_fails.ensures.fails c.call_fails.ensures.calls) c.if-call_fails.true
