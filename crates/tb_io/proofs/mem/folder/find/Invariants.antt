use Rattle.std.proofs.Common.{◌≡◌, drop}
use Rattle.tb_io.specs.Files.{file_at}
use Rattle.tb_io.specs.Stored.{stored_files}
use Rattle.tb_io.proofs.mem.folder.find.Given as goal

abbrev pub invariant-loop-file : goal.invariant-loop-file
invariant-loop-file l = file_at (stored_files l.files) l.path ≡ file_at (stored_files (drop l.file-index l.files)) l.path
