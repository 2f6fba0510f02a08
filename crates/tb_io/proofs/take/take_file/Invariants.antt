use Rattle.std.proofs.Common.{◌≡◌, ◌≤◌, ◌+◌, vec_len, take, length}
use Rattle.std.specs.Prelude.{IfSome, IsSome}
use Rattle.tb_io.specs.Files.{file_at}
use Rattle.tb_io.proofs.Pieces.{IsFront, AtPath}
use Rattle.tb_io.proofs.take.take_file.Given as goal

abbrev pub invariant-loop-turn : goal.invariant-loop-turn
invariant-loop-turn g l = record {
  turns : l._turn ≤ vec_len l.bytes;
  within : vec_len l.bytes ≤ l.most;
  size : length l.piece ≡ 65536;
  files : g.F.Folder.files l.folder ≡ g.F.Folder.files l.fn.folder;
  faults : g.F.Folder.faults l.folder ≡ g.F.Folder.faults l.fn.folder;
  there : IfSome (g.F.Folder.files l.fn.folder) (λ fs. IsSome (file_at fs l.path));
  front : AtPath (g.F.Folder.files l.fn.folder) l.path (IsFront l.bytes.items);
}
