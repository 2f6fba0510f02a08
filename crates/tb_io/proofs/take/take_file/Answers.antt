use Rattle.std.proofs.Common.{◌≡◌, ◌≤◌, ◌+◌, arith, rules, length, List, ℕ, true, vec_len, take, ◌++◌}
use Rattle.std.proofs.lemmas.Grind.{common_steps}
use Rattle.tb_io.specs.Files.{IsPiece}
use Rattle.tb_io.proofs.Pieces.{IsFront, AtPath, at_path-both, front_more}
use Rattle.tb_io.proofs.take.take_file.Goals as goal

pub loop-turn-preserved : goal.loop-turn-preserved
loop-turn-preserved g c = record {
  turns = grind (arith, common_steps);
  within = grind (arith, common_steps);
  size = grind (arith, common_steps);
  files = grind (arith, common_steps);
  faults = grind (arith, common_steps);
  there = search rules;
  front =
      let items = c.in_ok-add_piece-in-Ok-read.ensures.added in
      let same : vec_len c.loop-turn.bytes ≡ length c.loop-turn.bytes.items = grind (arith, common_steps) in
      let told = rw (c.loop-turn.invariant.files, c.len-from.ensures, same) at c.in-Ok-read.ensures.told in
      let short : c.in-Ok-read.count ≤ length c.read.new.buf = grind (arith, common_steps) in
      rw items (at_path-both (g.F.Folder.files c.args.folder.now) c.args.path.now (IsFront c.loop-turn.bytes.items)
      (λ file. IsPiece file (length c.loop-turn.bytes.items) c.in-Ok-read.count c.read.new.buf) (IsFront (c.loop-turn.bytes.items ++ take c.in-Ok-read.count c.read.new.buf))
      (λ file h p. front_more c.loop-turn.bytes.items c.read.new.buf file c.in-Ok-read.count short h p) c.loop-turn.invariant.front told);
}
