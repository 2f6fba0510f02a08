use Rattle.std.proofs.Common.{◌≡◌, ◌≤◌, vec_len, length}
use Rattle.std.specs.Io.KnownBytes.{Consumes}
use Rattle.tb_io.proofs.take.take_source.Given as goal

abbrev pub invariant-loop-turn : goal.invariant-loop-turn
invariant-loop-turn g l = record {
  turns : l._turn ≤ vec_len l.bytes;
  within : vec_len l.bytes ≤ l.most;
  size : length l.piece ≡ 65536;
  faults : g.S.Source.faults l.source ≡ g.S.Source.faults l.fn.source;
  front : Consumes (g.S.Source.left l.fn.source) (g.S.Source.left l.source) l.bytes.items;
}
