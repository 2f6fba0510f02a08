use Rattle.std.proofs.Common.{◌≡◌, ◌<◌, length, take, false, true}
use Rattle.std.specs.Prelude.{All, IfSome, slice_index_or}
use Rattle.late_edit.proofs.named_trips.named_marks.Given as goal

abbrev pub invariant-loop-one : goal.invariant-loop-one
invariant-loop-one l = record {
  long : length l.marks.items ≡ l.count;
  marked : All (λ o. IfSome o (λ t. t < l.count → slice_index_or l.marks.items t false ≡ true)) (take l.one l.named);
}
