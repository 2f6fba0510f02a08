use Rattle.std.proofs.Common.{◌≡◌, ◌<◌, ◌+◌, ℕ, true, false, length, slice_index_or}
use Rattle.tb_base.specs.TimetableData.{events_of}
use Rattle.line_split.specs.Marks.{is_marked}
use Rattle.line_split.proofs.again.marks_of.Given as goal

abbrev pub invariant-loop-trip : goal.invariant-loop-trip
invariant-loop-trip l = record {
  long : length l.marks.items ≡ l.count + 1;
  before : (t : ℕ) → t < l.trip → slice_index_or l.changed t false ≡ true → is_marked l.marks.items (events_of l.fn.before t) ≡ true;
  after : (t : ℕ) → t < l.trip → slice_index_or l.changed t false ≡ true → is_marked l.marks.items (events_of l.table t) ≡ true;
}
