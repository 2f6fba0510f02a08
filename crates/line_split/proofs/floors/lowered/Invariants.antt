use Rattle.std.proofs.Common.{◌≡◌, ℕ, ◌<◌, length, get_or}
use Rattle.tb_base.specs.TimetableData.{no_event}
use Rattle.line_split.specs.Floors.{IsEarlier}
use Rattle.line_split.proofs.floors.lowered.Given as goal

abbrev pub invariant-loop-i : goal.invariant-loop-i
invariant-loop-i l = record {
  long : length l.low.items ≡ l.i;
  lower : (j : ℕ) → j < l.i → IsEarlier (get_or l.low.items j no_event) (get_or l.floor j no_event);
  below : (j : ℕ) → j < l.i → IsEarlier (get_or l.low.items j no_event) (get_or l.events j no_event);
}
