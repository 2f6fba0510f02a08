use Rattle.std.proofs.Common.{◌≡◌, drop, length}
use Rattle.segment_queue.specs.Words.{lowered_words}
use Rattle.segment_queue.proofs.marks.lower_words.Given as goal

abbrev pub invariant-loop-trip : goal.invariant-loop-trip
invariant-loop-trip l = record {
  long : length l.words ≡ length l.initial.words;
  rest : lowered_words (drop l.trip-index l.trips) l.word l.words ≡ lowered_words l.trips l.word l.initial.words;
}
