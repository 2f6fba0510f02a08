use Rattle.line_split.specs.Places.{NotesLine}
use Rattle.line_split.proofs.places.note_line.Given as goal

abbrev pub invariant-loop-place : goal.invariant-loop-place
invariant-loop-place l = NotesLine l.line l.trips l.place l.initial.places l.places
