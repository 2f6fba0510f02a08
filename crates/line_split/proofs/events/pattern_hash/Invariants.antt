use Rattle.std.proofs.Common.{◌≡◌, take}
use Rattle.line_split.specs.Patterns.{pattern_hash}
use Rattle.line_split.proofs.events.pattern_hash.Given as goal

abbrev pub invariant-loop-event : goal.invariant-loop-event
invariant-loop-event l = l.hash ≡ pattern_hash (take l.event-index l.events)
