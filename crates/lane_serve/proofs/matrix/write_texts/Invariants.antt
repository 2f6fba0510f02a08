use Rattle.std.proofs.Common.{◌≡◌, take}
use Rattle.std.specs.Io.KnownBytes.{Appends}
use Rattle.query_gate.specs.Dealing.{joined_texts}
use Rattle.lane_serve.proofs.matrix.write_texts.Given as goal

abbrev pub invariant-loop-text : goal.invariant-loop-text
invariant-loop-text g l =
    Appends (g.K.Sink.written l.fn.sink) (g.K.Sink.written l.sink) (joined_texts (take l.text-index l.texts))
    × (g.K.Sink.faults l.sink ≡ g.K.Sink.faults l.fn.sink)
