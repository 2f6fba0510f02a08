use Rattle.segment_queue.proofs.InStep.{segments_le_events}
use Rattle.segment_queue.proofs.laws.segments_within_events.Goals as goal

pub returns : goal.returns
returns c = segments_le_events
