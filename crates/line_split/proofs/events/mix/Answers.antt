use Rattle.std.proofs.Common.{refl}
use Rattle.line_split.specs.Patterns.{mix}
use Rattle.line_split.proofs.events.mix.Goals as goal

pub returns : goal.returns
unfolding mix
returns c = refl
