use Rattle.std.proofs.Common.{◌≡◌, ℕ, ◌<◌, get_or}
use Rattle.plain_rounds.specs.Labels.{Takes, later}
use Rattle.plain_rounds.proofs.FootpathLemmas.{no_path}
use Rattle.plain_rounds.proofs.labels.offer_footpaths.Given as goal

abbrev pub invariant-loop-path : goal.invariant-loop-path
invariant-loop-path l = Takes l.fn.labels l.labels (λ q x. (k : ℕ) × (k < l.path-index) × ((q ≡ (get_or l.paths k no_path).to) × (x ≡ later l.label (get_or l.paths k no_path).secs)))
