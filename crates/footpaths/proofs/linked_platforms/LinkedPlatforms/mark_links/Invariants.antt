use Rattle.std.proofs.Common.{◌≡◌, ◌<◌, ℕ, length, map, take, fold}
use Rattle.footpaths.specs.BestRules.{slot, marked_by}
use Rattle.footpaths.specs.LinkedPlatforms.{link_at}
use Rattle.footpaths.proofs.linked_platforms.LinkedPlatforms.mark_links.Given as goal

abbrev pub invariant-loop-place : goal.invariant-loop-place
invariant-loop-place l = record {
  many : length l.marks ≡ length l.fn.marks;
  marked : (p : ℕ) → p < length l.fn.marks → slot l.marks p ≡ fold (marked_by l.fn.self.stops p) (slot l.fn.marks p) (map (link_at l.fn.self.links) (take l.place-index l.places));
}
