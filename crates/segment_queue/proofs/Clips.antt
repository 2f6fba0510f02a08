-- The ends by which segments are clipped are written down.
use Rattle.std.proofs.Common.{◌≡◌, ◌∙◌, ℕ, ◌+◌, ◌-◌, ◌<◌, ◌≤◌, inl, inr, List, length, get_or, set, refl, sym, ap, subst, arith, Option, Some}
use Rattle.std.specs.Prelude.{slice_get}
use Rattle.std.proofs.lemmas.List.{get_or-set_other}
use Rattle.std.proofs.lemmas.Grind.{get_or-set_at}
use Rattle.std.proofs.lemmas.Option.{get_or_from_slice_get}
use Rattle.tb_base.specs.Network.{NetData}
use Rattle.tb_base.proofs.NumberFacts.{below_or_at}
use Rattle.segment_queue.specs.declared.desk.Segment.{Segment}
use Rattle.segment_queue.specs.Clipped.{AreClipped}
use Rattle.segment_queue.specs.Queue.{IsClipped}

pub clips_more : (N : NetData) (marks : List (Option ℕ)) (segments : List Segment) (from n end : ℕ) (ends : List ℕ) (d : Segment) → from ≤ n → n - from < length ends → IsClipped N marks (get_or segments n d) end → AreClipped N marks segments from n ends
    → AreClipped N marks segments from (n + 1) (set ends (n - from) end)
clips_more N marks segments from n end ends d onward inside one before k s low high got = elim (below_or_at k n high) [
  | inl earlier ↦ subst (IsClipped N marks s) (sym (get_or-set_other ends (n - from) (k - from) end 0 (λ e. omega (arith, e, earlier, low)))) (before k s low earlier got)
  | inr e ↦ (let is : get_or segments n d ≡ s = get_or_from_slice_get segments n s d (subst (λ m. slice_get segments m ≡ Some s) e got) in
      subst (IsClipped N marks s) (sym (get_or-set_at ends (n - from) (k - from) end 0 (ap (λ m. m - from) e) inside)) (subst (λ x. IsClipped N marks x end) is one))
]
