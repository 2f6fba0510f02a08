-- The last indexes of the trips.
use Rattle.std.proofs.Common.{◌≡◌, ℕ, ◌<◌, ◌≤◌, ◌-◌, ◌⊎◌, inl, inr, ◌∙◌, List, [], length, get_or, map, sym, subst, arith, Option, None, Some, replicate}
use Rattle.std.specs.Prelude.{sum}
use Rattle.std.proofs.lemmas.List.{get_or-map, get_or-replicate, get_or_past, length-replicate}
use Rattle.std.proofs.lemmas.List.Sums.{sum-map, sum_by-le-sum_by, get_or-le-sum_by}
use Rattle.std.proofs.lemmas.Bool.{cases_lt}
use Rattle.tb_base.specs.TimetableData.{TripData, TimetableData, events_of, no_trip}
use Rattle.tb_base.specs.Soundness.{IsSound}
use Rattle.tb_base.proofs.Events.{MayAlight-inside}
use Rattle.plain_rounds.specs.declared.labels.StopLabel.{StopLabel}
use Rattle.plain_rounds.specs.Labels.{label_at}
use Rattle.plain_rounds.specs.Rounds.{last_index, IsLeftBehind}

module _ (T : TimetableData) (sound : IsSound T) where
  pub boarded_at-few : sum (map last_index T.trips) ≤ 10000000
  boarded_at-few = subst (λ n. n ≤ 10000000) (sym (sum-map last_index T.trips))
      (omega (arith, sound.events, sum_by-le-sum_by last_index (λ (t : TripData). length t.events) T.trips (λ t. less (length t.events))))
    where
      less : (n : ℕ) → n - 1 ≤ n
      less n = omega arith

-- there is no label
pub no_label : (n p : ℕ) (l : StopLabel) → label_at (replicate n None) p ≡ Some l → ⊥
no_label n p l h = by_case (cases_lt p n)
  where
    by_case : (p < n) ⊎ (n ≤ p) → ⊥
    by_case (inl k) = let none : label_at (replicate n None) p ≡ None = get_or-replicate n p None None k in let no : None ≡ Some l = sym none ∙ h in cc
    by_case (inr k) = let none : label_at (replicate n None) p ≡ None = get_or_past (replicate n None) p None (omega (arith, length-replicate {A = Option StopLabel} n None)) in let no : None ≡ Some l = sym none ∙ h in cc
