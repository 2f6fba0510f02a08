-- How many trips of a line there are from one on.
use Rattle.std.proofs.Common.{◌≢◌, ℕ, ◌≤◌, inl, inr, List, [], ◌∷◌, length, ap, subst, arith}
use Rattle.std.specs.List.{concat}
use Rattle.tb_base.specs.Transfers.{line_from}
use Rattle.tb_base.proofs.Ordered.{Member, AllPairs-tail}
use Rattle.segment_queue.specs.Scans.{trips_from}
use Rattle.segment_queue.proofs.Distinct.{AreDistinct, before_member, in_one_part, member_or_not, pairs_left, pairs_right, same_or_other}
use Rattle.segment_queue.proofs.LineParts.{line_from-other, line_from-same, member_from, member_lines, trips_from-here, trips_from-past}

part_no_longer : (t : ℕ) (line : List ℕ) → length (line_from t line) ≤ length line
part_no_longer t [] = omega arith
part_no_longer t (x ∷ xs) =
    elim (same_or_other x t) [
      | inl e ↦ omega (arith, ap length (line_from-same t x xs e.1))
      | inr e ↦ (let less = part_no_longer t xs in omega (arith, less, ap length (line_from-other t x xs e.1)))
    ]

part_shorter : (t u : ℕ) (line : List ℕ) → AreDistinct line → Member u (line_from t line) → length (line_from u line) ≤ length (line_from t line)
part_shorter t u [] distinct h = omega arith
part_shorter t u (x ∷ xs) distinct h =
    elim (same_or_other x t) [
      | inl e ↦ (let less = part_no_longer u (x ∷ xs) in omega (arith, less, ap length (line_from-same t x xs e.1)))
      | inr e ↦
          (let k : Member u (line_from t xs) = subst (Member u) (line_from-other t x xs e.1) h in
          let less = part_shorter t u xs (AllPairs-tail (λ t u. t ≢ u) x xs distinct) k in
          elim (same_or_other x u) [
            | inl f ↦ absurd (before_member (λ t u. t ≢ u) x xs u distinct (member_from u t xs k) f.0)
            | inr f ↦ omega (arith, less, ap length (line_from-other t x xs e.1), ap length (line_from-other u x xs f.1))
          ])
    ]

-- from a trip that comes behind there are no more trips than from the one before
pub left_behind : (t u : ℕ) (lines : List (List ℕ)) → AreDistinct (concat lines) → Member u (trips_from lines t) → length (trips_from lines u) ≤ length (trips_from lines t)
left_behind t u [] distinct h = omega arith
left_behind t u (line ∷ lines) distinct h =
    elim (member_or_not t line) [
      | inl e ↦
          (let k : Member u (line_from t line) = subst (Member u) (trips_from-here line lines t e.1) h in
          let on_line = member_from u t line k in
          elim (member_or_not u line) [
            | inl f ↦ (let less = part_shorter t u line (pairs_left (λ t u. t ≢ u) line (concat lines) distinct) k in omega (arith, less, ap length (trips_from-here line lines t e.1), ap length (trips_from-here line lines u f.1)))
            | inr f ↦ absurd (f.0 on_line)
          ])
      | inr e ↦
          (let k : Member u (trips_from lines t) = subst (Member u) (trips_from-past line lines t e.1) h in
          elim (member_or_not u line) [
            | inl f ↦ absurd (in_one_part u line (concat lines) distinct f.0 (member_lines u t lines k))
            | inr f ↦ (let less = left_behind t u lines (pairs_right (λ t u. t ≢ u) line (concat lines) distinct) k in omega (arith, less, ap length (trips_from-past line lines t e.1), ap length (trips_from-past line lines u f.1)))
          ])
    ]
