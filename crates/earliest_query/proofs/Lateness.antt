-- Where one arrives too late to go on.
use Rattle.std.proofs.Common.{◌≡◌, ℕ, ◌<◌, ◌≤◌, ◌⊎◌, inl, inr, length, sym, ap, subst, arith, Option, None, Some, ℤ, ◌≤ℤ◌}
use Rattle.std.proofs.lemmas.Int.{ints}
use Rattle.std.proofs.lemmas.Bool.{cases_lt}
use Rattle.tb_base.specs.Network.{NetData}
use Rattle.tb_base.specs.TimetableData.{TimetableData, arrival_at, events_of}
use Rattle.tb_base.specs.Soundness.{IsSound}
use Rattle.tb_base.specs.BestValues.{QueryData}
use Rattle.tb_laws.proofs.UTurnLaws.{departs_first}
use Rattle.segment_queue.specs.declared.desk.Segment.{Segment}
use Rattle.segment_queue.specs.declared.desk.Hit.{Hit}
use Rattle.segment_queue.specs.Queue.{DeskData, IsSoundSegment}
use Rattle.segment_queue.specs.Traced.{segment_of}
use Rattle.earliest_query.specs.Choices.{ArrivesBy}
use Rattle.earliest_query.specs.UnderWay.{Covers, AddsSegments, IsBounded, IsDone, IsImproved}
use Rattle.earliest_query.proofs.Growing.{extends-long, extends-refl, extends-segment}
use Rattle.earliest_query.proofs.Following.{followed-kept, sound_event}
use Rattle.earliest_query.proofs.BestSoFar.{arrives_by-improved, bounded-improved}
use Rattle.tb_base.proofs.NumberFacts.{≤ℤ-same, ≤ℤ-trans, ≤ℤ-later}

-- what the best arrives by, it arrives by later too
pub arrives_by-later : (best : Option Hit) (a b : ℤ) → a ≤ℤ b → ArrivesBy best a → ArrivesBy best b
arrives_by-later None a b le by = by
arrives_by-later (Some h) a b le by = omega (arith, ints, le, by)

-- along a trip the arrivals never fall
pub arrives_on : (T : TimetableData) (t i k : ℕ) → IsSound T → t < length T.trips → i ≤ k → k < length (events_of T t) → arrival_at T t i ≤ℤ arrival_at T t k
arrives_on T t i k sound trip le inside = elim (same_or_less i k le) [ inl e ↦ ≤ℤ-same _ _ (ap (λ m. arrival_at T t m) e) | inr less ↦ ≤ℤ-trans _ _ _ (sound_event T t i sound trip (omega (arith, less, inside))).waits (departs_first T sound t i k trip less inside) ]
  where
    same_or_less : (i k : ℕ) → i ≤ k → (i ≡ k) ⊎ (i < k)
    same_or_less i k h = grind arith

-- what has been done with an index stays done, with a better hit too
pub done-kept : (N : NetData) (Q : QueryData) (D D' : DeskData) (joined round n i : ℕ) (a b : Option Hit) → AddsSegments D D' joined → n < length D.segments → IsImproved N.table Q D' round a b → IsDone N D a n i → IsDone N D' b n i
done-kept N Q D D' joined round n i a b extends inside improved (inl followed) = inl (followed-kept N D D' joined n i extends inside followed)
done-kept N Q D D' joined round n i a b extends inside improved (inr late) =
    inr (subst (λ (s : Segment). ArrivesBy b (arrival_at N.table s.trip i)) (sym (extends-segment D D' joined extends n inside)) (arrives_by-improved N.table Q D' round a b (arrival_at N.table (segment_of D.segments n).trip i) improved late))

-- who arrives late is bounded, with a walk too
pub late-bounded : (T : TimetableData) (Q : QueryData) (D : DeskData) (best : Option Hit) (n i : ℕ) → ArrivesBy best (arrival_at T (segment_of D.segments n).trip i) → IsBounded T Q D best n i
late-bounded T Q D best n i late = λ q secs offer. arrives_by-later best _ _ (≤ℤ-later (arrival_at T (segment_of D.segments n).trip i) secs) late

-- what has been ridden when the segment is left
module _ (N : NetData) (Q : QueryData) (D E : DeskData) (n at top round : ℕ) (best result : Option Hit) (sound : IsSound N.table) (inside : n < length D.segments) (whole : IsSoundSegment N.table (segment_of D.segments n)) (extends : AddsSegments D E top) (improved : IsImproved N.table Q E round best result)
    (late : ArrivesBy result (arrival_at N.table (segment_of D.segments n).trip at)) where
  late_from : (i : ℕ) → Covers D n i → at ≤ i → ArrivesBy result (arrival_at N.table (segment_of D.segments n).trip i)
  late_from i covers from = arrives_by-later result _ _ (arrives_on N.table (segment_of D.segments n).trip at i sound whole.trip from (omega (arith, covers.within, whole.within))) late

  pub left_done : ((i : ℕ) → (segment_of D.segments n).board < i → i < at → IsDone N E best n i) → (i : ℕ) → Covers D n i → IsDone N E result n i
  left_done done i covers = elim (cases_lt i at) [
    | inl before ↦ done-kept N Q E E top round n i best result (extends-refl E top) (omega (arith, inside, extends-long D E top extends)) improved (done i covers.onward before)
    | inr from ↦ inr (subst (λ (s : Segment). ArrivesBy result (arrival_at N.table s.trip i)) (sym (extends-segment D E top extends n inside)) (late_from i covers from))
  ]

  pub left_bounded : ((i : ℕ) → (segment_of D.segments n).board < i → i < at → IsBounded N.table Q D best n i) → (i : ℕ) → Covers D n i → IsBounded N.table Q D result n i
  left_bounded bounded i covers = elim (cases_lt i at) [
    | inl before ↦ bounded-improved N.table Q D E round best result n i improved (bounded i covers.onward before)
    | inr from ↦ late-bounded N.table Q D result n i (late_from i covers from)
  ]
