-- A sweep that has come down to a time holds a value for each journey that leaves no earlier.
use Rattle.std.proofs.Common.{◌≡◌, ◌∙◌, ℕ, suc, ◌<◌, ◌≤◌, ◌⊎◌, inl, inr, List, length, sym, ap, subst, arith, Option, pos, ◌+ℤ◌}
use Rattle.std.specs.Prelude.{Contains, IsSome}
use Rattle.tb_base.specs.Network.{NetData}
use Rattle.tb_base.specs.declared.query.Value.{Value}
use Rattle.tb_base.specs.TimetableData.{arrival_at, events_of, stop_at, MayAlight}
use Rattle.tb_base.specs.Walking.{walk}
use Rattle.tb_base.specs.Journeys.{walk_secs}
use Rattle.tb_base.specs.BestValues.{IsAttained, QueryData}
use Rattle.tb_base.specs.Soundness.{IsSound}
use Rattle.tb_base.specs.Sufficiency.{AreSufficient}
use Rattle.tb_base.specs.Search.{IsCovered, IsReached, RoundSegment, segment_at}
use Rattle.tb_laws.specs.Pruning.{HoldOffers, IsLate, IsPrunedSearch}
use Rattle.tb_laws.proofs.SweepLaws.{swept_values_cover}
use Rattle.tb_laws.proofs.Triangles.{walk_secs-is}
use Rattle.tb_laws.proofs.UTurnLaws.{some}
use Rattle.segment_queue.specs.Queue.{DeskData}
use Rattle.segment_queue.specs.Traced.{round_of, round_segments, segment_of}
use Rattle.earliest_query.specs.Sweeping.{IsSweptTo}
use Rattle.earliest_query.proofs.Reaching.{reached_all}
use Rattle.segment_queue.proofs.Rounds.{board_of, end_of, length-round_segments, trip_of}

module _ (N : NetData) (Q : QueryData) (D : DeskData) (levels : List (List (Option ℕ))) (values : List Value) (swept : IsSweptTo N Q D levels values) where
  abbrev rounds : List RoundSegment
  rounds = round_segments D.segments

  long : length rounds ≡ length D.segments
  long = length-round_segments D.segments

  -- the segments of the sweep are those of a search
  pub swept_search : IsPrunedSearch N.table N.hops Q.from Q.leave values rounds
  swept_search = record {
    reached = λ n h. let inside : n < length D.segments = omega (arith, h, long) in
        subst (λ t. IsReached N.table Q.from Q.leave (round_of D.segments n) t (segment_at rounds n).board) (sym (trip_of D.segments n inside))
        (subst (λ b. IsReached N.table Q.from Q.leave (round_of D.segments n) (segment_of D.segments n).trip b) (sym (board_of D.segments n inside)) (reached_all N.table Q D.segments swept.queue.entered n inside));
    starts = λ p t b secs from boards not_last walks in_time. subst (λ m. IsCovered N.table rounds m 1 t b) (sym long) (swept.starts p t b secs from boards not_last walks in_time);
    goes_on = λ n i h inside onward within in_set.
        let below : n < length D.segments = omega (arith, inside, long) in
        elim (swept.gone_on.done n i below (record { onward = omega (arith, onward, board_of D.segments n below); within = omega (arith, within, end_of D.segments n below) })) [
          | inl followed ↦ inl (subst (λ m. IsCovered N.table rounds m (suc (segment_at rounds n).round) h.trip h.at) (sym long) (followed h (subst (λ t. Contains (N.hops t i) h) (trip_of D.segments n below) in_set)))
          | inr late ↦ inr (subst (λ t. IsLate values (arrival_at N.table t i) (segment_at rounds n).round) (sym (trip_of D.segments n below)) late)
        ];
    ends = λ n inside.
        let below : n < length D.segments = omega (arith, inside, long) in
        subst (λ t. (length (events_of N.table t) ≤ suc (segment_at rounds n).end) ⊎ IsCovered N.table rounds n (segment_at rounds n).round t (segment_at rounds n).end) (sym (trip_of D.segments n below))
        (subst (λ e. (length (events_of N.table (segment_of D.segments n).trip) ≤ suc e) ⊎ IsCovered N.table rounds n (segment_at rounds n).round (segment_of D.segments n).trip e) (sym (end_of D.segments n below)) (swept.queue.ends n below));
  }

  -- the values hold all that they offer
  hold_offers : HoldOffers N.table Q.to values rounds
  hold_offers v found =
      let n : ℕ = found.segment in
      let below : n < length D.segments = omega (arith, found.inside, long) in
      let trip : (segment_at rounds n).trip ≡ (segment_of D.segments n).trip = trip_of D.segments n below in
      let walks : IsSome (walk N.table (stop_at N.table (segment_of D.segments n).trip found.at) found.target) = subst (λ t. IsSome (walk N.table (stop_at N.table t found.at) found.target)) trip found.walks in
      let w = some (walk N.table (stop_at N.table (segment_of D.segments n).trip found.at) found.target) walks in
      let late = swept.gone_on.offers n found.at found.target w.0 below
      (record { onward = omega (arith, found.onward, board_of D.segments n below); within = omega (arith, found.within, end_of D.segments n below) })
      (record { alights = subst (λ t. MayAlight N.table t found.at) trip found.alights; target = found.to; walks = w.1 }) in
      let time : (arrival_at N.table (segment_of D.segments n).trip found.at +ℤ pos w.0) ≡ v.arrive
      = ap (λ z. arrival_at N.table (segment_of D.segments n).trip found.at +ℤ z) (sym (walk_secs-is N.table (stop_at N.table (segment_of D.segments n).trip found.at) found.target w.0 w.1))
      ∙ subst (λ t. (arrival_at N.table t found.at +ℤ walk_secs N.table (stop_at N.table t found.at) found.target) ≡ v.arrive) trip found.arrives in
      subst (λ r. IsLate values v.arrive r) found.round (subst (λ a. IsLate values a (round_of D.segments n)) time late)

  -- each journey that leaves no earlier has a value that is no worse
  pub swept_cover : IsSound N.table → AreSufficient N.table N.hops → (w : Value) → IsAttained N.table Q w → IsLate values w.arrive w.rides
  swept_cover sound sufficient w has = swept_values_cover N.table sound N.hops sufficient Q values rounds swept_search swept.gone_on.attained hold_offers swept.walks w has
