-- A search that has ridden all segments has the best values to every stop.
use Rattle.std.proofs.Common.{◌≡◌, ◌∙◌, ℕ, zero, suc, ◌<◌, ◌≤◌, ◌⊎◌, inl, inr, List, [], ◌∷◌, Bool, true, false, length, map, refl, sym, ap, subst, arith, ℤ, pos, ◌+ℤ◌, Result, Ok, Err}
use Rattle.std.specs.Prelude.{Contains, IfOk, IsSome, IsTrue, MatchBool, OnOk}
use Rattle.std.specs.Result.{is_err}
use Rattle.std.proofs.lemmas.List.Elements.{All-contains}
use Rattle.tb_base.specs.declared.query.Value.{Value}
use Rattle.tb_base.specs.BestValues.{AreBestValues, IsAttained, IsBest, QueryData, value_of}
use Rattle.tb_base.specs.Journeys.{Leads, Ride, walk_secs}
use Rattle.tb_base.specs.Network.{NetData}
use Rattle.tb_base.specs.Search.{IsFound, IsReached, IsSearched, RoundSegment}
use Rattle.tb_base.specs.Soundness.{IsSound}
use Rattle.tb_base.specs.Sufficiency.{AreSufficient}
use Rattle.tb_base.specs.TimetableData.{TimetableData, arrival_at, event_at, stop_at, MayAlight}
use Rattle.tb_base.specs.Walking.{walk}
use Rattle.tb_base.proofs.Members.{All-from_Member}
use Rattle.tb_base.proofs.Ordered.{Contains-from_Member}
use Rattle.tb_base.proofs.Values.{same_value}
use Rattle.tb_laws.specs.Pruning.{IsLate, IsPrunedSearch}
use Rattle.tb_laws.proofs.ReachedLaws.{reached_value}
use Rattle.tb_laws.proofs.SearchLaws.{best_value_found, whole_search}
use Rattle.tb_laws.proofs.StaircaseLaws.{best_values_from_staircase}
use Rattle.tb_laws.proofs.Triangles.{walk_secs-is}
use Rattle.tb_laws.proofs.UTurnLaws.{some}
use Rattle.segment_queue.specs.declared.desk.Hit.{Hit}
use Rattle.segment_queue.specs.Queue.{DeskData}
use Rattle.segment_queue.specs.Traced.{round_of, segment_of}
use Rattle.earliest_query.specs.Meeting.{IsMet, IsMetUnlessHit}
use Rattle.earliest_query.specs.Ridden.{IsRidden, IsIndexServed}
use Rattle.earliest_query.specs.UnderWay.{Covers, IsOutdone}
use Rattle.earliest_query.proofs.Answering.{searched}
use Rattle.earliest_query.proofs.Reaching.{no_hits}
use Rattle.earliest_query.proofs.Sorting.{part_at, parts}
use Rattle.reach_all.specs.Reach.{IsReach, query_to, values_at}
use Rattle.reach_all.specs.Arriving.{AreFoundByStop, IsOfferedFrom, IsWalkedOn, Keep}
use Rattle.reach_all.specs.Spreading.{AreSpread, AreSpreadOrRefused, HoldsAlighting, HoldsAlightingOrRefused}
use Rattle.reach_all.proofs.Offering.{keep-refl, late-kept}

-- to alight at an event has been offered
pub record IsAlighted (T : TimetableData) (from : List ℕ) (leave : ℤ) (trip i round : ℕ) (old new : List (List Value)) : Type 0 where
  pub kept : Keep old new
  pub held : HoldsAlighting T new trip i round
  pub found : AreFoundByStop T from leave round new

module _ (T : TimetableData) (from : List ℕ) (leave : ℤ) (trip board i round : ℕ) (reached : IsReached T from leave round trip board) (onward : board < i) (old new : List (List Value)) (found : AreFoundByStop T from leave round old) where
  walked_attained : (q : ℕ) (w : Value) → MayAlight T trip i → IsWalkedOn T (stop_at T trip i) (record { arrive = arrival_at T trip i; rides = round }) q w → IsAttained T (query_to from leave q) w
  walked_attained q w alights on =
      subst (IsAttained T (query_to from leave q))
      (sym (on.is ∙ same_value (arrival_at T trip i +ℤ pos on.secs) _ round round (ap (λ z. arrival_at T trip i +ℤ z) (sym (walk_secs-is T (stop_at T trip i) q on.secs on.walks))) refl))
      (reached_value T from leave (query_to from leave q) refl refl round trip board i q reached onward alights (0, omega arith, refl) (subst (λ o. IsSome o) (sym on.walks) refl))

  by_alighting : MayAlight T trip i → IsOfferedFrom T (stop_at T trip i) (record { arrive = arrival_at T trip i; rides = round }) old new → IsAlighted T from leave trip i round old new
  by_alighting alights offers = record {
    kept = offers.kept;
    held = λ _ q secs walks. offers.held q secs walks;
    found = record {
      each_stop = offers.each_stop ∙ found.each_stop;
      attained = λ q. All-from_Member (IsAttained T (query_to from leave q)) (values_at new q) (λ w member. by_place q w (offers.only q w (Contains-from_Member w (values_at new q) member)));
      stairs = offers.stairs;
    };
  }
    where
      by_place : (q : ℕ) (w : Value) → Contains (values_at old q) w ⊎ IsWalkedOn T (stop_at T trip i) (record { arrive = arrival_at T trip i; rides = round }) q w → IsAttained T (query_to from leave q) w
      by_place q w (inl c) = All-contains (IsAttained T (query_to from leave q)) (values_at old q) w (found.attained q) c
      by_place q w (inr on) = walked_attained q w alights on

  without : (event_at T trip i).alight ≡ false → new ≡ old → IsAlighted T from leave trip i round old new
  without not_allowed same = subst (IsAlighted T from leave trip i round old) (sym same) (record {
    kept = keep-refl old;
    held = λ alights q secs walks. absurd (let e : true ≡ false = sym alights ∙ not_allowed in cc);
    found = found;
  })

  pub alighted : (stop : ℕ) (arr : ℤ) (alight : Bool) → stop ≡ stop_at T trip i → arr ≡ arrival_at T trip i → alight ≡ (event_at T trip i).alight →
      MatchBool alight (IsOfferedFrom T stop (record { arrive = arr; rides = round }) old new) (new ≡ old) → IsAlighted T from leave trip i round old new
  alighted stop arr true stop_is arr_is alight_is offers =
      by_alighting (sym alight_is) (subst (λ s. IsOfferedFrom T s (record { arrive = arrival_at T trip i; rides = round }) old new) stop_is (subst (λ a. IsOfferedFrom T stop (record { arrive = a; rides = round }) old new) arr_is offers))
  alighted stop arr false stop_is arr_is alight_is same = without (sym alight_is) same

  -- the same, where memory may have been refused
  pub alighted_or_refused : {A E : Type 0} (offered : Result A E) (refused : Bool) → refused ≡ is_err offered → (stop : ℕ) (arr : ℤ) (alight : Bool) → stop ≡ stop_at T trip i → arr ≡ arrival_at T trip i → alight ≡ (event_at T trip i).alight →
      OnOk offered (MatchBool alight (IsOfferedFrom T stop (record { arrive = arr; rides = round }) old new) (new ≡ old)) → IsTrue refused ⊎ IsAlighted T from leave trip i round old new
  alighted_or_refused (Ok x) refused is stop arr alight stop_is arr_is alight_is offers = inr (alighted stop arr alight stop_is arr_is alight_is offers)
  alighted_or_refused (Err e) refused is stop arr alight stop_is arr_is alight_is offers = inl is

-- what has been offered stays so, when the values have grown
pub alighting-kept : (T : TimetableData) (old new : List (List Value)) (trip i rides : ℕ) → Keep old new → HoldsAlighting T old trip i rides → HoldsAlighting T new trip i rides
alighting-kept T old new trip i rides keep held = λ alights q secs walks. late-kept old new q (arrival_at T trip i +ℤ pos secs) rides keep (held alights q secs walks)

-- values with so many rides at most are values with more at most
pub found-later : (T : TimetableData) (from : List ℕ) (leave : ℤ) (rides more : ℕ) (lists : List (List Value)) → rides ≤ more → AreFoundByStop T from leave rides lists → AreFoundByStop T from leave more lists
found-later T from leave rides more lists le found = record {
  each_stop = found.each_stop;
  attained = found.attained;
  stairs = record {
    few = λ q. All-from_Member (λ (v : Value). v.rides ≤ more) (values_at lists q) (λ v member. (let h = All-contains (λ (v : Value). v.rides ≤ rides) (values_at lists q) v (found.stairs.few q) (Contains-from_Member v (values_at lists q) member) in omega (arith, h, le)));
    stairs = found.stairs.stairs;
  };
}

-- the values of a search under way, after one more event
pub spread-next : (T : TimetableData) (Q : QueryData) (trip i round later : ℕ) (old new : List (List Value)) → round ≤ later → AreSpread T Q round old → IsAlighted T Q.from Q.leave trip i round old new → AreSpread T Q later new
spread-next T Q trip i round later old new le spread off = record {
  found = found-later T Q.from Q.leave round later new le off.found;
  starts = λ p q secs origin walks. late-kept old new q (Q.leave +ℤ pos secs) 0 off.kept (spread.starts p q secs origin walks);
}

-- memory was refused before, or the values are those of a search under way
pub spread_of : (T : TimetableData) (Q : QueryData) (rides : ℕ) (lists : List (List Value)) (refused : Bool) → refused ≡ false → AreSpreadOrRefused refused T Q rides lists → AreSpread T Q rides lists
spread_of T Q rides lists refused granted (inl is) = absurd (let e : true ≡ false = sym is ∙ granted in cc)
spread_of T Q rides lists refused granted (inr spread) = spread

pub held_of : (T : TimetableData) (lists : List (List Value)) (trip i rides : ℕ) (refused : Bool) → refused ≡ false → HoldsAlightingOrRefused refused T lists trip i rides → HoldsAlighting T lists trip i rides
held_of T lists trip i rides refused granted (inl is) = absurd (let e : true ≡ false = sym is ∙ granted in cc)
held_of T lists trip i rides refused granted (inr held) = held

module _ (N : NetData) (Q : QueryData) (D : DeskData) (rounds : ℕ) (ridden : IsRidden N Q D (length D.segments) rounds) (none : Q.to ≡ []) (lists : List (List Value)) (met : (n i : ℕ) → n < length D.segments → Covers D n i → IsMetUnlessHit N (HoldsAlighting N.table lists) D n i)
    (rides : ℕ) (spread : AreSpread N.table Q rides lists) where
  abbrev from : List ℕ
  from = Q.from

  abbrev leave : ℤ
  leave = Q.leave

  no_hit : D.hits ≡ []
  no_hit = no_hits N.table Q D.segments D.hits ridden.traced none

  -- all has been made of an index, and who alights there has been offered
  abbrev Made : ℕ → ℕ → Type 0
  Made n i = IsIndexServed N Q D n i × IsMet (HoldsAlighting N.table lists) D n i

  made : (n i : ℕ) → n < length D.segments → Covers D n i → Made n i ⊎ IsOutdone N D.segments n i
  made n i inside covers = elim (ridden.served n i inside covers) [
    | inl s ↦ elim (met n i inside covers) [
      | inl m ↦ inl (s, m)
      | inr late ↦ elim late [
        | inl hit ↦ absurd (let c : Contains [] hit.by = subst (λ hs. Contains hs hit.by) no_hit hit.one in omega (arith, c.1))
        | inr o ↦ inr o
      ]
    ]
    | inr o ↦ inr o
  ]

  abbrev all_parts : List RoundSegment
  all_parts = parts N Q D rounds ridden.queue Made made

  whole : IsSearched N.table N.hops from leave all_parts
  whole = whole_search N.table N.hops from leave all_parts (subst (λ hs. IsPrunedSearch N.table N.hops from leave (map (λ (h : Hit). h.value) hs) all_parts) no_hit (searched N Q D rounds ridden Made (λ n i m. m.0) made))

  module _ (stop : ℕ) where
    abbrev To : QueryData
    To = query_to from leave stop

    abbrev values : List Value
    values = values_at lists stop

    -- the one target
    is_stop : (q : ℕ) → Contains (stop ∷ []) q → q ≡ stop
    is_stop q c = let at : c.0 ≡ 0 = omega (arith, c.1) in sym (subst (λ k. Rattle.std.proofs.Common.get_or (stop ∷ []) k q ≡ q) at c.2)

    -- a best value that some value is no worse than is that value
    best_one : (v : Value) → IsBest N.table To v → IsLate values v.arrive v.rides → Contains values v
    best_one v best late =
        subst (λ w. Contains values w) (best.undominated late.0 (All-contains (IsAttained N.table To) values late.0 (spread.found.attained stop) late.1) late.2) late.1

    late_as : (v : Value) (a : ℤ) (n : ℕ) → a ≡ v.arrive → n ≡ v.rides → IsLate values a n → IsLate values v.arrive v.rides
    late_as v a n e f late = subst (λ k. IsLate values v.arrive k) f (subst (λ z. IsLate values z n) e late)

    from_walk : (v : Value) (o : ℕ) (rides : List Ride) (q : ℕ) → Contains from o → q ≡ stop → Leads N.table o rides q → v ≡ value_of N.table leave (record { origin = o; rides = rides; target = q }) → v.rides ≡ 0 → IsLate values v.arrive v.rides
    from_walk v o [] q origin at leads is none =
        let w = some (walk N.table o q) leads in
        late_as v (leave +ℤ pos w.0) 0 (ap (λ z. leave +ℤ z) (sym (walk_secs-is N.table o q w.0 w.1)) ∙ ap (λ (x : Value). x.arrive) (sym is)) (sym none)
        (subst (λ s. IsLate (values_at lists s) (leave +ℤ pos w.0) 0) at (spread.starts o q w.0 origin w.1))
    from_walk v o (r ∷ rest) q origin at leads is none = absurd (let e : v.rides ≡ suc (length rest) = ap (λ (x : Value). x.rides) is in omega (arith, e, none))

    module _ (sound : IsSound N.table) (sufficient : AreSufficient N.table N.hops) where
      complete : (v : Value) → IsBest N.table To v → Contains values v
      complete v best = by_rides v.rides refl
        where
          by_rides : (k : ℕ) → k ≡ v.rides → Contains values v
          by_rides zero e =
              let j = best.attained.0 in
              let h = best.attained.1 in
              best_one v best (from_walk v j.origin j.rides j.target h.journey.origin (is_stop j.target h.journey.target) h.journey.leads h.value (sym e))
          by_rides (suc k) e =
              let found : IsFound N.table (stop ∷ []) all_parts v = best_value_found N.table N.hops To all_parts whole v best sufficient (omega (arith, e)) in
              let q = part_at N Q D rounds ridden.queue Made made found.segment found.inside in
              let n : ℕ = q.of in
              let walks : IsSome (walk N.table (stop_at N.table (segment_of D.segments n).trip found.at) found.target) = subst (λ t. IsSome (walk N.table (stop_at N.table t found.at) found.target)) q.trip found.walks in
              let w = some (walk N.table (stop_at N.table (segment_of D.segments n).trip found.at) found.target) walks in
              let late = (q.made found.at (omega (arith, found.onward, q.board)) found.within).1 (subst (λ t. MayAlight N.table t found.at) q.trip found.alights) found.target w.0 w.1 in
              best_one v best (late_as v _ _
              (ap (λ z. arrival_at N.table (segment_of D.segments n).trip found.at +ℤ z) (sym (walk_secs-is N.table (stop_at N.table (segment_of D.segments n).trip found.at) found.target w.0 w.1))
              ∙ subst (λ t. (arrival_at N.table t found.at +ℤ walk_secs N.table (stop_at N.table t found.at) found.target) ≡ v.arrive) q.trip found.arrives)
              (sym q.round ∙ found.round)
              (subst (λ s. IsLate (values_at lists s) (arrival_at N.table (segment_of D.segments n).trip found.at +ℤ pos w.0) (round_of D.segments n)) (is_stop found.target found.to) late))

      best_values : AreBestValues N.table To values
      best_values = best_values_from_staircase N.table To values sound (spread.found.attained stop) complete (spread.found.stairs.stairs stop)

  pub reach : IsSound N.table → AreSufficient N.table N.hops → IsReach N.table from leave lists
  reach sound sufficient = record { each_stop = spread.found.each_stop; best = λ stop inside. best_values stop sound sufficient }

-- the same of a search that was refused nothing
pub reach_if_granted : (N : NetData) (Q : QueryData) (D : DeskData) (rounds : ℕ) → IsRidden N Q D (length D.segments) rounds → Q.to ≡ [] → (refused : Bool) (lists : List (List Value)) → refused ≡ false
    → ((n i : ℕ) → n < length D.segments → Covers D n i → IsMetUnlessHit N (HoldsAlightingOrRefused refused N.table lists) D n i) → (rides : ℕ) → AreSpreadOrRefused refused N.table Q rides lists → IsSound N.table → AreSufficient N.table N.hops → IsReach N.table Q.from Q.leave lists
reach_if_granted N Q D rounds ridden none refused lists granted met rides spread sound sufficient =
    reach N Q D rounds ridden none lists (λ n i inside covers. elim (met n i inside covers) [
      | inl m ↦ inl (held_of N.table lists (segment_of D.segments n).trip i (round_of D.segments n) refused granted m)
      | inr late ↦ inr late
    ]) rides (spread_of N.table Q rides lists refused granted spread) sound sufficient

-- what holds of each answer that something is known of
pub of_answer : {A E : Type 0} (P R : A → Type 0) → ((x : A) → P x → R x) → (answer : Result A E) → IfOk answer P → IfOk answer R
of_answer P R f (Ok x) h = f x h
of_answer P R f (Err e) h = h
