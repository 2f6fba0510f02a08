-- Each segment of a queue leads back to an origin, and so does each hit.
use Rattle.std.proofs.Common.{◌≡◌, ◌∙◌, ℕ, zero, suc, ◌<◌, List, [], ◌∷◌, length, refl, sym, ap, subst, arith, Option, Some, None, ℤ, ◌+ℤ◌}
use Rattle.std.specs.Prelude.{All, Contains, IsSome}
use Rattle.std.proofs.lemmas.List.Elements.{All-head}
use Rattle.tb_base.specs.declared.query.Value.{Value}
use Rattle.tb_base.specs.TimetableData.{TimetableData, arrival_at, stop_at}
use Rattle.tb_base.specs.BestValues.{IsAttained, QueryData}
use Rattle.tb_base.specs.Search.{IsReached}
use Rattle.tb_laws.proofs.ReachedLaws.{reached_by_hop, reached_first, reached_value}
use Rattle.tb_laws.proofs.Triangles.{walk_secs-is}
use Rattle.segment_queue.specs.declared.desk.Segment.{Segment}
use Rattle.segment_queue.specs.declared.desk.Hit.{Hit}
use Rattle.segment_queue.specs.declared.desk.LastLeg.{LastLeg}
use Rattle.segment_queue.specs.declared.desk.LastLeg.TheVariants.{OnFoot, Aboard}
use Rattle.segment_queue.specs.Traced.{IsEntered, IsTracedBy, IsTracedHit, round_of, segment_of}
use Rattle.segment_queue.proofs.Rounds.{round_behind}
use Rattle.tb_base.proofs.Values.{value_is}

pub same_values : (a b : ℤ) (m n : ℕ) → a ≡ b → m ≡ n → ◌≡◌ {A = Value} (record { arrive = a; rides = m }) (record { arrive = b; rides = n })
same_values a b m n e f = cc

module _ (T : TimetableData) (Q : QueryData) (segments : List Segment) (entered : (n : ℕ) → n < length segments → IsEntered T Q segments n (segment_of segments n).parent (segment_of segments n).trip (segment_of segments n).board) where
  abbrev Reached : ℕ → Type 0
  Reached n = IsReached T Q.from Q.leave (round_of segments n) (segment_of segments n).trip (segment_of segments n).board

  -- each segment leads back to an origin
  reached_below : (bound n : ℕ) → n < bound → n < length segments → Reached n
  reached_below zero n small inside = absurd (omega (arith, small))
  reached_below (suc b) n small inside = by_parent (segment_of segments n).parent refl (entered n inside) (λ m below. reached_below b m (omega (arith, small, below)) (omega (arith, below, inside)))
    where
      by_parent : (o : Option (ℕ × ℕ)) → (segment_of segments n).parent ≡ o → IsEntered T Q segments n o (segment_of segments n).trip (segment_of segments n).board → ((m : ℕ) → m < n → Reached m) → Reached n
      by_parent None is e earlier =
          subst (λ r. IsReached T Q.from Q.leave r (segment_of segments n).trip (segment_of segments n).board) (sym (round_behind segments n inside None is tt))
          (reached_first T Q.from Q.leave e.origin (segment_of segments n).trip (segment_of segments n).board e.secs e.from e.boards e.walks e.in_time)
      by_parent (Some p) is e earlier =
          subst (λ r. IsReached T Q.from Q.leave r (segment_of segments n).trip (segment_of segments n).board) (sym (round_behind segments n inside (Some p) is e.earlier))
          (reached_by_hop T Q.from Q.leave (round_of segments p.0) (segment_of segments p.0).trip (segment_of segments p.0).board p.1 (record { trip = (segment_of segments n).trip; at = (segment_of segments n).board }) (earlier p.0 e.earlier) e.onward e.possible)

  pub reached_all : (n : ℕ) → n < length segments → Reached n
  reached_all n inside = reached_below (suc n) n (omega arith) inside

  -- the value of a hit that leads back to an origin is attained
  pub hit_attained : (h : Hit) → IsTracedHit T Q segments h → IsAttained T Q h.value
  hit_attained h traced = by_leg h.last traced
    where
      by_leg : (last : LastLeg) → IsTracedBy T Q segments last h.value.arrive h.value.rides → IsAttained T Q h.value
      by_leg (OnFoot from to) k = (
        record { origin = from; rides = []; target = to },
        record {
          journey = record { origin = k.origin; target = k.target; leads = subst (λ o. IsSome o) (sym k.walks) refl };
          leaves = tt;
          value = value_is h.value _ _ (k.arrives ∙ ap (λ z. Q.leave +ℤ z) (sym (walk_secs-is T from to k.secs k.walks))) k.no_ride;
        },
      )
      by_leg (Aboard n i to) k =
          subst (IsAttained T Q) (sym (value_is h.value _ _ (k.arrives ∙ ap (λ z. arrival_at T (segment_of segments n).trip i +ℤ z) (sym (walk_secs-is T (stop_at T (segment_of segments n).trip i) to k.secs k.walks))) k.rounds))
          (reached_value T Q.from Q.leave Q refl refl (round_of segments n) (segment_of segments n).trip (segment_of segments n).board i to (reached_all n k.inside) k.onward k.alights k.target (subst (λ o. IsSome o) (sym k.walks) refl))

-- where there is no target there is no hit
pub no_hits : (T : TimetableData) (Q : QueryData) (segments : List Segment) (hits : List Hit) → All (IsTracedHit T Q segments) hits → Q.to ≡ [] → hits ≡ []
no_hits T Q segments [] all none = refl
no_hits T Q segments (h ∷ hits) all none = absurd (by_leg h.last (All-head (IsTracedHit T Q segments) h hits all))
  where
    in_none : (q : ℕ) → Contains [] q → ⊥
    in_none q (k, inside, is) = omega (arith, inside)

    nowhere : (q : ℕ) → Contains Q.to q → ⊥
    nowhere q c = in_none q (subst (λ (stops : List ℕ). Contains stops q) none c)

    by_leg : (last : LastLeg) → IsTracedBy T Q segments last h.value.arrive h.value.rides → ⊥
    by_leg (OnFoot from to) k = nowhere to k.target
    by_leg (Aboard n i to) k = nowhere to k.target
