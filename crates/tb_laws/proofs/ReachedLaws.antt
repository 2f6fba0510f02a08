-- What is boarded first, and what a hop leads to, is reached; and what is reached gives journeys.
use Rattle.std.proofs.Common.{◌≡◌, ℕ, suc, ◌<◌, List, [], ◌∷◌, ◌++◌, length, refl, sym, subst, arith, ℤ, pos, ◌+ℤ◌, ◌-ℤ◌, ◌≤ℤ◌, Some, length-append}
use Rattle.std.specs.Prelude.{Contains, IsSome}
use Rattle.std.proofs.lemmas.Int.{ints}
use Rattle.tb_base.specs.declared.transfer.Hop.{Hop}
use Rattle.tb_base.specs.declared.query.Value.{Value}
use Rattle.tb_base.specs.TimetableData.{TimetableData, stop_at, arrival_at, departure_at, MayBoard, MayAlight}
use Rattle.tb_base.specs.Walking.{walk}
use Rattle.tb_base.specs.Journeys.{Ride, Leads, LeavesNoEarlier, walk_secs}
use Rattle.tb_base.specs.BestValues.{QueryData, IsAttained}
use Rattle.tb_base.specs.Sufficiency.{IsPossibleHop}
use Rattle.tb_base.specs.Search.{IsReached}
use Rattle.tb_laws.proofs.Boarding.{reached_leads, to_next, still_leaves}
use Rattle.tb_laws.proofs.Exchange.{arrival-behind}
use Rattle.tb_laws.proofs.Triangles.{walk_secs-is}

module _ (T : TimetableData) (origins : List ℕ) (asked : ℤ) where
  -- a trip that is boarded after a walk from an origin
  pub reached_first : (p t b secs : ℕ) → Contains origins p → MayBoard T t b → walk T p (stop_at T t b) ≡ Some secs → (asked +ℤ pos secs) ≤ℤ departure_at T t b → IsReached T origins asked 1 t b
  reached_first p t b secs from boards walks in_time = record {
    boards = boards;
    origin = p;
    from = from;
    before = [];
    rides = refl;
    leads = subst (λ o. IsSome o) (sym walks) refl;
    leaves = subst (λ z. asked ≤ℤ (departure_at T t b -ℤ z)) (sym (walk_secs-is T p (stop_at T t b) secs walks)) (moved (departure_at T t b) in_time);
  }
    where
      moved : (d : ℤ) → (asked +ℤ pos secs) ≤ℤ d → asked ≤ℤ (d -ℤ pos secs)
      moved d h = omega (arith, ints, h)

  -- a hop from a later event of what is reached
  pub reached_by_hop : (round t b i : ℕ) (h : Hop) → IsReached T origins asked round t b → b < i → IsPossibleHop T t i h → IsReached T origins asked (suc round) h.trip h.at
  reached_by_hop round t b i h r onward possible = record {
    boards = possible.boards;
    origin = r.origin;
    from = r.from;
    before = r.before ++ here ∷ [];
    rides = omega (arith, r.rides, length-append r.before (here ∷ []));
    leads = to_next T t b i h.trip h.at (record { onward = onward; boards = r.boards; alights = possible.alights }) possible.in_time r.origin r.before r.leads;
    leaves = still_leaves T asked r.origin r.before t b i h.trip h.at r.leaves;
  }
    where
      here : Ride
      here = record { trip = t; board = b; alight = i }

  -- to alight from what is reached, and walk to a target, is a journey with as many rides as the round
  pub reached_value : (Q : QueryData) → Q.from ≡ origins → Q.leave ≡ asked → (round t b i target : ℕ) → IsReached T origins asked round t b → b < i → MayAlight T t i → Contains Q.to target → IsSome (walk T (stop_at T t i) target) →
      IsAttained T Q (record { arrive = arrival_at T t i +ℤ walk_secs T (stop_at T t i) target; rides = round })
  reached_value Q e f round t b i target r onward alights to walks =
      let led : Leads T r.origin (r.before ++ record { trip = t; board = b; alight = i } ∷ []) target × LeavesNoEarlier T asked r.origin (r.before ++ record { trip = t; board = b; alight = i } ∷ [])
      = reached_leads T origins asked round t b r i [] target (record { onward = onward; boards = r.boards; alights = alights }) walks in
      let long : length (r.before ++ record { trip = t; board = b; alight = i } ∷ []) ≡ round = omega (arith, r.rides, length-append r.before (record { trip = t; board = b; alight = i } ∷ [])) in (
        record { origin = r.origin; rides = r.before ++ record { trip = t; board = b; alight = i } ∷ []; target = target },
        record {
          journey = record { origin = subst (λ os. Contains os r.origin) (sym e) r.from; target = to; leads = led.0 };
          leaves = subst (λ a. LeavesNoEarlier T a r.origin (r.before ++ record { trip = t; board = b; alight = i } ∷ [])) (sym f) led.1;
          value = same _ _ _ _ (sym (arrival-behind T Q.leave r.origin r.before (record { trip = t; board = b; alight = i }) [] target)) (sym long);
        },
      )
    where
      same : (a a' : ℤ) (n n' : ℕ) → a ≡ a' → n ≡ n' → ◌≡◌ {A = Value} (record { arrive = a; rides = n }) (record { arrive = a'; rides = n' })
      same a a' n n' e f = cc
