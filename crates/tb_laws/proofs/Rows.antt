-- Small feeds, on which the definitions are tried.
use Rattle.std.proofs.Common.{◌≡◌, ℕ, List, [], ◌∷◌, ◌++◌, refl, true, false, inl, inr, Some, pos, fold, ◌*◌}
use Rattle.tb_base.specs.declared.days.ServiceDay.TheVariants as day
use Rattle.tb_base.specs.declared.table.Event.{Event}
use Rattle.tb_base.specs.declared.table.Stop.{Stop}
use Rattle.tb_base.specs.TimetableData.{TripData, TimetableData}
use Rattle.std.proofs.Common.{arith}
use Rattle.std.specs.Prelude.{Contains}
use Rattle.tb_base.specs.BestValues.{QueryData, IsAttained}
use Rattle.tb_base.specs.Lines.{place_trip}
use Rattle.tb_base.specs.Transfers.{candidates, is_u_turn, kept_hops, transfers_of}
use Rattle.tb_base.specs.declared.rule.Rule.TheVariants.{WrongEnd}
use Rattle.tb_base.specs.JourneyRules.{BreaksFirst}
use Rattle.tb_base.proofs.Ordered.{Member, Member-from_Contains}

-- an event of a feed without marks, at a time in minutes of the day
abbrev at : ℕ → ℕ → Event
at stop minute = record { stop = stop; arr = pos (60 * minute); dep = pos (60 * minute); board = true; alight = true }

abbrev trip : List Event → TripData
trip es = record { name = []; day = day.Date; events = es }

-- a stop whose name is one letter
abbrev stop : ℕ → Stop
stop letter = record { name = letter ∷ [] }

abbrev feed : List TripData → TimetableData
feed trips = record {
  stops = stop 65 ∷ stop 66 ∷ stop 67 ∷ stop 68 ∷ stop 69 ∷ [];
  stations = [];
  trips = trips;
  footpaths = record {
    change = Some 0 ∷ Some 0 ∷ Some 0 ∷ Some 0 ∷ Some 0 ∷ [];
    paths = [] ∷ [] ∷ [] ∷ [] ∷ [] ∷ [];
  };
}

-- feed U: U2 overtakes
abbrev feed_u : TimetableData
feed_u = feed (trip (at 0 480 ∷ at 1 490 ∷ at 2 520 ∷ []) ∷ trip (at 0 485 ∷ at 1 492 ∷ at 2 510 ∷ []) ∷ [])

lines-u : fold (place_trip feed_u) [] (0 ∷ 1 ∷ []) ≡ (0 ∷ []) ∷ (1 ∷ []) ∷ []
lines-u = refl

candidates-u : candidates feed_u ((0 ∷ []) ∷ (1 ∷ []) ∷ []) 0 1 ≡ record { trip = 1; at = 1 } ∷ []
candidates-u = refl

kept_hops-u : kept_hops feed_u ((0 ∷ []) ∷ (1 ∷ []) ∷ []) 0 1 ++ kept_hops feed_u ((0 ∷ []) ∷ (1 ∷ []) ∷ []) 0 2 ≡ record { trip = 1; at = 1 } ∷ []
kept_hops-u = refl

-- feed V: T1@2 to T4@0 is a U-turn
abbrev feed_v : TimetableData
feed_v = feed (trip (at 0 480 ∷ at 1 490 ∷ at 2 495 ∷ []) ∷ trip (at 2 500 ∷ at 1 505 ∷ at 4 520 ∷ []) ∷ [])

u_turn-v : is_u_turn feed_v 0 2 (record { trip = 1; at = 0 }) ≡ true
u_turn-v = refl

kept_hops-v : kept_hops feed_v ((0 ∷ []) ∷ (1 ∷ []) ∷ []) 0 1 ++ kept_hops feed_v ((0 ∷ []) ∷ (1 ∷ []) ∷ []) 0 2 ≡ record { trip = 1; at = 1 } ∷ []
kept_hops-v = refl

-- feed X: the change at B is not kept
abbrev feed_x : TimetableData
feed_x = feed (trip (at 0 480 ∷ at 1 490 ∷ at 2 500 ∷ []) ∷ trip (at 1 510 ∷ at 2 515 ∷ at 3 530 ∷ []) ∷ [])

candidates-x : candidates feed_x ((0 ∷ []) ∷ (1 ∷ []) ∷ []) 0 1 ++ candidates feed_x ((0 ∷ []) ∷ (1 ∷ []) ∷ []) 0 2 ≡ record { trip = 1; at = 0 } ∷ record { trip = 1; at = 1 } ∷ []
candidates-x = refl

kept_hops-x : kept_hops feed_x ((0 ∷ []) ∷ (1 ∷ []) ∷ []) 0 1 ++ kept_hops feed_x ((0 ∷ []) ∷ (1 ∷ []) ∷ []) 0 2 ≡ record { trip = 1; at = 1 } ∷ []
kept_hops-x = refl

-- feed F1, from A to D at 08:00:00
abbrev feed_1 : TimetableData
feed_1 = feed (trip (at 0 480 ∷ at 1 490 ∷ at 2 500 ∷ []) ∷ trip (at 1 492 ∷ at 3 510 ∷ []) ∷ trip (at 0 485 ∷ at 3 530 ∷ []) ∷ [])

abbrev query_1 : QueryData
query_1 = record { from = 0 ∷ []; to = 3 ∷ []; leave = pos (60 * 480) }

one_of : (x : ℕ) → Contains (x ∷ []) x
one_of x = (0, omega arith, refl)

-- by T3 alone, at 08:50:00
by_t3 : IsAttained feed_1 query_1 (record { arrive = pos (60 * 530); rides = 1 })
by_t3 = (
  record { origin = 0; rides = record { trip = 2; board = 0; alight = 1 } ∷ []; target = 3 },
  record {
    journey = record { origin = one_of 0; target = one_of 3; leads = (refl, record { onward = omega arith; boards = refl; alights = refl }, refl) };
    leaves = record { le = tt };
    value = refl;
  },
)

-- by T1 and T2, at 08:30:00
by_t1_t2 : IsAttained feed_1 query_1 (record { arrive = pos (60 * 510); rides = 2 })
by_t1_t2 = (
  record { origin = 0; rides = record { trip = 0; board = 0; alight = 1 } ∷ record { trip = 1; board = 0; alight = 1 } ∷ []; target = 3 },
  record {
    journey = record {
      origin = one_of 0;
      target = one_of 3;
      leads = (
        refl,
        record { onward = omega arith; boards = refl; alights = refl },
        (record { le = tt }, record { onward = omega arith; boards = refl; alights = refl }, refl),
      );
    };
    leaves = record { le = tt };
    value = refl;
  },
)

lines-1 : fold (place_trip feed_1) [] (0 ∷ 2 ∷ 1 ∷ []) ≡ (0 ∷ []) ∷ (2 ∷ []) ∷ (1 ∷ []) ∷ []
lines-1 = refl

kept_hops-1 : kept_hops feed_1 ((0 ∷ []) ∷ (2 ∷ []) ∷ (1 ∷ []) ∷ []) 0 1 ≡ record { trip = 1; at = 0 } ∷ []
kept_hops-1 = refl

-- Stops P, Q and R, a footpath from R to Q, and a change time at Q: t goes from P to R, and u from R to Q.
abbrev feed_pqr : ℕ → ℕ → TimetableData
feed_pqr secs at_q = record {
  stops = stop 80 ∷ stop 81 ∷ stop 82 ∷ [];
  stations = [];
  trips = trip (at 0 480 ∷ at 2 490 ∷ []) ∷ trip (at 2 490 ∷ at 1 491 ∷ []) ∷ [];
  footpaths = record {
    change = Some 0 ∷ Some at_q ∷ Some 0 ∷ [];
    paths = [] ∷ [] ∷ (record { to = 1; secs = secs } ∷ []) ∷ [];
  };
}

lines-pqr : fold (place_trip (feed_pqr 60 0)) [] (0 ∷ 1 ∷ []) ≡ (0 ∷ []) ∷ (1 ∷ []) ∷ []
lines-pqr = refl

candidates-pqr : candidates (feed_pqr 60 30) ((0 ∷ []) ∷ (1 ∷ []) ∷ []) 0 1 ≡ record { trip = 1; at = 0 } ∷ []
candidates-pqr = refl

kept_hops-pqr_60_0 : kept_hops (feed_pqr 60 0) ((0 ∷ []) ∷ (1 ∷ []) ∷ []) 0 1 ≡ []
kept_hops-pqr_60_0 = refl

kept_hops-pqr_60_30 : kept_hops (feed_pqr 60 30) ((0 ∷ []) ∷ (1 ∷ []) ∷ []) 0 1 ≡ []
kept_hops-pqr_60_30 = refl

kept_hops-pqr_120_0 : kept_hops (feed_pqr 120 0) ((0 ∷ []) ∷ (1 ∷ []) ∷ []) 0 1 ≡ record { trip = 1; at = 0 } ∷ []
kept_hops-pqr_120_0 = refl

kept_hops-pqr_120_60 : kept_hops (feed_pqr 120 60) ((0 ∷ []) ∷ (1 ∷ []) ∷ []) 0 1 ≡ record { trip = 1; at = 0 } ∷ []
kept_hops-pqr_120_60 = refl

-- no footpath: v is left at Q earlier than t
abbrev feed_v_pqr : TimetableData
feed_v_pqr = feed (trip (at 0 480 ∷ at 2 490 ∷ at 1 510 ∷ []) ∷ trip (at 2 490 ∷ at 1 500 ∷ at 2 520 ∷ []) ∷ [])

kept_hops-v_pqr : kept_hops feed_v_pqr ((0 ∷ []) ∷ (1 ∷ []) ∷ []) 0 1 ++ kept_hops feed_v_pqr ((0 ∷ []) ∷ (1 ∷ []) ∷ []) 0 2 ≡ record { trip = 1; at = 0 } ∷ []
kept_hops-v_pqr = refl

-- the transfers of a trip run from its last event down
candidate_transfers-x : transfers_of feed_x (candidates feed_x ((0 ∷ []) ∷ (1 ∷ []) ∷ []) 0) 0 ≡ record { trip = 0; at = 2; to_trip = 1; to_at = 1 } ∷ record { trip = 0; at = 1; to_trip = 1; to_at = 0 } ∷ []
candidate_transfers-x = refl

kept_transfers-x : transfers_of feed_x (kept_hops feed_x ((0 ∷ []) ∷ (1 ∷ []) ∷ []) 0) 0 ≡ record { trip = 0; at = 2; to_trip = 1; to_at = 1 } ∷ []
kept_transfers-x = refl

-- at a trip's first event there is no U-turn
u_turn-first : is_u_turn (feed (trip (at 0 0 ∷ at 1 10 ∷ []) ∷ trip (at 1 5 ∷ at 0 30 ∷ []) ∷ [])) 0 0 (record { trip = 1; at = 0 }) ≡ false
u_turn-first = refl

-- no legs at all break WrongEnd, where no stop is origin and target
no_legs : BreaksFirst feed_1 query_1 [] 0 WrongEnd
no_legs = (refl, refl, λ p from to. apart p (Member-from_Contains p (0 ∷ []) from) (Member-from_Contains p (3 ∷ []) to))
  where
    apart : (p : ℕ) → Member p (0 ∷ []) → Member p (3 ∷ []) → ⊥
    apart p (inl e) (inl f) = omega (arith, e, f)
    apart p (inl e) (inr k) = absurd k
    apart p (inr h) k = absurd h
