-- Rides that lead to boarding a trip lead on with any ride on it.
use Rattle.std.proofs.Common.{ℕ, List, [], ◌∷◌, ◌++◌, ℤ}
use Rattle.tb_base.specs.TimetableData.{TimetableData}
use Rattle.tb_base.specs.Journeys.{Ride, IsRide, LeadsOn, Leads, LeavesNoEarlier}
use Rattle.tb_base.specs.Search.{LeadsOnToBoarding, LeadsToBoarding, BoardsFrom, IsReached}

module _ (T : TimetableData) (t b i : ℕ) (rest : List Ride) (target : ℕ) (ride : IsRide T (record { trip = t; board = b; alight = i })) (on : LeadsOn T (record { trip = t; board = b; alight = i }) rest target) where
  on_from_boarding : (r : Ride) (before : List Ride) → LeadsOnToBoarding T r before t b → LeadsOn T r (before ++ record { trip = t; board = b; alight = i } ∷ rest) target
  on_from_boarding r [] h = (h, ride, on)
  on_from_boarding r (s ∷ before) h = (h.0, h.1, on_from_boarding s before h.2)

  pub from_boarding : (origin : ℕ) (before : List Ride) → LeadsToBoarding T origin before t b → Leads T origin (before ++ record { trip = t; board = b; alight = i } ∷ rest) target
  from_boarding origin [] h = (h, ride, on)
  from_boarding origin (r ∷ before) h = (h.0, h.1, on_from_boarding r before h.2)

leaves_boarding : (T : TimetableData) (asked : ℤ) (origin : ℕ) (before : List Ride) (t b i : ℕ) (rest : List Ride) → BoardsFrom T asked origin before t b → LeavesNoEarlier T asked origin (before ++ record { trip = t; board = b; alight = i } ∷ rest)
leaves_boarding T asked origin [] t b i rest h = h
leaves_boarding T asked origin (r ∷ before) t b i rest h = h

-- what is reached leads on with any way on from it
pub reached_leads : (T : TimetableData) (origins : List ℕ) (asked : ℤ) (round t b : ℕ) → (r : IsReached T origins asked round t b) → (i : ℕ) (rest : List Ride) (target : ℕ) → IsRide T (record { trip = t; board = b; alight = i }) → LeadsOn T (record { trip = t; board = b; alight = i }) rest target →
    Leads T r.origin (r.before ++ record { trip = t; board = b; alight = i } ∷ rest) target × LeavesNoEarlier T asked r.origin (r.before ++ record { trip = t; board = b; alight = i } ∷ rest)
reached_leads T origins asked round t b r i rest target ride on = (from_boarding T t b i rest target ride on r.origin r.before r.leads, leaves_boarding T asked r.origin r.before t b i rest r.leaves)

-- a ride on it, and a change to another trip, lead to boarding that one
module _ (T : TimetableData) (t b i u j : ℕ) (ride : IsRide T (record { trip = t; board = b; alight = i })) (change : LeadsOnToBoarding T (record { trip = t; board = b; alight = i }) [] u j) where
  on_to_next : (r : Ride) (before : List Ride) → LeadsOnToBoarding T r before t b → LeadsOnToBoarding T r (before ++ record { trip = t; board = b; alight = i } ∷ []) u j
  on_to_next r [] h = (h, ride, change)
  on_to_next r (s ∷ before) h = (h.0, h.1, on_to_next s before h.2)

  pub to_next : (origin : ℕ) (before : List Ride) → LeadsToBoarding T origin before t b → LeadsToBoarding T origin (before ++ record { trip = t; board = b; alight = i } ∷ []) u j
  to_next origin [] h = (h, ride, change)
  to_next origin (r ∷ before) h = (h.0, h.1, on_to_next r before h.2)

pub still_leaves : (T : TimetableData) (asked : ℤ) (origin : ℕ) (before : List Ride) (t b i u j : ℕ) → BoardsFrom T asked origin before t b → BoardsFrom T asked origin (before ++ record { trip = t; board = b; alight = i } ∷ []) u j
still_leaves T asked origin [] t b i u j h = h
still_leaves T asked origin (r ∷ before) t b i u j h = h
