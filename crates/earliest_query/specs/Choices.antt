-- Which stops a search boards at, and what it makes of an event where one may alight.
use Rattle.std.specs.Prelude.{◌≡◌, ℕ, ◌+◌, ◌-◌, ◌<◌, ◌≤◌, ◌==◌, ◌⊎◌, List, [], ◌∷◌, Option, None, Some, length, filter, sum_by, slice_index, slice_index_or, slice_get, All, nat_le, if◌then◌else◌, Bool, IsTrue, IfSome, IsSomeAnd, is_some, Contains, ℤ, pos, ◌+ℤ◌, ◌≤ℤ◌, ◌<ℤ◌, int_lt}
use Rattle.std.specs.List.{list_any}
use Rattle.std.specs.Option.{option_map}
use Rattle.tb_base.specs.Network.{NetData}
use Rattle.tb_base.specs.declared.table.Path.{Path}
use Rattle.tb_base.specs.TimetableData.{TimetableData, event_total}
use Rattle.tb_base.specs.Transfers.{numbers_below}
use Rattle.tb_base.specs.Walking.{walk}
use Rattle.tb_base.specs.BestValues.{QueryData}
use Rattle.segment_queue.specs.declared.desk.Hit.{Hit}
use Rattle.segment_queue.specs.declared.desk.LastLeg.TheVariants.{Aboard, OnFoot}
use Rattle.segment_queue.specs.Scans.{line_indices_at}

-- a target with a walk from the stop, than which none is nearer
pub record IsNearestTarget (T : TimetableData) (p : ℕ) (targets : List ℕ)
    (to secs : ℕ) : Type 0 where
  pub target : Contains targets to
  pub walks : walk T p to ≡ Some secs
  pub nearest : (q s : ℕ) → Contains targets q → walk T p q ≡ Some s → secs ≤ s

-- the nearest target, and none where none has a walk from the stop
abbrev pub IsNearest : TimetableData → ℕ → List ℕ → Option Path → Type 0
IsNearest T p targets None = (q s : ℕ) → Contains targets q → walk T p q ≡ Some s → ⊥
IsNearest T p targets (Some f) = IsNearestTarget T p targets f.to f.secs

-- all these stops are of this group
abbrev pub AreOfGroup : List ℕ → ℕ → List ℕ → Type 0
AreOfGroup groups group stops = All (λ p. slice_get groups p ≡ Some group) stops

-- where there is such a group, the walks to these targets begin at stops of it alone
abbrev pub LeadFromGroup : TimetableData → List ℕ → List ℕ → Option ℕ → Type 0
LeadFromGroup T targets groups group = (g p q secs : ℕ) → group ≡ Some g → p < length T.stops →
    Contains targets q → walk T p q ≡ Some secs → slice_index_or groups p 0 ≡ g

-- a stop is boarded from the origin at this place, after a walk of so many seconds: no origin is
-- nearer to it, and none before it as near
pub record IsFirstChoice (T : TimetableData) (origins : List ℕ) (place stop secs : ℕ) : Type 0 where
  pub nearest : (b s : ℕ) → b < length origins →
      walk T (slice_index origins b) stop ≡ Some s → secs ≤ s
  pub first : (b s : ℕ) → b < place → walk T (slice_index origins b) stop ≡ Some s → secs < s

-- an origin has a walk of so many seconds to the stop
pub record IsNear (T : TimetableData) (origins : List ℕ) (stop secs : ℕ) : Type 0 where
  pub origin : ℕ
  pub from : Contains origins origin
  pub walks : walk T origin stop ≡ Some secs

-- the stops with a walk from an origin
abbrev pub stops_near : TimetableData → List ℕ → List ℕ
stops_near T origins =
    filter (λ p. list_any (λ o. is_some (walk T o p)) origins) (numbers_below (length T.stops))

-- how many line indices are at the stops with a walk from an origin, each stop counted once
abbrev pub lines_near : NetData → List ℕ → ℕ
lines_near N origins =
    sum_by (λ p. length (line_indices_at N.table N.lines p)) (stops_near N.table origins)

-- the most looks of a search from these stops: one at each event, and one at each line index of the
-- stops with a walk from an origin
abbrev pub search_looks : NetData → List ℕ → ℕ
search_looks N origins = event_total N.table + lines_near N origins

-- when the best hit so far arrives
abbrev pub arrival_of : Option Hit → Option ℤ
arrival_of best = option_map (λ (h : Hit). h.value.arrive) best

-- the best hit so far arrives no later than this
abbrev pub ArrivesBy : Option Hit → ℤ → Type 0
ArrivesBy best time = IsSomeAnd (arrival_of best) (λ a. a ≤ℤ time)

-- a hit that alights from segment n at index i, in time to be the best
pub record IsBetterHit (T : TimetableData) (Q : QueryData) (stop : ℕ) (arr : ℤ) (n i round : ℕ)
    (best : Option Hit) (h : Hit) : Type 0 where
  pub to : ℕ
  pub secs : ℕ
  pub target : IsNearestTarget T stop Q.to to secs
  pub is : h ≡ record {
    value = record { arrive = arr +ℤ pos secs; rides = round };
    last = Aboard n i to;
  }
  pub sooner : IfSome best (λ b. h.value.arrive <ℤ b.value.arrive)

-- the best hit, once it has been weighed to alight there
pub record IsWeighed (T : TimetableData) (Q : QueryData) (stop : ℕ) (arr : ℤ) (alight : Bool)
    (n i round : ℕ) (best result : Option Hit) : Type 0 where
  pub kept : (result ≡ best)
      ⊎ (IsTrue alight × IsSomeAnd result (IsBetterHit T Q stop arr n i round best))
  pub bounded : IsTrue alight → (q s : ℕ) → Contains Q.to q → walk T stop q ≡ Some s →
      ArrivesBy result (arr +ℤ pos s)

-- the nearer of two, the first where they are as near
abbrev pub nearer_of : Option Path → ℕ → Option ℕ → Option Path
nearer_of best to None = best
nearer_of None to (Some secs) = Some (record { to = to; secs = secs })
nearer_of (Some f) to (Some secs) = if nat_le f.secs secs then Some f
    else Some (record { to = to; secs = secs })

-- a walk is preferred to one of so many seconds: it is shorter, or as long and comes before
abbrev pub IsPreferred : Option ℕ → ℕ → Bool → Type 0
IsPreferred None secs before = ⊥
IsPreferred (Some s) secs before = (s < secs) ⊎ (IsTrue before × (s ≡ secs))

-- the earlier of the best hit so far and another
abbrev pub earlier_hit : Option Hit → Hit → Option Hit
earlier_hit None h = Some h
earlier_hit (Some b) h = if int_lt h.value.arrive b.value.arrive then Some h else Some b

-- to alight at an event of a segment, and to walk on by this path
abbrev pub alighting_hit : ℤ → Path → ℕ → ℕ → ℕ → Hit
alighting_hit arr f n i round =
    record { value = record { arrive = arr +ℤ pos f.secs; rides = round }; last = Aboard n i f.to }

-- a walk from an origin by this path
abbrev pub walking_hit : ℤ → ℕ → Path → Hit
walking_hit leave origin f =
    record { value = record { arrive = leave +ℤ pos f.secs; rides = 0 }; last = OnFoot origin f.to }

-- the best walk, once the walks from an origin have been weighed
pub record IsWalked (T : TimetableData) (Q : QueryData) (origin : ℕ)
    (best result : Option Hit) : Type 0 where
  pub kept : (result ≡ best)
      ⊎ IsSomeAnd result (λ h. (f : Path) × IsNearestTarget T origin Q.to f.to f.secs
      × (h ≡ walking_hit Q.leave origin f))
  pub bounded : (q s : ℕ) → Contains Q.to q → walk T origin q ≡ Some s →
      ArrivesBy result (Q.leave +ℤ pos s)
  pub still : (time : ℤ) → ArrivesBy best time → ArrivesBy result time

-- the last hit
abbrev pub last_of : List Hit → Option Hit
last_of hits = slice_get hits (length hits - 1)

-- the hit, if it is of this round
abbrev pub hits_of : ℕ → Option Hit → List Hit
hits_of round None = []
hits_of round (Some h) = if h.value.rides == round then h ∷ [] else []
