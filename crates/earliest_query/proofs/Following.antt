-- A hop of the set is followed.
use Rattle.std.proofs.Common.{◌≡◌, ℕ, zero, suc, ◌+◌, ◌<◌, ◌≤◌, ◌⊎◌, inl, inr, List, [], ◌∷◌, length, get_or, refl, sym, ap, subst, arith, Option, Some}
use Rattle.std.specs.Prelude.{Contains, flat_map}
use Rattle.std.specs.List.{range_with_len}
use Rattle.std.proofs.lemmas.List.Elements.{Contains-append_cases, Contains-append_left, Contains-append_right}
use Rattle.tb_base.specs.Network.{NetData}
use Rattle.tb_base.specs.declared.transfer.Hop.{Hop}
use Rattle.tb_base.specs.TimetableData.{TimetableData, event_at, events_of, no_event, no_trip}
use Rattle.tb_base.specs.Soundness.{IsSound, IsSoundEvent, IsSoundTrip}
use Rattle.tb_base.specs.Sufficiency.{AreSufficient, IsPossibleHop}
use Rattle.tb_base.proofs.Events.{MayBoard-inside}
use Rattle.segment_queue.specs.declared.desk.Segment.{Segment}
use Rattle.segment_queue.specs.Queue.{DeskData}
use Rattle.segment_queue.specs.Traced.{IsHoppedOnto, round_of, segment_of}
use Rattle.earliest_query.specs.UnderWay.{Covers, AddsSegments, IsFollowed}
use Rattle.earliest_query.proofs.Growing.{extends-long, extends-reached, extends-round, extends-segment}

-- within a list the default of a look-up does not matter
pub get_or-inside : {X : Type 0} (xs : List X) (k : ℕ) (a b : X) → k < length xs → get_or xs k a ≡ get_or xs k b
get_or-inside [] k a b h = absurd (omega arith)
get_or-inside (x ∷ xs) zero a b h = refl
get_or-inside (x ∷ xs) (suc k) a b h = get_or-inside xs k a b (omega arith)

pub contains_read : {X : Type 0} (xs : List X) (k : ℕ) (x : X) → k < length xs → x ≡ get_or xs k x → Contains xs x
contains_read xs k x inside is = (k, inside, sym is)

pub contains_at : {X : Type 0} (xs : List X) (k : ℕ) (d : X) → k < length xs → Contains xs (get_or xs k d)
contains_at xs k d inside = (k, inside, get_or-inside xs k (get_or xs k d) d inside)

module _ (T : TimetableData) (hops : ℕ → ℕ → List Hop) (D D' : DeskData) (joined n i : ℕ) (h : Hop) (sufficient : AreSufficient T hops) (inside : n < length D.segments) (covers : Covers D n i) (extends : AddsSegments D D' joined) (in_set : Contains (hops (segment_of D.segments n).trip i) h) where
  possible : IsPossibleHop T (segment_of D.segments n).trip i h
  possible = sufficient.possible (segment_of D.segments n).trip i h in_set

  same : segment_of D'.segments n ≡ segment_of D.segments n
  same = extends-segment D D' joined extends n inside

  pub hop_trip : h.trip < length T.trips
  hop_trip = (MayBoard-inside T h.trip h.at possible.boards).0

  pub hop_not_last : h.at + 1 < length (events_of T h.trip)
  hop_not_last = possible.not_last

  pub hop_boards : IsHoppedOnto T D'.segments (length D'.segments) (n, i) h.trip h.at
  hop_boards = record {
    earlier = omega (arith, inside, extends-long D D' joined extends);
    onward = omega (arith, covers.onward, ap (λ (s : Segment). s.board) same);
    within = omega (arith, covers.within, ap (λ (s : Segment). s.end) same);
    possible = subst (λ (s : Segment). IsPossibleHop T s.trip i h) (sym same) possible;
  }

  pub hop_in_set : (p : ℕ × ℕ) → ◌≡◌ {A = Option (ℕ × ℕ)} (Some (n, i)) (Some p) → Contains (hops (segment_of D'.segments p.0).trip p.1) h
  hop_in_set p e =
      let q : ◌≡◌ {A = ℕ × ℕ} (n, i) p = cc in
      subst (λ (r : ℕ × ℕ). Contains (hops (segment_of D'.segments r.0).trip r.1) h) q
      (subst (λ (s : Segment). Contains (hops s.trip i) h) (sym same) in_set)

pub followed-kept : (N : NetData) (D D' : DeskData) (joined n i : ℕ) → AddsSegments D D' joined → n < length D.segments → IsFollowed N D n i → IsFollowed N D' n i
followed-kept N D D' joined n i extends inside followed = λ h in_set.
    let same : segment_of D'.segments n ≡ segment_of D.segments n = extends-segment D D' joined extends n inside in
    let round : round_of D'.segments n ≡ round_of D.segments n = extends-round D D' joined extends n inside in
    extends-reached N.table D D' joined (length D.segments) (length D'.segments) (suc (round_of D.segments n)) (suc (round_of D'.segments n)) h.trip h.at extends
    (followed h (subst (λ (s : Segment). Contains (N.hops s.trip i) h) same in_set)) (omega arith) (extends-long D D' joined extends) (omega (arith, round))

-- an event of a sound timetable
pub sound_event : (T : TimetableData) (t i : ℕ) → IsSound T → t < length T.trips → i < length (events_of T t) → IsSoundEvent (length T.stops) (event_at T t i)
sound_event T t i sound trip event =
    let s : IsSoundTrip (length T.stops) (get_or T.trips t no_trip) = sound.trip t no_trip trip in
    s.events i no_event event

-- each hop of one of the lists is in all of them
pub in_all : (f : ℕ → List Hop) (a n i : ℕ) (h : Hop) → a ≤ i → i < a + n → Contains (f i) h → Contains (flat_map f (range_with_len a n)) h
in_all f a zero i h low high one = absurd (omega (arith, low, high))
in_all f a (suc n) i h low high one = elim (first_or_behind a i low) [
  | inl e ↦ Contains-append_left (f a) (flat_map f (range_with_len (a + 1) n)) h (subst (λ k. Contains (f k) h) e one)
  | inr behind ↦ Contains-append_right (f a) (flat_map f (range_with_len (a + 1) n)) h (in_all f (a + 1) n i h behind (omega (arith, high)) one)
]
  where
    first_or_behind : (a i : ℕ) → a ≤ i → (i ≡ a) ⊎ (a + 1 ≤ i)
    first_or_behind a i h = grind arith

-- a number from one of the lists that a hop is in
pub record IsInOne (f : ℕ → List Hop) (a n : ℕ) (h : Hop) : Type 0 where
  pub at : ℕ
  pub low : a ≤ at
  pub high : at < a + n
  pub one : Contains (f at) h

-- each hop of all lists is in one of them
pub in_one : (f : ℕ → List Hop) (a n : ℕ) (h : Hop) → Contains (flat_map f (range_with_len a n)) h → IsInOne f a n h
in_one f a zero h some = absurd (omega (arith, some.1))
in_one f a (suc n) h some = elim (Contains-append_cases (f a) (flat_map f (range_with_len (a + 1) n)) h some) [
  | inl here ↦ record { at = a; low = omega arith; high = omega arith; one = here }
  | inr behind ↦ (let r : IsInOne f (a + 1) n h = in_one f (a + 1) n h behind in record { at = r.at; low = omega (arith, r.low); high = omega (arith, r.high); one = r.one })
]
