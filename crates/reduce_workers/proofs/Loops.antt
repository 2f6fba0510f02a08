-- What the loops keep.
use Rattle.std.proofs.Common.{◌-◌, ◌≡◌, ℕ, zero, suc, ◌+◌, ◌<◌, ◌≤◌, List, [], ◌∷◌, ◌++◌, All, length, sum_by, map, ap, ◌∙◌, subst, arith, length-append, get_or}
use Rattle.std.proofs.lemmas.List.Sums.{sum_by-append, sum_by-cons}
use Rattle.std.proofs.lemmas.List.{map-append}
use mathlib.Core.Option.{some}
use lib.ListN.{get_elem?}
use Rattle.atomic_table.specs.Table.{Me, State}
use Rattle.atomic_table.specs.Seated.{TableId}
use Rattle.reduce_workers.specs.declared.rule.Hand.{Hand}
use Rattle.reduce_workers.specs.Claim.{hand, times, same, once_below, Ruled, together}
use Rattle.reduce_workers.specs.Seats.{ClaimData, SeatData, IsOpen, IsDone, drawn_of, EachOnce}
use Rattle.reduce_workers.proofs.Keeps.{gathers}

-- some seats were split off
pub record Made (pieces seats made room : ℕ) (z : TableId) (key : ℕ × ℕ) (own : TableId) (me : Me ℕ Hand) (row : List SeatData) : Type 0 where
  pub within : made ≤ seats
  pub many : length row ≡ made
  pub has_room : seats ≤ room
  pub words : (z.words ≡ 1) × (z.slots ≡ 0)
  pub told : key ≡ (pieces, seats)
  pub same_table : own ≡ z
  pub maker : me ≡ (hand pieces [] (seats - made) 0, [])
  pub all : All (IsOpen (record { table = z; pieces = pieces; seats = seats }) []) row

-- the first seat took back some, and these are left
pub record Joined (c : ClaimData) (z : TableId) (key : ℕ × ℕ) (own : TableId) (me : Me ℕ Hand) (left all : List SeatData) : Type 0 where
  pub words : (z.words ≡ 1) × (z.slots ≡ 0)
  pub told : (z ≡ c.table) × (key.0 ≡ c.pieces)
  pub same_table : own ≡ z
  pub free : me.1 ≡ []
  pub seats : me.0.seats + length left ≡ key.1
  pub past : 0 < me.0.past
  pub done : All (IsDone c) left
  pub each : (x : ℕ) → times x me.0.drawn + sum_by (times x) (map drawn_of left) ≡ sum_by (times x) (map drawn_of all)

all_tail : {X : Type 0} (P : X → Type 0) (x : X) (xs : List X) → All P (x ∷ xs) → All P xs
all_tail P x xs h k d lt = h (suc k) d (omega arith)

pub all_last : {X : Type 0} (P : X → Type 0) (xs : List X) (x : X) → All P (xs ++ x ∷ []) → P x
all_last P [] x h = h 0 x (omega arith)
all_last P (y ∷ xs) x h = all_last P xs x (all_tail P y (xs ++ x ∷ []) h)

pub all_front : {X : Type 0} (P : X → Type 0) (xs ys : List X) → All P (xs ++ ys) → All P xs
all_front P [] ys h k d lt = absurd (omega arith)
all_front P (y ∷ xs) ys h zero d lt = h 0 d (let e = length-append xs ys in omega arith)
all_front P (y ∷ xs) ys h (suc k) d lt = all_front P xs ys (all_tail P y (xs ++ ys) h) k d (omega arith)

one_only : {X : Type 0} (s : X) (P : X → Type 0) → P s → (i : ℕ) → i < length (s ∷ []) → P (get_or (s ∷ []) i s)
one_only s P h zero lt = h
one_only s P h (suc i) lt = absurd (omega arith)

pub joined_more : (c : ClaimData) (z : TableId) (key : ℕ × ℕ) (own : TableId) (me : Me ℕ Hand) (before left all : List SeatData) (s : SeatData)
    → Joined c z key own me before all → before ≡ left ++ s ∷ [] → Joined c z key own (together me.0 s.hand, me.1) left all
joined_more c z key own me before left all s i split =
    let done : All (IsDone c) (left ++ s ∷ []) = subst (All (IsDone c)) split i.done in
    let mine = all_last (IsDone c) left s done in
    let one : s.hand.seats ≡ 1 = ap (λ (m : Hand). m.seats) mine.1 in
    let seats = i.seats in
    let past = i.past in
    let len : length before ≡ length left + 1 = ap length split ∙ length-append left (s ∷ []) in
    record {
      words = i.words;
      told = i.told;
      same_table = i.same_table;
      free = i.free;
      seats = omega arith;
      past = omega arith;
      done = all_front (IsDone c) left (s ∷ []) done;
      each = λ x.
          let e = i.each x in
          let lists : map drawn_of before ≡ map drawn_of left ++ drawn_of s ∷ [] = ap (map drawn_of) split ∙ map-append drawn_of left (s ∷ []) in
          let sums : sum_by (times x) (map drawn_of before) ≡ sum_by (times x) (map drawn_of left) + sum_by (times x) (drawn_of s ∷ []) = ap (sum_by (times x)) lists ∙ sum_by-append (times x) (map drawn_of left) (drawn_of s ∷ []) in
          let single = sum_by-cons (times x) (drawn_of s) [] in
          let both : times x (me.0.drawn ++ drawn_of s) ≡ times x me.0.drawn + times x (drawn_of s) = sum_by-append (same x) me.0.drawn (drawn_of s) in
          omega arith;
    }

pub gathered : (c : ClaimData) (z : TableId) (key : ℕ × ℕ) (own : TableId) (me : Me ℕ Hand) (left all : List SeatData) (s : State ℕ Hand) (id : ℕ)
    → Joined c z key own me left all → length left ≡ 0 → Ruled key s → get_elem? s.views id ≡ some me.0 → EachOnce c.pieces (map drawn_of all)
gathered c z key own me [] all s id i none h at x =
    let e = i.each x in
    let seats = i.seats in
    let g = gathers key s id me.0 h at (omega arith) i.past x in
    let told : once_below x key.0 ≡ once_below x c.pieces = ap (once_below x) i.told.1 in
    omega arith
gathered c z key own me (l ∷ left) all s id i none h at x = absurd (omega arith)
