-- The rule of a claim: what its word and the views of its seats are between any two steps.
use Rattle.std.specs.Prelude.{◌≡◌, ℕ, ◌+◌, ◌-◌, ◌<◌, ◌≤◌, min, List, [], ◌∷◌, ◌++◌, length, sum_by, nat_lt, eqb, if◌then◌else◌, All}
use mathlib.Core.Option.{some}
use lib.ListN.{get_elem?}
use Rattle.atomic_table.specs.Table.{State, Step, Me}
use Rattle.reduce_workers.specs.declared.rule.Hand.{Hand}

-- of so many pieces, these drawn, standing for so many seats, with so many draws past the end
abbrev pub hand : ℕ → List ℕ → ℕ → ℕ → Hand
hand p xs n k = record { pieces = p; drawn = xs; seats = n; past = k }

-- 1 where the two numbers are one, and else 0
abbrev pub same : ℕ → ℕ → ℕ
same x y = if eqb x y then 1 else 0

-- how often x stands in the list
abbrev pub times : ℕ → List ℕ → ℕ
times x xs = sum_by (same x) xs

-- 1 where x is below n, and else 0
abbrev pub once_below : ℕ → ℕ → ℕ
once_below x n = if nat_lt x n then 1 else 0

-- a view's draws past the end are at most its seats, and a view with no seat has drawn nothing
abbrev pub HandFits : Hand → Type 0
HandFits v = (v.past ≤ v.seats) × (v.seats ≡ 0 → v.drawn ≡ [])

abbrev pub AllFit : List Hand → Type 0
AllFit views = (i : ℕ) (v : Hand) → get_elem? views i ≡ some v → HandFits v

-- between any two steps, of a claim of so many pieces and seats
pub record IsRuled (pieces seats word : ℕ) (views : List Hand) : Type 0 where
  -- the word counts all draws
  pub counted : word ≡ sum_by (λ v. length v.drawn) views + sum_by (λ v. v.past) views
  -- the pieces below the word stand in one list each, once, and nothing else in any
  pub once : (x : ℕ) → sum_by (λ v. times x v.drawn) views ≡ once_below x (min word pieces)
  -- so all lists together are as long
  pub whole : sum_by (λ v. length v.drawn) views ≡ min word pieces
  -- past the end is only who finds all pieces drawn
  pub past_end : 0 < sum_by (λ v. v.past) views → pieces < word
  -- no seat is stood for twice
  pub seated : sum_by (λ v. v.seats) views ≤ seats
  pub fits : AllFit views
  pub few : (pieces < 4294967296) × (seats ≤ 64)

-- the same of the state of a table with one word, by the claim's numbers of pieces and seats
abbrev pub Ruled : ℕ × ℕ → State ℕ Hand → Type 0
Ruled key s = (n : ℕ) × (s.words ≡ n ∷ []) × IsRuled key.0 key.1 n s.views

-- at the start one view stands for all seats
abbrev pub first_hand : ℕ × ℕ → Hand
first_hand key = hand key.0 [] key.1 0

-- the view after a draw that found n
abbrev pub after : Hand → ℕ → Hand
after v n =
    if nat_lt n v.pieces then hand v.pieces (v.drawn ++ n ∷ []) v.seats v.past
    else hand v.pieces v.drawn v.seats (v.past + 1)

-- a draw found n, which is greater than all that the seat drew before
abbrev pub drew : Step ℕ → Me ℕ Hand → ℕ → Me ℕ Hand → Type 0
drew s v n w = (w.1 ≡ v.1) × (w.0 ≡ after v.0 n) × All (λ x. x < n) v.0.drawn

-- the view that gives a seat away
abbrev pub fewer : Hand → Hand
fewer v = hand v.pieces v.drawn (v.seats - 1) v.past

-- the view of the seat that is given away
abbrev pub newcomer : Hand → Hand
newcomer v = hand v.pieces [] 1 0

-- the view that takes another back
abbrev pub together : Hand → Hand → Hand
together v w = hand v.pieces (v.drawn ++ w.drawn) (v.seats + w.seats) (v.past + w.past)

-- the view that was taken back
abbrev pub spent : Hand
spent = hand 0 [] 0 0
