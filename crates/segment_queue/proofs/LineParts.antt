-- The part of a line from one of its trips on.
use Rattle.std.proofs.Common.{◌≡◌, ◌≢◌, ◌∙◌, ℕ, ◌<◌, ◌⊎◌, inl, inr, List, [], ◌∷◌, ◌==◌, true, false, cond, length, refl, sym, ap, subst, arith}
use Rattle.std.specs.Prelude.{All, AllPairs}
use Rattle.std.specs.List.{concat}
use Rattle.std.proofs.lemmas.List.Elements.{All-head, All-tail, All-nil, All-cons}
use Rattle.tb_base.specs.TimetableData.{TimetableData}
use Rattle.tb_base.specs.Transfers.{line_from}
use Rattle.tb_base.specs.Lines.{AreDividedInto, IsTripNoLater}
use Rattle.tb_base.proofs.Ordered.{Member, Member-from_Contains, AllPairs-tail}
use Rattle.tb_base.proofs.Members.{Member-append, Member-left, Member-right}
use Rattle.tb_base.proofs.LineFacts.{MayFollow, no_later}
use Rattle.segment_queue.specs.Scans.{trips_from}
use Rattle.segment_queue.proofs.Distinct.{has, same_or_other, member_or_not, before_member, pairs_from_head, pairs_left, pairs_right, AreDistinct, in_one_part}

pub line_from-same : (t x : ℕ) (xs : List ℕ) → (x == t) ≡ true → line_from t (x ∷ xs) ≡ x ∷ xs
line_from-same t x xs e = ap (λ b. cond b (x ∷ xs) (line_from t xs)) e

pub line_from-other : (t x : ℕ) (xs : List ℕ) → (x == t) ≡ false → line_from t (x ∷ xs) ≡ line_from t xs
line_from-other t x xs e = ap (λ b. cond b (x ∷ xs) (line_from t xs)) e

pub trips_from-here : (line : List ℕ) (lines : List (List ℕ)) (t : ℕ) → has t line ≡ true → trips_from (line ∷ lines) t ≡ line_from t line
trips_from-here line lines t e = ap (λ b. cond b (line_from t line) (trips_from lines t)) e

pub trips_from-past : (line : List ℕ) (lines : List (List ℕ)) (t : ℕ) → has t line ≡ false → trips_from (line ∷ lines) t ≡ trips_from lines t
trips_from-past line lines t e = ap (λ b. cond b (line_from t line) (trips_from lines t)) e

-- the part of a line is of the line
pub member_from : (u t : ℕ) (line : List ℕ) → Member u (line_from t line) → Member u line
member_from u t [] h = h
member_from u t (x ∷ xs) h =
    elim (same_or_other x t) [
      | inl e ↦ subst (λ l. Member u l) (line_from-same t x xs e.1) h
      | inr e ↦ inr (member_from u t xs (subst (λ l. Member u l) (line_from-other t x xs e.1) h))
    ]

pairs_from : (R : ℕ → ℕ → Type 0) (t : ℕ) (line : List ℕ) → AllPairs R line → AllPairs R (line_from t line)
pairs_from R t [] pairs = pairs
pairs_from R t (x ∷ xs) pairs =
    elim (same_or_other x t) [
      | inl e ↦ subst (λ l. AllPairs R l) (sym (line_from-same t x xs e.1)) pairs
      | inr e ↦ subst (λ l. AllPairs R l) (sym (line_from-other t x xs e.1)) (pairs_from R t xs (AllPairs-tail R x xs pairs))
    ]

-- what stands on a line from t on is t, or comes after it
follows : (R : ℕ → ℕ → Type 0) (t u : ℕ) (line : List ℕ) → AllPairs R line → Member u (line_from t line) → (t ≡ u) ⊎ R t u
follows R t u [] pairs h = absurd h
follows R t u (x ∷ xs) pairs h =
    elim (same_or_other x t) [
      | inl e ↦ first e.0 (subst (λ l. Member u l) (line_from-same t x xs e.1) h)
      | inr e ↦ follows R t u xs (AllPairs-tail R x xs pairs) (subst (λ l. Member u l) (line_from-other t x xs e.1) h)
    ]
  where
    first : x ≡ t → Member u (x ∷ xs) → (t ≡ u) ⊎ R t u
    first e (inl f) = inl (sym e ∙ f)
    first e (inr k) = inr (subst (λ y. R y u) e (before_member R x xs u pairs k))

-- a trip of the lines, and those after it, are of the lines
pub member_lines : (u t : ℕ) (lines : List (List ℕ)) → Member u (trips_from lines t) → Member u (concat lines)
member_lines u t [] h = h
member_lines u t (line ∷ lines) h =
    elim (member_or_not t line) [
      | inl e ↦ Member-left u line (concat lines) (member_from u t line (subst (λ l. Member u l) (trips_from-here line lines t e.1) h))
      | inr e ↦ Member-right u line (concat lines) (member_lines u t lines (subst (λ l. Member u l) (trips_from-past line lines t e.1) h))
    ]

-- each trip's part of its line is in an order in which all lines are
pub pairs_of : (R : ℕ → ℕ → Type 0) (t : ℕ) (lines : List (List ℕ)) → All (λ line. AllPairs R line) lines → AllPairs R (trips_from lines t)
pairs_of R t [] ordered = λ i j d before below. absurd (omega (arith, below))
pairs_of R t (line ∷ lines) ordered =
    elim (member_or_not t line) [
      | inl e ↦ subst (λ l. AllPairs R l) (sym (trips_from-here line lines t e.1)) (pairs_from R t line (All-head (λ l. AllPairs R l) line lines ordered))
      | inr e ↦ subst (λ l. AllPairs R l) (sym (trips_from-past line lines t e.1)) (pairs_of R t lines (All-tail (λ l. AllPairs R l) line lines ordered))
    ]

comes_after : (R : ℕ → ℕ → Type 0) (t u : ℕ) (lines : List (List ℕ)) → All (λ line. AllPairs R line) lines → Member u (trips_from lines t) → (t ≡ u) ⊎ R t u
comes_after R t u [] ordered h = absurd h
comes_after R t u (line ∷ lines) ordered h =
    elim (member_or_not t line) [
      | inl e ↦ follows R t u line (All-head (λ l. AllPairs R l) line lines ordered) (subst (λ l. Member u l) (trips_from-here line lines t e.1) h)
      | inr e ↦ comes_after R t u lines (All-tail (λ l. AllPairs R l) line lines ordered) (subst (λ l. Member u l) (trips_from-past line lines t e.1) h)
    ]

-- a trip is no later than those after it on its line
pub trips_no_later : (T : TimetableData) (lines : List (List ℕ)) (t u : ℕ) → AreDividedInto T lines → Member u (trips_from lines t) → IsTripNoLater T t u
trips_no_later T lines t u divided h = no_later T t u (comes_after (MayFollow T) t u lines divided.ordered h)

-- where a trip is of the lines, its part of its line begins with it
pub itself : (t : ℕ) (lines : List (List ℕ)) → Member t (concat lines) → Member t (trips_from lines t)
itself t [] h = h
itself t (line ∷ lines) h =
    elim (member_or_not t line) [
      | inl e ↦ subst (λ l. Member t l) (sym (trips_from-here line lines t e.1)) (on_line line e.0)
      | inr e ↦ subst (λ l. Member t l) (sym (trips_from-past line lines t e.1)) (itself t lines (elim (Member-append t line (concat lines) h) [ inl k ↦ absurd (e.0 k) | inr k ↦ k ]))
    ]
  where
    on_line : (line : List ℕ) → Member t line → Member t (line_from t line)
    on_line [] k = k
    on_line (x ∷ xs) k =
        elim (same_or_other x t) [
          | inl e ↦ subst (λ l. Member t l) (sym (line_from-same t x xs e.1)) (inl e.0)
          | inr e ↦ subst (λ l. Member t l) (sym (line_from-other t x xs e.1)) (on_line xs (elim k [ inl f ↦ absurd (e.0 f) | inr m ↦ m ]))
        ]

-- Along each line: where a trip stands from t on, so do those after it.
abbrev pub StaysBehind : List ℕ → ℕ → ℕ → Type 0
StaysBehind trips u v = Member u trips → Member v trips

on_same_line : (t : ℕ) (line : List ℕ) → AreDistinct line → AllPairs (StaysBehind (line_from t line)) line
on_same_line t [] distinct = λ i j d before below. absurd (omega (arith, below))
on_same_line t (x ∷ xs) distinct =
    elim (same_or_other x t) [
      | inl e ↦
          (let p = line_from-same t x xs e.1 in
          subst (λ l. AllPairs (StaysBehind l) (x ∷ xs)) (sym p) (all_behind (x ∷ xs) (x ∷ xs) (λ y k. k)))
      | inr e ↦
          (let p = line_from-other t x xs e.1 in
          subst (λ l. AllPairs (StaysBehind l) (x ∷ xs)) (sym p)
          (pairs_from_head (StaysBehind (line_from t xs)) x xs (λ y k m. absurd (before_member (λ t u. t ≢ u) x xs x distinct (member_from x t xs m) refl))
          (on_same_line t xs (AllPairs-tail (λ t u. t ≢ u) x xs distinct))))
    ]
  where
    all_behind : (trips ys : List ℕ) → ((y : ℕ) → Member y ys → Member y trips) → AllPairs (StaysBehind trips) ys
    all_behind trips [] inside = λ i j d before below. absurd (omega (arith, below))
    all_behind trips (y ∷ ys) inside =
        pairs_from_head (StaysBehind trips) y ys (λ z k m. inside z (inr k)) (all_behind trips ys (λ z k. inside z (inr k)))

none_behind : (trips ys : List ℕ) → ((y : ℕ) → Member y ys → Member y trips → ⊥) → AllPairs (StaysBehind trips) ys
none_behind trips [] apart = λ i j d before below. absurd (omega (arith, below))
none_behind trips (y ∷ ys) apart =
    pairs_from_head (StaysBehind trips) y ys (λ z k m. absurd (apart y (inl refl) m)) (none_behind trips ys (λ z k. apart z (inr k)))

pub member_concat : (u : ℕ) (line : List ℕ) (lines : List (List ℕ)) → Member line lines → Member u line → Member u (concat lines)
member_concat u line [] h k = absurd h
member_concat u line (l ∷ ls) (inl e) k = Member-left u l (concat ls) (subst (λ x. Member u x) (sym e) k)
member_concat u line (l ∷ ls) (inr h) k = Member-right u l (concat ls) (member_concat u line ls h k)

pub later_too : (t : ℕ) (lines : List (List ℕ)) → AreDistinct (concat lines) → (line : List ℕ) → Member line lines → AllPairs (StaysBehind (trips_from lines t)) line
later_too t [] distinct line h = absurd h
later_too t (l ∷ ls) distinct line (inl e) =
    subst (λ x. AllPairs (StaysBehind (trips_from (l ∷ ls) t)) x) e
    (elim (member_or_not t l) [
      | inl f ↦ subst (λ x. AllPairs (StaysBehind x) l) (sym (trips_from-here l ls t f.1)) (on_same_line t l (pairs_left (λ t u. t ≢ u) l (concat ls) distinct))
      | inr f ↦ subst (λ x. AllPairs (StaysBehind x) l) (sym (trips_from-past l ls t f.1)) (none_behind (trips_from ls t) l (λ y k m. in_one_part y l (concat ls) distinct k (member_lines y t ls m)))
    ])
later_too t (l ∷ ls) distinct line (inr h) =
    elim (member_or_not t l) [
      | inl f ↦ subst (λ x. AllPairs (StaysBehind x) line) (sym (trips_from-here l ls t f.1))
          (none_behind (line_from t l) line (λ y k m. in_one_part y l (concat ls) distinct (member_from y t l m) (member_concat y line ls h k)))
      | inr f ↦ subst (λ x. AllPairs (StaysBehind x) line) (sym (trips_from-past l ls t f.1)) (later_too t ls (pairs_right (λ t u. t ≢ u) l (concat ls) distinct) line h)
    ]

-- a trip of a sound division is of the lines
pub of_lines : (T : TimetableData) (lines : List (List ℕ)) (t : ℕ) → AreDividedInto T lines → t < length T.trips → Member t (concat lines)
of_lines T lines t divided inside = Member-from_Contains t (concat lines) (divided.complete t inside)

-- the trips of each line differ
pub all_distinct : (lines : List (List ℕ)) → AreDistinct (concat lines) → All AreDistinct lines
all_distinct [] distinct = All-nil AreDistinct
all_distinct (line ∷ lines) distinct =
    All-cons AreDistinct line lines (pairs_left (λ t u. t ≢ u) line (concat lines) distinct) (all_distinct lines (pairs_right (λ t u. t ≢ u) line (concat lines) distinct))
