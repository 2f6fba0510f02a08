-- Trips that are all trips of their patterns are numbered, and all others have one number.
use Rattle.std.proofs.Common.{◌≡◌, ◌≢◌, ◌∙◌, sym, ap, ℕ, ◌+◌, ◌<◌, ◌⊎◌, inl, inr, true, List, length, filter, get_or, set, arith, get_or-set_same, get_or-set_other}
use Rattle.std.proofs.lemmas.Bool.{cases_eq}
use Rattle.std.proofs.lemmas.List.{get_or_default}
use Rattle.tb_base.specs.TimetableData.{TimetableData, events_of}
use Rattle.tb_base.specs.Lines.{may_follow}
use Rattle.tb_base.proofs.NumberFacts.{below_or_at}
use Rattle.tb_base.proofs.Ordered.{Contains-from_Member, Member, Member-from_Contains}
use Rattle.line_split.specs.Patterns.{AreNumbered, HasWholePatterns, pattern_precedes}
use Rattle.line_split.proofs.Counts.{member_at}
use Rattle.line_split.proofs.PatternLemmas.{filter_below, same_earlier}

-- how many of these trips have an earlier pattern
abbrev pub earlier : TimetableData → List ℕ → ℕ → ℕ
earlier T sorted t = length (filter (λ u. pattern_precedes T u t) sorted)

-- t is one of the first i trips
abbrev pub IsAmong : ℕ → List ℕ → ℕ → Type 0
IsAmong i trips t = (k : ℕ) × (k < i) × (get_or trips k 0 ≡ t)

-- the first i trips have their numbers, all others the last one
abbrev pub AreTold : TimetableData → List ℕ → List ℕ → ℕ → ℕ → List ℕ → Type 0
AreTold T sorted trips last i numbers =
    (t : ℕ) → t < length T.trips → (IsAmong i trips t × (get_or numbers t 0 ≡ earlier T sorted t)) ⊎ ((IsAmong i trips t → ⊥) × (get_or numbers t 0 ≡ last))

pub told_more : (T : TimetableData) (sorted trips : List ℕ) (last i x : ℕ) (numbers new : List ℕ) → x ≡ get_or trips i 0 → x < length numbers → new ≡ set numbers x (earlier T sorted x) → AreTold T sorted trips last i numbers → AreTold T sorted trips last (i + 1) new
told_more T sorted trips last i x numbers new is inside e told = λ t h. by_trip t (cases_eq t x) (told t h)
  where
    here : get_or new x 0 ≡ earlier T sorted x
    here = rw e (get_or-set_same numbers x (earlier T sorted x) 0 inside)

    there : (t : ℕ) → t ≢ x → get_or new t 0 ≡ get_or numbers t 0
    there t other = rw e (get_or-set_other numbers x t (earlier T sorted x) 0 other)

    by_trip : (t : ℕ) → (t ≡ x) ⊎ (t ≢ x) → (IsAmong i trips t × (get_or numbers t 0 ≡ earlier T sorted t)) ⊎ ((IsAmong i trips t → ⊥) × (get_or numbers t 0 ≡ last))
        → (IsAmong (i + 1) trips t × (get_or new t 0 ≡ earlier T sorted t)) ⊎ ((IsAmong (i + 1) trips t → ⊥) × (get_or new t 0 ≡ last))
    by_trip t (inl same) known = inl ((i, omega arith, sym is ∙ sym same), ap (λ u. get_or new u 0) same ∙ here ∙ ap (earlier T sorted) (sym same))
    by_trip t (inr other) (inl known) = inl ((known.0.0, omega (arith, known.0.1), known.0.2), there t other ∙ known.1)
    by_trip t (inr other) (inr known) = inr ((λ r. elim (below_or_at r.0 i r.1) [ inl l ↦ known.0 (r.0, l, r.2) | inr at ↦ other (sym r.2 ∙ ap (λ k. get_or trips k 0) at ∙ sym is) ]), there t other ∙ known.1)

pub told_yet : (T : TimetableData) (sorted trips : List ℕ) (last : ℕ) (numbers : List ℕ) → ((t : ℕ) → t < length T.trips → get_or numbers t 0 ≡ last) → AreTold T sorted trips last 0 numbers
told_yet T sorted trips last numbers all = λ t h. inr ((λ r. omega (arith, r.1)), all t h)

among_contains : (trips : List ℕ) (i t : ℕ) → i ≡ length trips → IsAmong i trips t → Member t trips
among_contains trips i t e r = Member-from_Contains t trips (r.0, omega (arith, e, r.1), get_or_default trips r.0 t 0 (omega (arith, e, r.1)) ∙ r.2)

contains_among : (trips : List ℕ) (i t : ℕ) → i ≡ length trips → Member t trips → IsAmong i trips t
contains_among trips i t e m = let at = member_at trips t 0 m in (at.0, omega (arith, e, at.1), at.2)

pub numbered_among : (T : TimetableData) (sorted trips : List ℕ) (last count i : ℕ) (numbers : List ℕ) → length numbers ≡ length T.trips → length sorted ≡ last → count ≡ last + 1 → i ≡ length trips → HasWholePatterns T trips → AreTold T sorted trips last i numbers → AreNumbered T numbers count
numbered_among T sorted trips last count i numbers long many next at whole told = record {
  long = long;
  below = λ t h. low t (told t h);
  same = λ t u h k follows. by_case t u h k follows (told t h) (told u k);
}
  where
    low : (t : ℕ) → (IsAmong i trips t × (get_or numbers t 0 ≡ earlier T sorted t)) ⊎ ((IsAmong i trips t → ⊥) × (get_or numbers t 0 ≡ last)) → get_or numbers t 0 < count
    low t (inl known) = omega (arith, known.1, filter_below (λ u. pattern_precedes T u t) sorted, many, next)
    low t (inr known) = omega (arith, known.1, next)

    by_case : (t u : ℕ) → t < length T.trips → u < length T.trips → may_follow (events_of T t) (events_of T u) ≡ true
        → (IsAmong i trips t × (get_or numbers t 0 ≡ earlier T sorted t)) ⊎ ((IsAmong i trips t → ⊥) × (get_or numbers t 0 ≡ last))
        → (IsAmong i trips u × (get_or numbers u 0 ≡ earlier T sorted u)) ⊎ ((IsAmong i trips u → ⊥) × (get_or numbers u 0 ≡ last))
        → get_or numbers t 0 ≡ get_or numbers u 0
    by_case t u h k follows (inl a) (inl b) = a.1 ∙ same_earlier T sorted t u follows ∙ sym b.1
    by_case t u h k follows (inl a) (inr b) =
        absurd (b.0 (contains_among trips i u at (Member-from_Contains u trips ((whole t u h k follows).0 (Contains-from_Member t trips (among_contains trips i t at a.0))))))
    by_case t u h k follows (inr a) (inl b) =
        absurd (a.0 (contains_among trips i t at (Member-from_Contains t trips ((whole t u h k follows).1 (Contains-from_Member u trips (among_contains trips i u at b.0))))))
    by_case t u h k follows (inr a) (inr b) = a.1 ∙ sym b.1
