-- How many lines there are, and how many trips they have.
use Rattle.std.proofs.Common.{◌≡◌, ◌∙◌, sym, ap, subst, refl, ℕ, suc, ◌+◌, ◌<◌, ◌≤◌, inl, inr, Bool, true, false, cond, List, [], ◌∷◌, ◌++◌, length, get_or, fold, arith, length-append, sum_by}
use Rattle.std.specs.Prelude.{All}
use Rattle.std.specs.List.{concat}
use Rattle.std.proofs.lemmas.List.{length_push}
use Rattle.std.proofs.lemmas.List.Sums.{sum_by-cons}
use Rattle.std.proofs.lemmas.List.Elements.{All-nil, All-cons, All-contains, All-head, All-tail}
use Rattle.tb_base.specs.TimetableData.{TimetableData}
use Rattle.tb_base.specs.Lines.{may_join, place_trip, AreDividedInto, AreLines}
use Rattle.tb_base.specs.Transfers.{numbers_below}
use Rattle.tb_base.proofs.Ordered.{Member, Member-from_Contains, Contains-from_Member}
use Rattle.tb_base.proofs.Lists.{length-numbers_below}
use Rattle.tb_base.proofs.Members.{Member-left, Member-numbers_below, Member-right}
use Rattle.tb_base.proofs.LineFacts.{line_of}
use Rattle.line_split.specs.LinesOf.{StandsAt}
use Rattle.line_split.proofs.CallTotals.{IsNonempty, distinct_sum, nonempty}
use Rattle.line_split.proofs.LineLaws.{lines_divide}

module _ (T : TimetableData) where
  place_trip-total : (lines : List (List ℕ)) (t : ℕ) → length (concat (place_trip T lines t)) ≡ length (concat lines) + 1
  place_trip-total [] t = refl
  place_trip-total (line ∷ lines) t = by_test (place_trip-total lines t) (may_join T line t)
    where
      by_test : length (concat (place_trip T lines t)) ≡ length (concat lines) + 1 → (b : Bool) → length (concat (cond b ((line ++ t ∷ []) ∷ lines) (line ∷ place_trip T lines t))) ≡ length (line ++ concat lines) + 1
      by_test more true = omega (arith, length-append (line ++ t ∷ []) (concat lines), length_push line t, length-append line (concat lines))
      by_test more false = omega (arith, length-append line (concat (place_trip T lines t)), length-append line (concat lines), more)

  pub placed-total : (order : List ℕ) (lines : List (List ℕ)) → length (concat (fold (place_trip T) lines order)) ≡ length (concat lines) + length order
  placed-total [] lines = omega arith
  placed-total (t ∷ ts) lines = omega (arith, placed-total ts (place_trip T lines t), place_trip-total lines t)

pub filled-count : (lines : List (List ℕ)) → All IsNonempty lines → length lines ≤ length (concat lines)
filled-count [] full = omega arith
filled-count (line ∷ lines) full =
    omega (arith, All-head IsNonempty line lines full, filled-count lines (All-tail IsNonempty line lines full), length-append line (concat lines))

pub row-count : (lines : List (List ℕ)) (n : ℕ) → length (concat lines) ≤ n → All (λ line. length line ≤ n) lines
row-count [] n h = All-nil (λ line. length line ≤ n)
row-count (line ∷ lines) n h = All-cons (λ line. length line ≤ n) line lines (omega (arith, h, length-append line (concat lines))) (row-count lines n (omega (arith, h, length-append line (concat lines))))

-- what holds of all trips holds of those of each line
pub rows-all : (P : ℕ → Type 0) (lines : List (List ℕ)) → All P (concat lines) → All (λ line. All P line) lines
rows-all P [] h = All-nil (λ line. All P line)
rows-all P (line ∷ lines) h =
    All-cons (λ line. All P line) line lines (from_members line (λ x m. All-contains P (line ++ concat lines) x h (Contains-from_Member x (line ++ concat lines) (Member-left x line (concat lines) m))))
    (rows-all P lines (from_members (concat lines) (λ x m. All-contains P (line ++ concat lines) x h (Contains-from_Member x (line ++ concat lines) (Member-right x line (concat lines) m)))))
  where
    from_members : (xs : List ℕ) → ((x : ℕ) → Member x xs → P x) → All P xs
    from_members [] f = All-nil P
    from_members (x ∷ xs) f = All-cons P x xs (f x (inl refl)) (from_members xs (λ y m. f y (inr m)))

pub member_at : {X : Type 0} (xs : List X) (x d : X) → Member x xs → (k : ℕ) × (k < length xs) × (get_or xs k d ≡ x)
member_at [] x d m = absurd m
member_at (y ∷ ys) x d (inl e) = (0, omega arith, e)
member_at (y ∷ ys) x d (inr m) = let r = member_at ys x d m in (suc r.0, omega (arith, r.1), r.2)

-- each trip stands at its place, if each of each line does
pub all_stand : (T : TimetableData) (lines : List (List ℕ)) (places : List (ℕ × ℕ)) → AreDividedInto T lines
    → ((l k : ℕ) → l < length lines → k < length (get_or lines l []) → StandsAt lines (get_or (get_or lines l []) k 0) (get_or places (get_or (get_or lines l []) k 0) (0, 0)))
    → (t : ℕ) → t < length T.trips → StandsAt lines t (get_or places t (0, 0))
all_stand T lines places divided stand t h =
    let own = line_of lines t (Member-from_Contains t (concat lines) (divided.complete t h)) in
    let at_line = member_at lines own.0 [] own.1 in
    let at_place = member_at own.0 t 0 own.2 in
    let row : get_or (get_or lines at_line.0 []) at_place.0 0 ≡ t = ap (λ line. get_or line at_place.0 0) at_line.2 ∙ at_place.2 in
    subst (λ u. StandsAt lines u (get_or places u (0, 0))) row (stand at_line.0 at_place.0 at_line.1 (subst (λ line. at_place.0 < length line) (sym at_line.2) at_place.1))

-- ---- of the lines of a timetable

sum_ones : (xs : List ℕ) → sum_by (λ t. 1) xs ≡ length xs
sum_ones [] = refl
sum_ones (x ∷ xs) = omega (arith, sum_by-cons (λ t. 1) x xs, sum_ones xs)

pub trip_total : (T : TimetableData) (lines : List (List ℕ)) → AreLines T lines → length (concat lines) ≤ length T.trips
trip_total T lines are =
    let divided : AreDividedInto T lines = lines_divide T lines are in
    omega (
      arith,
      distinct_sum (λ t. 1) (concat lines) (numbers_below (length T.trips)) divided.once (λ t m. Member-numbers_below t (length T.trips) (All-contains (λ u. u < length T.trips) (concat lines) t divided.trips (Contains-from_Member t (concat lines) m))),
      sum_ones (concat lines),
      sum_ones (numbers_below (length T.trips)),
      length-numbers_below (length T.trips),
    )

pub line_total : (T : TimetableData) (lines : List (List ℕ)) → AreLines T lines → length lines ≤ length T.trips
line_total T lines are = omega (arith, filled-count lines (nonempty T lines are), trip_total T lines are)
