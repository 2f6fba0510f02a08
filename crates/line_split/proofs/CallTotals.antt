-- At a stop lines call at most as often as there are events.
use Rattle.std.proofs.Common.{◌≡◌, ◌≢◌, ◌∙◌, ℕ, zero, suc, ◌+◌, ◌<◌, ◌≤◌, ◌==◌, inl, inr, Bool, List, [], ◌∷◌, ◌++◌, true, false, cond, length, take, get_or, refl, sym, ap, subst, arith, add-one, length-append}
use Rattle.std.specs.Prelude.{All, AllPairs, flat_map, fold, sum_by}
use Rattle.std.specs.List.{concat}
use Rattle.std.proofs.lemmas.List.{length_push, take_all}
use Rattle.std.proofs.lemmas.List.Sums.{sum_by-append, sum_by-cons, sum_by_push, sum_by_more}
use Rattle.std.proofs.lemmas.List.Elements.{All-cons, All-contains, All-head, All-nil, All-tail}
use Rattle.tb_base.specs.TimetableData.{TimetableData, TripData, event_total, events_of, stop_at, no_trip}
use Rattle.tb_base.specs.Lines.{AreDividedInto, AreLines, may_join, place_trip}
use Rattle.tb_base.specs.Transfers.{numbers_below}
use Rattle.tb_base.proofs.Ordered.{Member, Contains-from_Member, AllPairs-head, AllPairs-tail}
use Rattle.tb_base.proofs.Members.{Member-append, Member-left, Member-right, Member-numbers_below}
use Rattle.tb_base.proofs.Lists.{length-filter_le, length-numbers_below}
use Rattle.line_split.specs.LinesOf.{calls_at}

-- ---- each line has a trip

abbrev pub IsNonempty : List ℕ → Type 0
IsNonempty line = 0 < length line

pub place_nonempty : (T : TimetableData) (lines : List (List ℕ)) (t : ℕ) → All IsNonempty lines → All IsNonempty (place_trip T lines t)
place_nonempty T [] t all = All-cons IsNonempty (t ∷ []) [] (omega arith) (All-nil IsNonempty)
place_nonempty T (line ∷ ls) t all =
    elim (may_join T line t) as (λ b. All IsNonempty (cond b ((line ++ t ∷ []) ∷ ls) (line ∷ place_trip T ls t))) [
      | true ↦ All-cons IsNonempty (line ++ t ∷ []) ls (omega (arith, length_push line t)) (All-tail IsNonempty line ls all)
      | false ↦ All-cons IsNonempty line (place_trip T ls t) (All-head IsNonempty line ls all) (place_nonempty T ls t (All-tail IsNonempty line ls all))
    ]

pub fold_nonempty : (T : TimetableData) (lines : List (List ℕ)) (order : List ℕ) → All IsNonempty lines → All IsNonempty (fold (place_trip T) lines order)
fold_nonempty T lines [] all = all
fold_nonempty T lines (t ∷ ts) all = fold_nonempty T (place_trip T lines t) ts (place_nonempty T lines t all)

pub nonempty : (T : TimetableData) (lines : List (List ℕ)) → AreLines T lines → All IsNonempty lines
nonempty T lines are = subst (All IsNonempty) (sym are.placed) (fold_nonempty T [] are.order (All-nil IsNonempty))

-- ---- sums over trips

events_below : (xs : List TripData) (d : TripData) (n : ℕ) → n ≤ length xs → sum_by (λ t. length (TripData.events (get_or xs t d))) (numbers_below n) ≡ sum_by (λ (t : TripData). length t.events) (take n xs)
events_below xs d zero h = refl
events_below xs d (suc n) h =
    let more : sum_by (λ (t : TripData). length t.events) (take (n + 1) xs) ≡ sum_by (λ (t : TripData). length t.events) (take n xs) + length (TripData.events (get_or xs n d))
    = sum_by_more (λ (t : TripData). length t.events) xs n d (omega (arith, h)) in
    sum_by_push (λ t. length (TripData.events (get_or xs t d))) (numbers_below n) n
    ∙ ap (λ k. k + length (TripData.events (get_or xs n d))) (events_below xs d n (omega (arith, h)))
    ∙ sym more ∙ ap (λ k. sum_by (λ (t : TripData). length t.events) (take k xs)) (add-one n)

-- all trips have as many events as the timetable
pub all_events : (T : TimetableData) → sum_by (λ t. length (events_of T t)) (numbers_below (length T.trips)) ≡ event_total T
all_events T =
    events_below T.trips no_trip (length T.trips) (omega arith) ∙ ap (λ xs. sum_by (λ (t : TripData). length t.events) xs) (take_all (length T.trips) T.trips (omega arith))

member_split : (x : ℕ) (ys : List ℕ) → Member x ys → (before after : List ℕ) × (ys ≡ before ++ x ∷ after)
member_split x [] h = absurd h
member_split x (y ∷ ys) (inl e) = ([], ys, ap (λ z. z ∷ ys) e)
member_split x (y ∷ ys) (inr h) = let r : (before after : List ℕ) × (ys ≡ before ++ x ∷ after) = member_split x ys h in (y ∷ r.0, r.1, ap (λ zs. y ∷ zs) r.2)

-- the sum over numbers that differ is at most that over a list with all of them
pub distinct_sum : (f : ℕ → ℕ) (xs ys : List ℕ) → AllPairs (λ p q. p ≢ q) xs → ((x : ℕ) → Member x xs → Member x ys) → sum_by f xs ≤ sum_by f ys
distinct_sum f [] ys distinct inside = omega arith
distinct_sum f (x ∷ xs) ys distinct inside =
    let s : (before after : List ℕ) × (ys ≡ before ++ x ∷ after) = member_split x ys (inside x (inl refl)) in
    let rest : sum_by f xs ≤ sum_by f (s.0 ++ s.1)
    = distinct_sum f xs (s.0 ++ s.1) (AllPairs-tail (λ p q. p ≢ q) x xs distinct)
    (λ z h. without s.0 s.1 z (λ e. AllPairs-head (λ p q. p ≢ q) x xs distinct z (Contains-from_Member z xs h) (sym e)) (subst (λ l. Member z l) s.2 (inside z (inr h)))) in
    omega (arith, rest, sum_by-cons f x xs, ap (sum_by f) s.2, sum_by-append f s.0 (x ∷ s.1), sum_by-cons f x s.1, sum_by-append f s.0 s.1)
  where
    without : (before after : List ℕ) (z : ℕ) → z ≢ x → Member z (before ++ x ∷ after) → Member z (before ++ after)
    without before after z other h =
        elim (Member-append z before (x ∷ after) h) [
          | inl k ↦ Member-left z before after k
          | inr k ↦ Member-right z before after (elim k [ inl e ↦ absurd (other (sym e)) | inr m ↦ m ])
        ]

-- ---- calls at a stop

abbrev event_count : TimetableData → ℕ → ℕ
event_count T t = length (events_of T t)

first_le : (T : TimetableData) (line : List ℕ) → 0 < length line → event_count T (get_or line 0 0) ≤ sum_by (event_count T) line
first_le T [] h = absurd (omega (arith, h))
first_le T (x ∷ xs) h = omega (arith, sum_by-cons (event_count T) x xs)

calls_le : (T : TimetableData) (q : ℕ) (lines : List (List ℕ)) → All IsNonempty lines → length (flat_map (λ line. calls_at T line q) lines) ≤ sum_by (event_count T) (concat lines)
calls_le T q [] all = omega arith
calls_le T q (line ∷ lines) all =
    let first : ℕ = get_or line 0 0 in
    let test : ℕ → Bool = λ j. stop_at T first j == q in
    omega (
      arith,
      length-append (calls_at T line q) (flat_map (λ line. calls_at T line q) lines),
      length-filter_le test (numbers_below (event_count T first)),
      length-numbers_below (event_count T first),
      first_le T line (All-head IsNonempty line lines all),
      calls_le T q lines (All-tail IsNonempty line lines all),
      sum_by-append (event_count T) line (concat lines),
    )

-- lines call at most as often at a stop as there are events
pub calls_le_events : (T : TimetableData) (lines : List (List ℕ)) (q : ℕ) → AreLines T lines → AreDividedInto T lines → length (flat_map (λ line. calls_at T line q) lines) ≤ event_total T
calls_le_events T lines q are divided =
    let below : (t : ℕ) → Member t (concat lines) → Member t (numbers_below (length T.trips)) = λ t m. Member-numbers_below t (length T.trips) (All-contains (λ u. u < length T.trips) (concat lines) t divided.trips (Contains-from_Member t (concat lines) m)) in
    omega (arith, calls_le T q lines (nonempty T lines are), distinct_sum (event_count T) (concat lines) (numbers_below (length T.trips)) divided.once below, all_events T)
