-- How many transfers there are: few enough to be counted in 64 bits.
use Rattle.std.proofs.Common.{◌≡◌, ◌∙◌, ℕ, zero, suc, ◌+◌, ◌*◌, ◌≤◌, ◌==◌, ◌&&◌, List, [], ◌∷◌, ◌++◌, ◌-◌, Bool, true, false, cond, Option, None, Some, length, map, refl, sym, ap, subst, arith, length-append}
use Rattle.std.specs.Prelude.{filter, filter_map, flat_map, nat_lt, not, sum_by}
use Rattle.std.specs.List.{cons_option, range_with_len}
use Rattle.std.specs.Option.{option_map}
use Rattle.std.proofs.Math.Nat.{add-mul, suc-mul}
use Rattle.std.proofs.lemmas.List.{length-map, map-append}
use Rattle.std.proofs.lemmas.List.Sums.{sum_by-append, sum_by-cons}
use Rattle.tb_base.specs.declared.transfer.Hop.{Hop}
use Rattle.tb_base.specs.declared.transfer.Transfer.{Transfer}
use Rattle.tb_base.specs.declared.table.Event.{Event}
use Rattle.tb_base.specs.TimetableData.{TimetableData, event_at, event_total, events_of, stop_at}
use Rattle.tb_base.specs.Lines.{AreDividedInto, AreLines}
use Rattle.tb_base.specs.Soundness.{IsSound}
use Rattle.tb_base.specs.Transfers.{Alternative, alternatives, alternatives_at, alightings, boarding_indexes, candidates, candidates_without_u_turns, hop_onto, improving_alternatives, is_improvement, is_u_turn, kept_alternatives, kept_hops, may_be_boarded, numbers_below, numbers_down, transfers_of}
use Rattle.tb_base.proofs.Lists.{length-filter_le, length-numbers_below, numbers_below-range}
use Rattle.tb_laws.proofs.TransferLaws.{kept_transfers}
use Rattle.line_split.specs.LinesData.{LinesData}
use Rattle.line_split.specs.LinesOf.{calls_at}
use Rattle.line_split.proofs.CallTotals.{all_events, calls_le_events}
use Rattle.reduce_workers.specs.Reductions.{count_from, rows_from}

length-numbers_down : (n : ℕ) → length (numbers_down n) ≡ n
length-numbers_down zero = refl
length-numbers_down (suc n) = ap suc (length-numbers_down n)

filter_map_le : {X Y : Type 0} (f : X → Option Y) (xs : List X) → length (filter_map f xs) ≤ length xs
filter_map_le f [] = omega arith
filter_map_le {X} {Y} f (x ∷ xs) = by_some (filter_map_le f xs) (f x)
  where
    by_some : length (filter_map f xs) ≤ length xs → (o : Option Y) → length (cons_option o (filter_map f xs)) ≤ suc (length xs)
    by_some more None = omega (arith, more)
    by_some more (Some y) = omega (arith, more)

both_le : (p q : ℕ → Bool) (xs : List ℕ) → length (filter (λ x. p x && q x) xs) ≤ length (filter p xs)
both_le p q [] = omega arith
both_le p q (x ∷ xs) = by_tests (both_le p q xs) (p x) (q x)
  where
    by_tests : length (filter (λ x. p x && q x) xs) ≤ length (filter p xs) → (a b : Bool) → length (cond (a && b) (x ∷ filter (λ x. p x && q x) xs) (filter (λ x. p x && q x) xs)) ≤ length (cond a (x ∷ filter p xs) (filter p xs))
    by_tests more true true = omega (arith, more)
    by_tests more true false = omega (arith, more)
    by_tests more false b = more

-- steps of at most c elements each
flat_map_le : {X Y : Type 0} (f : X → List Y) (c : ℕ) (xs : List X) → ((x : X) → length (f x) ≤ c) → length (flat_map f xs) ≤ length xs * c
flat_map_le f c [] each = omega arith
flat_map_le f c (x ∷ xs) each = omega (arith, length-append (f x) (flat_map f xs), each x, flat_map_le f c xs each, suc-mul (length xs) c)

boarding_le : (T : TimetableData) (line : List ℕ) (q : ℕ) → length (boarding_indexes T line q) ≤ length (calls_at T line q)
boarding_le T [] q = omega arith
boarding_le T (u ∷ us) q = both_le (λ j. stop_at T u j == q) (may_be_boarded T u) (numbers_below (length (events_of T u)))

abbrev calls_of_all : TimetableData → List (List ℕ) → ℕ → List ℕ
calls_of_all T lines q = flat_map (λ line. calls_at T line q) lines

abbrev hops_onto : TimetableData → ℕ → ℕ → ℕ → List ℕ → List Hop
hops_onto T t i q line = filter_map (λ j. hop_onto T t i line j) (boarding_indexes T line q)

onto_stop_le : (T : TimetableData) (t i q : ℕ) (lines : List (List ℕ)) → length (flat_map (hops_onto T t i q) lines) ≤ length (calls_of_all T lines q)
onto_stop_le T t i q [] = omega arith
onto_stop_le T t i q (line ∷ lines) =
    omega (
      arith,
      length-append (hops_onto T t i q line) (flat_map (hops_onto T t i q) lines),
      length-append (calls_at T line q) (calls_of_all T lines q),
      filter_map_le (λ j. hop_onto T t i line j) (boarding_indexes T line q),
      boarding_le T line q,
      onto_stop_le T t i q lines,
    )

-- an event has at most as many candidates as there are stops, times calls at one
module _ (T : TimetableData) (lines : List (List ℕ)) (c : ℕ) (each : (q : ℕ) → length (calls_of_all T lines q) ≤ c) where
  candidates_le : (t i : ℕ) → length (candidates T lines t i) ≤ length T.stops * c
  candidates_le t i = by_test (nat_lt 0 i && (event_at T t i).alight)
    where
      all : length (flat_map (λ q. flat_map (hops_onto T t i q) lines) (numbers_below (length T.stops))) ≤ length T.stops * c
      all =
          subst (λ n. length (flat_map (λ q. flat_map (hops_onto T t i q) lines) (numbers_below (length T.stops))) ≤ n * c) (length-numbers_below (length T.stops))
          (flat_map_le (λ q. flat_map (hops_onto T t i q) lines) c (numbers_below (length T.stops)) (λ q. omega (arith, onto_stop_le T t i q lines, each q)))

      by_test : (b : Bool) → length (cond b (flat_map (λ q. flat_map (hops_onto T t i q) lines) (numbers_below (length T.stops))) []) ≤ length T.stops * c
      by_test true = all
      by_test false = omega arith

  uncut_le : (t i : ℕ) → length (candidates_without_u_turns T lines t i) ≤ length T.stops * c
  uncut_le t i = omega (arith, length-filter_le (λ h. not (is_u_turn T t i h)) (candidates T lines t i), candidates_le t i)

-- a trip has at most so many transfers for each of its events
transfers_le : (T : TimetableData) (hops : ℕ → List Hop) (c t : ℕ) → ((i : ℕ) → length (hops i) ≤ c) → length (transfers_of T hops t) ≤ length (events_of T t) * c
transfers_le T hops c t each =
    subst (λ n. length (transfers_of T hops t) ≤ n * c) (length-numbers_down (length (events_of T t)))
    (flat_map_le by_event c (numbers_down (length (events_of T t))) (λ i. omega (arith, length-map {B = Transfer} (hops i) (λ (h : Hop). record { trip = t; at = i; to_trip = h.trip; to_at = h.at }), each i)))
  where
    by_event : ℕ → List Transfer
    by_event i = map (λ (h : Hop). record { trip = t; at = i; to_trip = h.trip; to_at = h.at }) (hops i)

improving_le : (T : TimetableData) (t : ℕ) (earlier : List (List Event)) (rest : List Alternative) → length (improving_alternatives T t earlier rest) ≤ length rest
improving_le T t earlier [] = omega arith
improving_le T t earlier (a ∷ rest) = by_test (improving_le T t (alightings T t a ∷ earlier) rest) (is_improvement T earlier (alightings T t a))
  where
    by_test : length (improving_alternatives T t (alightings T t a ∷ earlier) rest) ≤ length rest → (b : Bool)
        → length (cond b (a ∷ improving_alternatives T t (alightings T t a ∷ earlier) rest) (improving_alternatives T t (alightings T t a ∷ earlier) rest)) ≤ suc (length rest)
    by_test more true = omega (arith, more)
    by_test more false = omega (arith, more)

-- the kept transfers are some of the alternatives
kept_le : (T : TimetableData) (lines : List (List ℕ)) (c t : ℕ) → ((i : ℕ) → length (candidates_without_u_turns T lines t i) ≤ c) → length (transfers_of T (kept_hops T lines t) t) ≤ length (events_of T t) * suc c
kept_le T lines c t each =
    omega (
      arith,
      ap length (kept_transfers T lines t),
      filter_map_le {Y = Transfer} (λ (a : Alternative). option_map (λ (h : Hop). record { trip = t; at = a.at; to_trip = h.trip; to_at = h.at }) a.hop) (kept_alternatives T lines t),
      improving_le T t [] (alternatives T lines t),
      all,
    )
  where
    at_event : (i : ℕ) → length (alternatives_at T lines t i) ≤ suc c
    at_event i = by_test (nat_lt 0 i && (event_at T t i).alight)
      where
        by_test : (b : Bool) → length {A = Alternative} (cond b (record { at = i; hop = None } ∷ map (λ h. record { at = i; hop = Some h }) (candidates_without_u_turns T lines t i)) []) ≤ suc c
        by_test true = omega (arith, length-map {B = Alternative} (candidates_without_u_turns T lines t i) (λ h. record { at = i; hop = Some h }), each i)
        by_test false = omega arith

    all : length (alternatives T lines t) ≤ length (events_of T t) * suc c
    all =
        subst (λ n. length (alternatives T lines t) ≤ n * suc c) (length-numbers_down (length (events_of T t)))
        (flat_map_le (alternatives_at T lines t) (suc c) (numbers_down (length (events_of T t))) at_event)

-- numbers in a row, cut in two
pub range_split : (a n m : ℕ) → range_with_len a (n + m) ≡ range_with_len a n ++ range_with_len (a + n) m
range_split a zero m = (let here : a ≡ a + 0 = omega arith in let none : 0 + m ≡ m = omega arith in ap (range_with_len a) none ∙ ap (λ b. range_with_len b m) here)
range_split a (suc n) m =
    let on : suc n + m ≡ suc (n + m) = omega arith in
    let next : a + 1 + n ≡ a + suc n = omega arith in
    ap (range_with_len a) on ∙ ap (λ xs. a ∷ xs) (range_split (a + 1) n m) ∙ ap (λ b. a ∷ (range_with_len (a + 1) n ++ range_with_len b m)) next

sum_split : (f : ℕ → ℕ) (a n m : ℕ) → sum_by f (range_with_len a (n + m)) ≡ sum_by f (range_with_len a n) + sum_by f (range_with_len (a + n) m)
sum_split f a n m = ap (sum_by f) (range_split a n m) ∙ sum_by-append f (range_with_len a n) (range_with_len (a + n) m)

-- a sum over some of the numbers is no more than the one over all
part_le : (f : ℕ → ℕ) (a n m : ℕ) → a + n ≤ m → sum_by f (range_with_len a n) ≤ sum_by f (range_with_len 0 m)
part_le f a n m h =
    let whole : a + (n + (m - (a + n))) ≡ m = omega (arith, h) in
    let at : 0 + a ≡ a = omega arith in
    let first = sum_split f 0 a (n + (m - (a + n))) ∙ ap (λ b. sum_by f (range_with_len 0 a) + sum_by f (range_with_len b (n + (m - (a + n))))) at in
    let cut = sum_split f a n (m - (a + n)) in
    subst (λ k. sum_by f (range_with_len a n) ≤ sum_by f (range_with_len 0 k)) whole (omega (arith, first, cut))

some_events : (T : TimetableData) (a n : ℕ) → a + n ≤ length T.trips → sum_by (λ t. length (events_of T t)) (range_with_len a n) ≤ event_total T
some_events T a n inside =
    omega (arith, part_le (λ t. length (events_of T t)) a n (length T.trips) inside, ap (sum_by (λ t. length (events_of T t))) (numbers_below-range (length T.trips)), all_events T)

-- the trips have at most so many transfers for each of their events
count_le : (T : TimetableData) (hops : ℕ → ℕ → List Hop) (c : ℕ) → ((t : ℕ) → length (transfers_of T (hops t) t) ≤ length (events_of T t) * c) → (a n : ℕ)
    → count_from T hops a n ≤ sum_by (λ t. length (events_of T t)) (range_with_len a n) * c
count_le T hops c each a zero = omega arith
count_le T hops c each a (suc n) =
    subst (λ m. count_from T hops a (suc n) ≤ m * c) (sym (sum_by-cons (λ t. length (events_of T t)) a (range_with_len (a + 1) n)))
    (omega (
      arith,
      sum_by-cons (λ t. length (transfers_of T (hops t) t)) a (range_with_len (a + 1) n),
      count_le T hops c each (a + 1) n,
      each a,
      add-mul (length (events_of T a)) (sum_by (λ t. length (events_of T t)) (range_with_len (a + 1) n)) c,
    ))

-- more trips
pub count_more : (T : TimetableData) (hops : ℕ → ℕ → List Hop) (a n m : ℕ) → count_from T hops a (n + m) ≡ count_from T hops a n + count_from T hops (a + n) m
count_more T hops = sum_split (λ t. length (transfers_of T (hops t) t))

pub rows_more : (T : TimetableData) (hops : ℕ → ℕ → List Hop) (a n m : ℕ) → rows_from T hops a (n + m) ≡ rows_from T hops a n ++ rows_from T hops (a + n) m
rows_more T hops a n m = ap (map (λ t. transfers_of T (hops t) t)) (range_split a n m) ∙ map-append (λ t. transfers_of T (hops t) t) (range_with_len a n) (range_with_len (a + n) m)

-- the greatest count that is reached within the limits of timetables
abbrev pub most : ℕ
most = 10000000000010000000

module _ (T : TimetableData) (L : LinesData) (own : L.table ≡ T) (sound : IsSound T) (are : AreLines L.table L.lines) (divided : AreDividedInto L.table L.lines) where
  abbrev lines : List (List ℕ)
  lines = L.lines

  at_stop : (q : ℕ) → length (calls_of_all T lines q) ≤ 10000000
  at_stop q = omega (arith, calls_le_events T lines q (subst (λ (U : TimetableData). AreLines U L.lines) own are) (subst (λ (U : TimetableData). AreDividedInto U L.lines) own divided), sound.events)

  stops_le : length T.stops * 10000000 ≤ 1000000000000
  stops_le = omega (arith, sound.stops)

  within : (hops : ℕ → ℕ → List Hop) → ((t : ℕ) → length (transfers_of T (hops t) t) ≤ length (events_of T t) * 1000000000001) → (a n : ℕ) → a + n ≤ length T.trips → count_from T hops a n ≤ most
  within hops each a n inside = omega (arith, count_le T hops 1000000000001 each a n, some_events T a n inside, sound.events)

  pub generated_most : (a n : ℕ) → a + n ≤ length T.trips → count_from T (candidates T L.lines) a n ≤ most
  generated_most = within (candidates T lines) (λ t. transfers_le T (candidates T lines t) 1000000000001 t (λ i. omega (arith, candidates_le T lines 10000000 at_stop t i, stops_le)))

  pub uncut_most : (a n : ℕ) → a + n ≤ length T.trips → count_from T (candidates_without_u_turns T L.lines) a n ≤ most
  uncut_most = within (candidates_without_u_turns T lines) (λ t. transfers_le T (candidates_without_u_turns T lines t) 1000000000001 t (λ i. omega (arith, uncut_le T lines 10000000 at_stop t i, stops_le)))

  pub kept_most : (a n : ℕ) → a + n ≤ length T.trips → count_from T (kept_hops T L.lines) a n ≤ most
  kept_most = within (kept_hops T lines) (λ t. kept_le T lines 1000000000000 t (λ i. omega (arith, uncut_le T lines 10000000 at_stop t i, stops_le)))
