-- Transfers put one behind the other.
use Rattle.std.proofs.Common.{◌≡◌, ◌∙◌, ℕ, zero, suc, ◌+◌, ◌-◌, ◌<◌, ◌≤◌, ◌==◌, ◌⊎◌, inl, inr, List, [], ◌∷◌, ◌++◌, Bool, true, false, cond, length, map, get_or, take, drop, refl, sym, ap, subst, arith, length-append, pos}
use Rattle.std.specs.Prelude.{All, filter, if◌then◌else◌, nat_lt}
use Rattle.std.proofs.lemmas.Bool.Decides.{nat_tests}
use Rattle.std.proofs.lemmas.Grind.{get_or_default_zero}
use Rattle.std.proofs.lemmas.List.{append-nil, append_assoc, get_or-map, get_or_append_left, length-map, map-append, take_all, take_more, get_or_past, length-take-le}
use Rattle.std.proofs.Math.Seq.{get_or-append_right}
use Rattle.std.proofs.lemmas.List.Elements.{filter-append}
use Rattle.tb_base.specs.declared.transfer.Hop.{Hop}
use Rattle.tb_base.specs.declared.transfer.Transfer.{Transfer}
use Rattle.tb_base.specs.declared.table.Event.{Event}
use Rattle.tb_base.specs.TimetableData.{TripData, TimetableData, event_at, events_of, no_event, no_trip}
use Rattle.tb_base.specs.OutSets.{AreRowsOf, hops_at, row_of}
use Rattle.tb_base.specs.Transfers.{numbers_below}
use Rattle.tb_base.proofs.Listing.{from_events, hop_of}
use Rattle.transfer_pack.specs.Packed.{AreBounds, FitsRuns, PackedHops, hops_rebuilt, packed, runs_in}
use Rattle.transfer_pack.specs.Adding.{AddsEvents}
use Rattle.transfer_pack.specs.declared.calls.Call.{Call}
use Rattle.transfer_pack.specs.declared.set.Spot.{Spot}
use Rattle.transfer_pack.specs.CallsOf.{call_of, no_call}
use Rattle.transfer_pack.specs.PackedCalls.{spot_call}
use Rattle.transfer_pack.specs.Spots.{AreCalls, calls_beside, ends_in}
use Rattle.transfer_pack.proofs.Bounds.{IsRun, bounds_more, length-runs_in, run_at, runs_more}
use Rattle.transfer_pack.proofs.Ends.{last_one}
use Rattle.tb_base.proofs.Lists.{length-numbers_below}
use Rattle.tb_base.proofs.NumberFacts.{below_or_last}

-- the hops from an event, and those of one more transfer
pub hops_more : (row : List Transfer) (k i : ℕ) (r : Transfer) → k < length row → r ≡ get_or row k r → hops_at (take (k + 1) row) i ≡ hops_at (take k row) i ++ map hop_of (filter (λ q. q.at == i) (r ∷ []))
hops_more row k i r inside at =
    ap (λ rs. hops_at rs i) (take_more row k r inside ∙ ap (λ x. take k row ++ x ∷ []) (sym at))
    ∙ (ap (map hop_of) (filter-append (λ q. q.at == i) (take k row) (r ∷ [])) ∙ map-append hop_of (filter (λ q. q.at == i) (take k row)) (filter (λ q. q.at == i) (r ∷ [])))

pub hops_here : (row : List Transfer) (k i : ℕ) (r : Transfer) → k < length row → r ≡ get_or row k r → r.at ≡ i → hops_at (take (k + 1) row) i ≡ hops_at (take k row) i ++ hop_of r ∷ []
hops_here row k i r inside at same =
    let test : (r.at == i) ≡ true = grind (arith, nat_tests, same) in
    hops_more row k i r inside at ∙ ap (λ b. hops_at (take k row) i ++ map hop_of (cond b (r ∷ []) [])) test

pub hops_elsewhere : (row : List Transfer) (k i : ℕ) (r : Transfer) → k < length row → r ≡ get_or row k r → (r.at ≡ i → ⊥) → hops_at (take (k + 1) row) i ≡ hops_at (take k row) i
hops_elsewhere row k i r inside at other =
    let test : (r.at == i) ≡ false = grind (arith, nat_tests, other) in
    hops_more row k i r inside at ∙ ap (λ b. hops_at (take k row) i ++ map hop_of (cond b (r ∷ []) [])) test ∙ append-nil (hops_at (take k row) i)

number_at : (n t d : ℕ) → t < n → get_or (numbers_below n) t d ≡ t
number_at zero t d h = absurd (omega (arith, h))
number_at (suc n) t d h = by_case (λ k. number_at n t d k) (below_or_last t n h)
  where
    by_case : (t < n → get_or (numbers_below n) t d ≡ t) → (t < n) ⊎ (t ≡ n) → get_or (numbers_below n ++ n ∷ []) t d ≡ t
    by_case more (inl k) = (let within : t < length (numbers_below n) = omega (arith, k, length-numbers_below n) in get_or_append_left (numbers_below n) (n ∷ []) d t within ∙ more k)
    by_case more (inr e) = last_one (numbers_below n) n d t (omega (arith, e, length-numbers_below n)) ∙ sym e

-- the first n trips are packed, each event with its hops: their runs begin where their starts say,
-- and their calls one place on
pub record ArePacked (T : TimetableData) (want : ℕ → ℕ → List Hop) (n : ℕ) (starts : List ℕ) (runs : List (List Hop)) (called : List Call) : Type 0 where
  pub long : length starts ≡ suc n
  pub last : get_or starts n 0 ≡ length runs
  pub events : (t : ℕ) → t < n → get_or starts t 0 + length (events_of T t) ≡ get_or starts (suc t) 0
  pub within : (t : ℕ) → t ≤ n → get_or starts t 0 ≤ length runs
  pub hops : (t i : ℕ) → t < n → i < length (events_of T t) → get_or runs (get_or starts t 0 + i) [] ≡ want t i
  pub calls : (t i : ℕ) → t < n → i < length (events_of T t) → get_or called (suc (get_or starts t 0 + i)) no_call ≡ call_of (event_at T t i)

-- one trip more
lists_packed : (T : TimetableData) (want : ℕ → ℕ → List Hop) (n : ℕ) (starts : List ℕ) (runs : List (List Hop)) (calls : List Call) (from : ℕ → List Hop) (events : List Event) (end : ℕ) → ArePacked T want n starts runs calls → length calls ≡ suc (length runs) → ((i : ℕ) → i < length events → from i ≡ want n i) → events ≡ events_of T n
    → end ≡ length (runs ++ map from (numbers_below (length events))) → ArePacked T want (n + 1) (starts ++ end ∷ []) (runs ++ map from (numbers_below (length events))) (calls ++ map call_of events)
lists_packed T want n starts runs calls from events end are counted same events_are ends = record {
  long = omega (arith, length-append starts (end ∷ []), are.long);
  last = right (n + 1) (omega arith) ∙ ends;
  events = λ t below. elim (below_or_last t n (omega (arith, below))) [
    | inl h ↦ omega (arith, left t (omega (arith, h)), left (suc t) (omega (arith, h)), are.events t h)
    | inr e ↦ omega (arith, here t e, right (suc t) (omega (arith, e)), ends, length-append runs block, block_long, many t e)
  ];
  within = λ t below. elim (below_or_last t (suc n) (omega (arith, below))) [
    | inl h ↦ omega (arith, left t (omega (arith, h)), are.within t (omega (arith, h)), length-append runs block)
    | inr e ↦ omega (arith, right t e, ends)
  ];
  hops = λ t i below inside. elim (below_or_last t n (omega (arith, below))) [
    | inl h ↦ ap (λ k. get_or (runs ++ block) (k + i) []) (left t (omega (arith, h))) ∙ get_or_append_left runs block [] (get_or starts t 0 + i) (before t i h inside) ∙ are.hops t i h inside
    | inr e ↦ ap (λ k. get_or (runs ++ block) (k + i) []) (here t e) ∙ in_block i (omega (arith, inside, many t e)) ∙ same i (omega (arith, inside, many t e)) ∙ ap (λ k. want k i) (sym e)
  ];
  calls = λ t i below inside. elim (below_or_last t n (omega (arith, below))) [
    | inl h ↦ ap (λ k. get_or (calls ++ map call_of events) (suc (k + i)) no_call) (left t (omega (arith, h))) ∙ get_or_append_left calls (map call_of events) no_call (suc (get_or starts t 0 + i)) (omega (arith, before t i h inside, counted)) ∙ are.calls t i h inside
    | inr e ↦ ap (λ k. get_or (calls ++ map call_of events) (suc (k + i)) no_call) (here t e) ∙ in_calls i (omega (arith, inside, many t e)) ∙ ap (λ es. call_of (get_or es i no_event)) (events_are ∙ ap (events_of T) (sym e))
  ];
}
  where
    block : List (List Hop)
    block = map from (numbers_below (length events))

    block_long : length block ≡ length events
    block_long = length-map (numbers_below (length events)) from ∙ length-numbers_below (length events)

    many : (t : ℕ) → t ≡ n → length (events_of T t) ≡ length events
    many t e = ap (λ k. length (events_of T k)) e ∙ ap length (sym events_are)

    left : (t : ℕ) → t ≤ n → get_or (starts ++ end ∷ []) t 0 ≡ get_or starts t 0
    left t h = get_or_append_left starts (end ∷ []) 0 t (omega (arith, h, are.long))

    right : (t : ℕ) → t ≡ suc n → get_or (starts ++ end ∷ []) t 0 ≡ end
    right t e = last_one starts end 0 t (omega (arith, e, are.long))

    here : (t : ℕ) → t ≡ n → get_or (starts ++ end ∷ []) t 0 ≡ length runs
    here t e = left t (omega (arith, e)) ∙ ap (λ k. get_or starts k 0) e ∙ are.last

    before : (t i : ℕ) → t < n → i < length (events_of T t) → get_or starts t 0 + i < length runs
    before t i h inside = omega (arith, are.events t h, are.within (suc t) (omega (arith, h)), inside)

    behind : (a b i : ℕ) → a ≡ suc b → suc (b + i) - a ≡ i
    behind a b i e = omega (arith, e)

    same_place : (a i : ℕ) → a + i - a ≡ i
    same_place a i = omega arith

    in_block : (i : ℕ) → i < length events → get_or (runs ++ block) (length runs + i) [] ≡ from i
    in_block i h =
        get_or-append_right runs block (length runs + i) [] (omega arith)
        ∙ ap (λ k. get_or block k []) (same_place (length runs) i)
        ∙ get_or-map from (numbers_below (length events)) i 0 [] (omega (arith, h, length-numbers_below (length events))) ∙ ap from (number_at (length events) i 0 h)

    in_calls : (i : ℕ) → i < length events → get_or (calls ++ map call_of events) (suc (length runs + i)) no_call ≡ call_of (get_or events i no_event)
    in_calls i h =
        get_or-append_right calls (map call_of events) (suc (length runs + i)) no_call (omega (arith, counted))
        ∙ ap (λ k. get_or (map call_of events) k no_call) (behind (length calls) (length runs) i counted)
        ∙ get_or-map call_of events i no_event no_call h

none_at : (row : List Transfer) (n i : ℕ) → All (λ r. r.at < n) row → n ≤ i → hops_at row i ≡ []
none_at [] n i all le = refl
none_at (r ∷ row) n i all le =
    let small : r.at < n = all 0 r (omega arith) in
    let test : (r.at == i) ≡ false = grind (arith, nat_tests, small, le) in
    ap (λ b. map hop_of (cond b (r ∷ filter (λ q. q.at == i) row) (filter (λ q. q.at == i) row))) test ∙ none_at row n i (λ k d h. all (suc k) d (omega (arith, h))) le

-- behind a trip's events the rows have nothing
pub rows_past : (T : TimetableData) (rows : List (List Transfer)) → AreRowsOf T rows → (t i : ℕ) → length (events_of T t) ≤ i → hops_at (row_of rows t) i ≡ []
rows_past T rows rows_of t i past = elim trip_or_none [
  | inl h ↦ none_at (row_of rows t) (length (events_of T t)) i (from_events T rows t (length (events_of T t)) (row_of rows t) rows_of h refl refl) past
  | inr h ↦ ap (λ xs. hops_at xs i) (get_or_past rows t [] (omega (arith, h, rows_of.long)))
]
  where
    trip_or_none : (t < length T.trips) ⊎ (length T.trips ≤ t)
    trip_or_none = grind arith

-- behind a trip's events a set has nothing
pub packed_past : (S : PackedHops) (t i : ℕ) → length (events_of S.table t) ≤ i → packed S t i ≡ []
packed_past S t i past =
    let test : nat_lt i (length (events_of S.table t)) ≡ false = grind (arith, nat_tests, past) in
    ap (λ b. cond b (get_or S.runs (get_or S.starts t 0 + i) []) []) test

-- nor have the two together
pub rebuilt_past : (T : TimetableData) (kept : PackedHops) (redone : List Bool) (rows : List (List Transfer)) → AreRowsOf T rows → ((t : ℕ) → length (events_of kept.table t) ≡ length (events_of T t)) → (t i : ℕ) → length (events_of T t) ≤ i → hops_rebuilt kept redone rows t i ≡ []
rebuilt_past T kept redone rows rows_of same t i past = by_mark (get_or redone t false)
  where
    by_mark : (b : Bool) → (if b then hops_at (row_of rows t) i else packed kept t i) ≡ []
    by_mark true = rows_past T rows rows_of t i past
    by_mark false = packed_past kept t i (omega (arith, past, same t))

-- what is packed is what was wanted, where nothing is wanted behind a trip's events
pub packed_all : (T : TimetableData) (want : ℕ → ℕ → List Hop) (S : PackedHops) (calls : List Call) → S.table ≡ T → ArePacked T want (length T.trips) S.starts S.runs calls → ((t i : ℕ) → length (events_of T t) ≤ i → want t i ≡ []) → (t i : ℕ) → packed S t i ≡ want t i
packed_all T want S calls same are none t i = by_test (nat_lt i (length (events_of S.table t))) refl
  where
    trip_or_none : (t < length T.trips) ⊎ (length T.trips ≤ t)
    trip_or_none = grind arith

    no_events : length T.trips ≤ t → length (events_of T t) ≡ 0
    no_events h = ap (λ (x : TripData). length x.events) (get_or_past T.trips t no_trip h)

    by_test : (b : Bool) → b ≡ nat_lt i (length (events_of S.table t)) → packed S t i ≡ want t i
    by_test true e =
        let inside' : i < length (events_of S.table t) = grind arith in
        let inside : i < length (events_of T t) = subst (λ (x : TimetableData). i < length (events_of x t)) same inside' in
        ap (λ b. cond b (get_or S.runs (get_or S.starts t 0 + i) []) []) (sym e) ∙ elim trip_or_none [ inl h ↦ are.hops t i h inside | inr h ↦ absurd (omega (arith, inside, no_events h)) ]
    by_test false e =
        let past' : length (events_of S.table t) ≤ i = grind arith in
        let past : length (events_of T t) ≤ i = subst (λ (x : TimetableData). length (events_of x t) ≤ i) same past' in
        ap (λ b. cond b (get_or S.runs (get_or S.starts t 0 + i) []) []) (sym e) ∙ sym (none t i past)

-- one event more
pub event_added : (from : ℕ → List Hop) (events : List Event) (e : Event) (at : ℕ) (old hops hops' : List Hop) (before spots spots' : List Spot) → AddsEvents from (take at events) old hops before spots → at < length events → e ≡ get_or events at e
    → hops' ≡ hops ++ from at → ends_in spots' ≡ ends_in spots ++ length hops' ∷ [] → calls_beside spots' ≡ calls_beside spots ++ call_of e ∷ [] → AddsEvents from (take (at + 1) events) old hops' before spots'
event_added from events e at old hops hops' before spots spots' are inside e_is is ends_are calls_are = record {
  bounds = subst (λ bs. AreBounds bs (length hops')) (sym ends_are) (bounds_more (ends_in spots) (length hops) (length hops') are.bounds (omega (arith, ap length is, length-append hops (from at))));
  runs = ap (runs_in hops') ends_are ∙ ap (λ hs. runs_in hs (ends_in spots ++ length hs ∷ [])) is ∙ runs_more hops (from at) (ends_in spots) are.bounds ∙ ap (λ rs. rs ++ from at ∷ []) are.runs
      ∙ append_assoc runs (map from (numbers_below (length (take at events)))) (from at ∷ []) ∙ ap (λ n. runs ++ (map from (numbers_below n) ++ from at ∷ [])) long
      ∙ ap (λ rs. runs ++ rs) (sym (map-append from (numbers_below at) (at ∷ [])) ∙ ap (λ n. map from (numbers_below n)) (sym longer));
  calls = calls_are ∙ ap (λ cs. cs ++ call_of e ∷ []) are.calls
      ∙ append_assoc calls (map call_of (take at events)) (call_of e ∷ [])
      ∙ ap (λ cs. calls ++ cs) (sym (map-append call_of (take at events) (e ∷ [])) ∙ ap (λ x. map call_of (take at events ++ x ∷ [])) e_is ∙ ap (map call_of) (sym (take_more events at e inside)));
}
  where
    runs : List (List Hop)
    runs = runs_in old (ends_in before)

    calls : List Call
    calls = calls_beside before

    long : length (take at events) ≡ at
    long = length-take-le at events (omega (arith, inside))

    longer : length (take (at + 1) events) ≡ suc at
    longer = (let all : length (take (at + 1) events) ≡ at + 1 = length-take-le (at + 1) events (omega (arith, inside)) in omega (arith, all))

-- all events
pub all_added : (from : ℕ → List Hop) (events : List Event) (n : ℕ) (old hops : List Hop) (before spots : List Spot) → AddsEvents from (take n events) old hops before spots → length events ≤ n → AddsEvents from events old hops before spots
all_added from events n old hops before spots are all = subst (λ es. AddsEvents from es old hops before spots) (take_all n events all) are

-- there is a spot more than runs
pub spots_counted : (hops : List Hop) (spots : List Spot) → AreBounds (ends_in spots) (length hops) → length spots ≡ suc (length (runs_in hops (ends_in spots)))
spots_counted hops spots are = sym (length-map spots (λ (s : Spot). s.end)) ∙ length-runs_in hops (ends_in spots) (length hops) are

-- one trip more is packed with its events
pub trip_packed : (T : TimetableData) (want : ℕ → ℕ → List Hop) (n : ℕ) (starts : List ℕ) (from : ℕ → List Hop) (events : List Event) (end : ℕ) (hops hops' : List Hop) (spots spots' : List Spot) → AreBounds (ends_in spots) (length hops) → ArePacked T want n starts (runs_in hops (ends_in spots)) (calls_beside spots)
    → AddsEvents from events hops hops' spots spots' → ((i : ℕ) → i < length events → from i ≡ want n i) → events ≡ events_of T n → end ≡ length spots' - 1 → ArePacked T want (n + 1) (starts ++ end ∷ []) (runs_in hops' (ends_in spots')) (calls_beside spots')
trip_packed T want n starts from events end hops hops' spots spots' bounds are added same events_are ends =
    subst (λ rs. ArePacked T want (n + 1) (starts ++ end ∷ []) rs (calls_beside spots')) (sym added.runs)
    (subst (ArePacked T want (n + 1) (starts ++ end ∷ []) (runs ++ map from (numbers_below (length events)))) (sym added.calls)
    (lists_packed T want n starts runs (calls_beside spots) from events end are counted same events_are (last_end ∙ ap length added.runs)))
  where
    runs : List (List Hop)
    runs = runs_in hops (ends_in spots)

    counted : length (calls_beside spots) ≡ suc (length runs)
    counted = length-map spots (λ (s : Spot). spot_call s.packed) ∙ spots_counted hops spots bounds

    last_end : end ≡ length (runs_in hops' (ends_in spots'))
    last_end = omega (arith, ends, spots_counted hops' spots' added.bounds)

-- where the hops of a spot end
pub end_at : (spots : List Spot) (k : ℕ) (s : Spot) → k < length spots → (get_or spots k s).end ≡ get_or (ends_in spots) k 0
end_at spots k s inside = sym (get_or-map (λ (x : Spot). x.end) spots k s 0 inside)

-- what stands for a spot that doesn't exist
abbrev pub no_spot : Spot
no_spot = record { packed = record { stop_twice = 0; arr = pos 0 }; end = 0 }

-- the run of hops between the ends of two spots
pub record IsSpotRun (hops : List Hop) (spots : List Spot) (k : ℕ) (s r : Spot) : Type 0 where
  pub from : (get_or spots k s).end ≤ (get_or spots (k + 1) r).end
  pub to : (get_or spots (k + 1) r).end ≤ length hops
  pub run : get_or (runs_in hops (ends_in spots)) k [] ≡ take ((get_or spots (k + 1) r).end - (get_or spots k s).end) (drop (get_or spots k s).end hops)

pub spot_run : (hops : List Hop) (spots : List Spot) (k : ℕ) (s r : Spot) → AreBounds (ends_in spots) (length hops) → k + 1 < length spots → IsSpotRun hops spots k s r
spot_run hops spots k s r are inside =
    let found : IsRun hops (ends_in spots) (length hops) k = run_at hops (ends_in spots) (length hops) k are (omega (arith, inside, length-map spots (λ (x : Spot). x.end))) in
    let first : (get_or spots k s).end ≡ get_or (ends_in spots) k 0 = end_at spots k s (omega (arith, inside)) in
    let second : (get_or spots (k + 1) r).end ≡ get_or (ends_in spots) (suc k) 0 = end_at spots (k + 1) r inside ∙ ap (λ n. get_or (ends_in spots) n 0) (next k) in record {
      from = omega (arith, found.from, first, second);
      to = omega (arith, found.to, second);
      run = found.run ∙ ap (λ n. take (get_or (ends_in spots) (suc k) 0 - n) (drop n hops)) (sym first) ∙ ap (λ n. take (n - (get_or spots k s).end) (drop (get_or spots k s).end hops)) (sym second);
    }
  where
    next : (k : ℕ) → k + 1 ≡ suc k
    next k = omega arith

-- the spot behind an event's
pub spot_inside : (hops : List Hop) (spots : List Spot) (S : PackedHops) (n : ℕ) → AreBounds (ends_in spots) (length hops) → S.runs ≡ runs_in hops (ends_in spots) → n < length S.runs → n + 1 < length spots
spot_inside hops spots S n are same inside = omega (arith, inside, ap length same, spots_counted hops spots are)

-- the call of a spot
pub call_at : (spots : List Spot) (k : ℕ) (s : Spot) → k < length spots → s ≡ get_or spots k s → spot_call s.packed ≡ get_or (calls_beside spots) k no_call
call_at spots k s inside is = ap (λ (x : Spot). spot_call x.packed) is ∙ sym (get_or-map (λ (x : Spot). spot_call x.packed) spots k s no_call inside)

-- the call of an event stands one place on
pub call_found : (S S' : PackedHops) (spots : List Spot) (t i n : ℕ) (s : Spot) → S' ≡ S → AreCalls S'.table S'.starts (calls_beside spots) → t < length S.table.trips → i < length (events_of S.table t) → n ≡ get_or S.starts t 0 + i → n + 1 < length spots → s ≡ get_or spots (n + 1) s
    → spot_call s.packed ≡ call_of (event_at S.table t i)
call_found S S' spots t i n s same are trip at is inside s_is =
    call_at spots (n + 1) s inside s_is
    ∙ ap (λ k. get_or (calls_beside spots) k no_call) (place n (get_or S.starts t 0) is)
    ∙ subst (λ (x : PackedHops). AreCalls x.table x.starts (calls_beside spots)) same are t i trip at
  where
    place : (n a : ℕ) → n ≡ a + i → n + 1 ≡ suc (a + i)
    place n a e = omega (arith, e)

-- the list of an event is one of the runs
pub run_inside : (S : PackedHops) (t i start : ℕ) → FitsRuns S → t < length S.table.trips → i < length (events_of S.table t) → start ≡ get_or S.starts t start → start + i < length S.runs
run_inside S t i start fits trip at is =
    let there : t < length S.starts = omega (arith, trip, fits.trips) in
    omega (arith, is, get_or_default_zero S.starts t start there, fits.events t trip, fits.within (suc t) (omega (arith, trip)), at)
