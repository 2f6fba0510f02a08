-- Transfers put into lists, one more at a time.
use Rattle.std.proofs.Common.{◌≡◌, ◌≢◌, ◌∙◌, sym, ap, subst, refl, ℕ, ◌+◌, ◌<◌, ◌==◌, ◌⊎◌, inl, inr, List, [], ◌∷◌, ◌++◌, length, get_or, set, take, map, true, false, arith}
use Rattle.std.specs.Prelude.{All, filter}
use Rattle.std.proofs.lemmas.Bool.{cases_Bool}
use Rattle.std.proofs.lemmas.Bool.Decides.{nat_tests}
use Rattle.std.proofs.lemmas.List.{get_or-map, get_or_push, get_or_append_left, length-map, get_or-set_same, get_or-set_other, append-nil, map-append, take_more, length-append}
use Rattle.std.proofs.lemmas.List.Elements.{filter-append}
use Rattle.tb_base.specs.declared.transfer.Hop.{Hop}
use Rattle.tb_base.specs.declared.transfer.Transfer.{Transfer}
use Rattle.tb_base.specs.TimetableData.{TimetableData, events_of}
use Rattle.tb_base.specs.OutSets.{AreRowsOf, hops_at, row_of}
use Rattle.tb_base.proofs.NumberFacts.{below_or_at}

-- the hop of a transfer
abbrev pub hop_of : Transfer → Hop
hop_of r = record { trip = r.to_trip; at = r.to_at }

hops_more : (row : List Transfer) (k : ℕ) (r : Transfer) (i : ℕ) → k < length row → r ≡ get_or row k r → hops_at (take (k + 1) row) i ≡ hops_at (take k row) i ++ map hop_of (filter (λ q. q.at == i) (r ∷ []))
hops_more row k r i inside at =
    ap (λ rs. hops_at rs i) (take_more row k r inside ∙ ap (λ x. take k row ++ x ∷ []) (sym at))
    ∙ (ap (map hop_of) (filter-append (λ q. q.at == i) (take k row) (r ∷ [])) ∙ map-append hop_of (filter (λ q. q.at == i) (take k row)) (filter (λ q. q.at == i) (r ∷ [])))

-- the lists of a trip's events with the hop of one more transfer
pub hop_listed : (row : List Transfer) (k : ℕ) (r : Transfer) (old new : List (List Hop)) → k < length row → r ≡ get_or row k r → r.at < length old
    → new ≡ set old r.at (get_or old r.at [] ++ hop_of r ∷ []) → ((i : ℕ) → get_or old i [] ≡ hops_at (take k row) i) → (i : ℕ) → get_or new i [] ≡ hops_at (take (k + 1) row) i
hop_listed row k r old new inside at below e so_far i =
    elim (cases_Bool (r.at == i)) [
      | inl t ↦
          let same : r.at ≡ i = grind (arith, nat_tests, t) in
          let here : get_or new i [] ≡ get_or old r.at [] ++ hop_of r ∷ [] =
          subst (λ j. get_or new j [] ≡ get_or old r.at [] ++ hop_of r ∷ []) same (rw e (get_or-set_same old r.at (get_or old r.at [] ++ hop_of r ∷ []) [] below)) in
          rw (here, so_far r.at, hops_more row k r i inside at, t, same) refl
      | inr f ↦
          let other : i ≢ r.at = (λ s. let t : (r.at == i) ≡ true = grind (arith, nat_tests, s) in let c : false ≡ true = sym f ∙ t in cc) in
          let here : get_or new i [] ≡ get_or old i [] = rw e (get_or-set_other old r.at i (get_or old r.at [] ++ hop_of r ∷ []) [] other) in
          rw (here, so_far i, hops_more row k r i inside at, f) (sym (append-nil (hops_at (take k row) i)))
    ]

-- the first n trips have their lists
pub record AreListed (T : TimetableData) (rows : List (List Transfer)) (n : ℕ) (trips : List (List (List Hop))) : Type 0 where
  pub long : length trips ≡ n
  pub events : (t : ℕ) → t < n → length (get_or trips t []) ≡ length (events_of T t)
  pub hops : (t : ℕ) → t < n → (i : ℕ) → get_or (get_or trips t []) i [] ≡ hops_at (row_of rows t) i

-- one trip more
pub trip_listed : (T : TimetableData) (rows : List (List Transfer)) (n : ℕ) (trips new : List (List (List Hop))) (lists : List (List Hop)) → AreListed T rows n trips → length lists ≡ length (events_of T n)
    → ((i : ℕ) → get_or lists i [] ≡ hops_at (row_of rows n) i) → new ≡ trips ++ lists ∷ [] → AreListed T rows (n + 1) new
trip_listed T rows n trips new lists listed long hops e = record {
  long = ap length e ∙ (length-append trips (lists ∷ []) ∙ ap (λ k. k + 1) listed.long);
  events = λ t below. elim (below_or_at t n below) [
    | inl h ↦ ap length (left t h) ∙ listed.events t h
    | inr is ↦ ap length (right t is) ∙ (long ∙ ap (λ k. length (events_of T k)) (sym is))
  ];
  hops = λ t below i. elim (below_or_at t n below) [
    | inl h ↦ ap (λ (ls : List (List Hop)). get_or ls i []) (left t h) ∙ listed.hops t h i
    | inr is ↦ ap (λ (ls : List (List Hop)). get_or ls i []) (right t is) ∙ (hops i ∙ ap (λ k. hops_at (row_of rows k) i) (sym is))
  ];
}
  where
    left : (t : ℕ) → t < n → get_or new t [] ≡ get_or trips t []
    left t h = (let inside : t < length trips = omega (arith, h, listed.long) in ap (λ (ls : List (List (List Hop))). get_or ls t []) e ∙ get_or_append_left trips (lists ∷ []) [] t inside)

    right : (t : ℕ) → t ≡ n → get_or new t [] ≡ lists
    right t is = ap (λ (ls : List (List (List Hop))). get_or ls t []) e ∙ get_or_push trips lists [] t (listed.long ∙ sym is)

-- the transfers of a trip are from its events
pub from_events : (T : TimetableData) (rows : List (List Transfer)) (t n : ℕ) (row : List Transfer) → AreRowsOf T rows → t < length T.trips → row ≡ row_of rows t → n ≡ length (events_of T t) → All (λ r. r.at < n) row
from_events T rows t n row are inside is many =
    subst (λ m. All (λ r. r.at < m) row) (sym many) (subst (All (λ (r : Transfer). r.at < length (events_of T t))) (sym is) (λ k d h. (are.own t inside k d h).at))

-- the transfers of a trip, read among the rows
pub row_is : {V : Type 0} (items : V → List Transfer) (rows : List V) (t n : ℕ) (v : V) (row : List Transfer) → length (map items rows) ≡ n → t < n → v ≡ get_or rows t v → row ≡ items v → row ≡ row_of (map items rows) t
row_is items rows t n v row long below at is =
    let same : length (map items rows) ≡ length rows = length-map rows items in
    let inside : t < length rows = omega (arith, below, long, same) in
    is ∙ (ap items at ∙ sym (get_or-map items rows t v [] inside))
