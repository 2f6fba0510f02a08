-- The mirror that is made of its parts is the mirror, and it is sound.
use Rattle.std.proofs.Common.{◌≡◌, ◌≢◌, ◌∙◌, sym, ap, subst, refl, ℕ, ◌+◌, ◌<◌, ◌≤◌, ◌==◌, inl, inr, cond, List, [], ◌∷◌, ◌++◌, length, get_or, map, Option, Some, None, find, arith}
use Rattle.std.specs.Prelude.{All, AllPairs, IfOk, IfSome, IsSomeAnd, Result, Ok, Err}
use Rattle.std.specs.Option.{option_map}
use Rattle.std.proofs.lemmas.Bool.{cases_lt, ne_eqb}
use Rattle.std.proofs.lemmas.List.{get_or_default, get_or_past, length-map}
use Rattle.std.proofs.lemmas.List.Elements.{All-head, All-tail}
use Rattle.tb_base.specs.declared.table.Path.{Path}
use Rattle.tb_base.specs.declared.table.Stop.{Stop}
use Rattle.tb_base.specs.TimetableData.{StationData, TimetableData, path_total}
use Rattle.tb_base.specs.Soundness.{IsSound, IsSoundFootpaths, IsSoundPath, IsSoundStation, IsSoundTrip, place_names}
use Rattle.tb_base.specs.Walking.{KeepsFootpathLaw, change, footpath_secs}
use Rattle.tb_base.proofs.Members.{All-from_Member}
use Rattle.tb_base.proofs.Walks.{leaving_sound}
use Rattle.edition_store.specs.Mirror.{IsMirror, mirror_trip}
use Rattle.transfer_pack.specs.TurnedPaths.{turned_into}
use Rattle.edition_store.proofs.Back.{change_back}
use Rattle.transfer_pack.proofs.Paths.{into_ascends, into_found, into_none}
use Rattle.transfer_pack.proofs.Ways.{path_sound, row_ascends}
use Rattle.edition_store.proofs.Trips.{events_in, sound_trips}

-- how the mirror M of T is made
pub record IsMade (T M : TimetableData) : Type 0 where
  pub stops : M.stops ≡ T.stops
  pub stations : M.stations ≡ T.stations
  pub trips : M.trips ≡ map mirror_trip T.trips
  pub change : M.footpaths.change ≡ T.footpaths.change
  pub rows : length M.footpaths.paths ≡ length T.stops
  pub paths : (q : ℕ) → q < length T.stops → get_or M.footpaths.paths q [] ≡ turned_into T.footpaths.paths q (length T.stops)
  pub total : path_total M.footpaths ≡ path_total T.footpaths

-- no footpath leads past the last stop
none_past : (n p : ℕ) (row : List Path) → All (λ f. f.to < n) row → n ≤ p → find (λ (f : Path). f.to == p) row ≡ None
none_past n p [] sound past = refl
none_past n p (f ∷ fs) sound past =
    let inside : f.to < n = All-head (λ (g : Path). g.to < n) f fs sound in
    let other : f.to ≢ p = (λ e. omega (arith, e, inside, past)) in
    ap (λ b. cond b (Some f) (find (λ (g : Path). g.to == p) fs)) (ne_eqb f.to p other) ∙ none_past n p fs (All-tail (λ (g : Path). g.to < n) f fs sound) past

abbrev secs_of : Option Path → Option ℕ
secs_of o = option_map (λ (f : Path). f.secs) o

module _ (T M : TimetableData) (sound : IsSound T) (made : IsMade T M) where
  rows_of : length T.footpaths.paths ≡ length T.stops
  rows_of = sound.footpaths.rows ∙ sound.change_times

  -- no footpath leaves a stop past the last one
  from_past : (p q : ℕ) → length T.stops ≤ q → footpath_secs T.footpaths q p ≡ None
  from_past p q past = ap (λ row. secs_of (find (λ (f : Path). f.to == p) row)) (get_or_past T.footpaths.paths q [] (omega (arith, past, rows_of)))

  to_past : (p q : ℕ) → length T.stops ≤ p → footpath_secs T.footpaths q p ≡ None
  to_past p q past = elim (cases_lt q (length T.stops)) [
    | inl inside ↦ ap secs_of (none_past (length T.stops) p (get_or T.footpaths.paths q []) (λ i d h. (leaving_sound T q sound inside i d h).to) past)
    | inr h ↦ from_past p q h
  ]

  -- each footpath leads back
  pub back_secs : (p q : ℕ) → footpath_secs M.footpaths p q ≡ footpath_secs T.footpaths q p
  back_secs p q = elim (cases_lt p (length T.stops)) [
    | inl inside ↦ ap (λ row. secs_of (find (λ (f : Path). f.to == q) row)) (made.paths p inside) ∙ elim (cases_lt q (length T.stops)) [
      | inl h ↦ into_found T.footpaths.paths p q (length T.stops) h
      | inr h ↦ ap secs_of (into_none T.footpaths.paths p q (length T.stops) h) ∙ sym (from_past p q h)
    ]
    | inr past ↦
        ap (λ row. secs_of (find (λ (f : Path). f.to == q) row)) (get_or_past M.footpaths.paths p [] (omega (arith, past, made.rows)))
        ∙ sym (to_past p q past)
  ]

  pub is_mirror : IsMirror T M
  is_mirror = record { stops = made.stops; stations = made.stations; trips = made.trips; footpaths = record { change = made.change; secs = back_secs } }

  law : KeepsFootpathLaw M.footpaths
  law p q r pq qr pq_differ qr_differ first second =
      let one : footpath_secs T.footpaths q p ≡ Some pq = sym (back_secs p q) ∙ first in
      let two : footpath_secs T.footpaths r q ≡ Some qr = sym (back_secs q r) ∙ second in
      let there : IsSomeAnd (change T r p) (λ x. x ≤ qr + pq) = sound.law r q p qr pq (λ e. qr_differ (sym e)) (λ e. pq_differ (sym e)) two one in
      let swap : qr + pq ≡ pq + qr = omega arith in
      subst (λ (o : Option ℕ). IsSomeAnd o (λ x. x ≤ pq + qr)) (sym (change_back T M is_mirror.footpaths p r)) (subst (λ n. IsSomeAnd (change T r p) (λ x. x ≤ n)) swap there)

  -- the rows of footpaths
  row_sound : (p : ℕ) → p < length T.stops → All (IsSoundPath (length T.stops) p) (get_or M.footpaths.paths p [])
  row_sound p inside = subst (All (IsSoundPath (length T.stops) p)) (sym (made.paths p inside)) (All-from_Member (IsSoundPath (length T.stops) p) (turned_into T.footpaths.paths p (length T.stops)) (path_sound T sound p))

  ascending : All (λ row. AllPairs (λ (f g : Path). f.to < g.to) row) M.footpaths.paths
  ascending i d inside =
      let within : i < length T.stops = omega (arith, inside, made.rows) in
      subst (AllPairs (λ (f g : Path). f.to < g.to)) (sym (made.paths i within) ∙ get_or_default M.footpaths.paths i [] d inside) (into_ascends T.footpaths.paths i (length T.stops) (row_ascends T sound))

  many : length M.footpaths.change ≡ length T.stops
  many = ap length made.change ∙ sound.change_times

  paths_sound : IsSoundFootpaths M.footpaths
  paths_sound = record {
    few = omega (arith, many, sound.change_times, sound.footpaths.few);
    rows = made.rows ∙ sym many;
    footpaths = subst (λ n. n ≤ 2000000) (sym made.total) sound.footpaths.footpaths;
    change_secs = subst (All (λ (o : Option ℕ). IfSome o (λ secs. secs ≤ 86400))) (sym made.change) sound.footpaths.change_secs;
    paths = λ p inside. subst (λ n. All (IsSoundPath n p) (get_or M.footpaths.paths p [])) (sym many) (row_sound p (omega (arith, inside, many)));
    ascending = ascending;
  }

  names : place_names M ≡ place_names T
  names = λ i. map (λ (s : Stop). s.name) (made.stops i) ++ map (λ s. StationData.name s) (made.stations i)

  stops_many : length M.stops ≡ length T.stops
  stops_many = ap length made.stops

  trips_many : length M.trips ≡ length T.trips
  trips_many = ap length made.trips ∙ length-map T.trips mirror_trip

  pub is_sound : IsSound M
  is_sound = record {
    stops = omega (arith, stops_many, sound.stops);
    stations = subst (λ (ss : List StationData). length ss ≤ 100000) (sym made.stations) sound.stations;
    trips = omega (arith, trips_many, sound.trips);
    events = subst (λ n. n ≤ 10000000) (sym (events_in T.trips M.trips made.trips)) sound.events;
    named = subst (λ ns. All (λ n. n ≢ []) ns) (sym names) sound.named;
    distinct = subst (λ ns. AllPairs (λ m n. m ≢ n) ns) (sym names) sound.distinct;
    station = subst (λ n. All (IsSoundStation n) M.stations) (sym stops_many) (subst (All (IsSoundStation (length T.stops))) (sym made.stations) sound.station);
    trip = subst (λ n. All (IsSoundTrip n) M.trips) (sym stops_many) (sound_trips (length T.stops) T.trips M.trips made.trips sound.trip);
    change_times = many ∙ sym stops_many;
    footpaths = paths_sound;
    law = law;
  }

-- what comes out as x has what x has
pub if_ok : {A E : Type 0} (P : A → Type 0) (x : A) (r : Result A E) → IfOk r (λ y. y ≡ x) → P x → IfOk r P
if_ok P x (Ok y) is h = subst P (sym is) h
if_ok P x (Err e) is h = tt
