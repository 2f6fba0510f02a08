-- An event from which all transfers are settled touches no trip.
use Rattle.std.proofs.Common.{◌≡◌, ◌≢◌, ◌∙◌, sym, ap, subst, refl, ℕ, zero, suc, ◌+◌, ◌<◌, ◌≤◌, ◌⊎◌, inl, inr, Bool, true, false, cond, ◌&&◌, ◌==◌, not, List, [], ◌∷◌, ◌++◌, length, map, get_or, take, drop, Option, Some, None, ℤ, pos, ◌+ℤ◌, arith}
use Rattle.std.specs.Prelude.{All, AllPairs, IfSome, IsSome, filter_map, flat_map, find, nat_lt, slice_get}
use Rattle.std.specs.List.{AllWithin, list_any}
use Rattle.std.specs.Option.{option_map}
use Rattle.std.proofs.lemmas.Bool.{and_parts, cases_lt, not_from_true, or_from}
use Rattle.std.proofs.lemmas.List.Elements.{All-drop, All-head, All-tail, All-take}
use Rattle.std.proofs.lemmas.Option.{get_or_from_slice_get}
use Rattle.std.proofs.lemmas.List.Folds.{list_any_none}
use lib.Pointwise.{pointwise}
use Rattle.tb_base.specs.declared.table.Event.{Event}
use Rattle.tb_base.specs.declared.table.Path.{Path}
use Rattle.tb_base.specs.declared.transfer.Hop.{Hop}
use Rattle.tb_base.specs.declared.transfer.Transfer.{Transfer}
use Rattle.tb_base.specs.Soundness.{IsSoundPath}
use Rattle.tb_base.specs.TimetableData.{TimetableData, no_event, events_of, event_at, stop_at, arrival_at}
use Rattle.tb_base.specs.Transfers.{boarding_indexes, hop_onto, numbers_below}
use Rattle.tb_base.specs.Walking.{change, change_time}
use Rattle.tb_base.proofs.Lists.{some-IsSome}
use Rattle.tb_base.proofs.Ordered.{Member, Contains-from_Member, AllPairs-head, AllPairs-tail}
use Rattle.tb_laws.proofs.Triangles.{change-same, change-other}
use Rattle.tb_laws.specs.Rows.{transfer_by_hop}
use Rattle.line_split.specs.LinesData.{LinesData}
use Rattle.transfer_make.specs.ByBerth.{own_rows, rows_after, rows_at}
use Rattle.transfer_make.proofs.ByBerth.{event_rows}
use Rattle.transfer_make.proofs.Sparse.{find-own}
use Rattle.late_edit.specs.declared.doubts.Doubt.{Doubt}
use Rattle.late_edit.specs.Doubts.{AreAllDoubts, AreSettled, IsSettled, LeadsCalm, MarksNear, rows_to}
use Rattle.late_edit.specs.Touched.{candidates_at, has_other_events, is_touched_at, same_transfer}
use Rattle.late_edit.specs.Updated.{IsUpdated}
use Rattle.late_edit.proofs.DoubtSteps.{settled-append}
use Rattle.late_edit.proofs.ListFacts.{Member-get_or}
use Rattle.late_edit.proofs.SameEvents.{same_rows, same_trip}

-- ---- footpaths by the stop that they lead to

-- where the footpaths to lesser stops end
cut : (p : ℕ) (fs : List Path) → AllPairs (λ (f g : Path). f.to < g.to) fs → (n : ℕ) × AllWithin (λ f. f.to < p) fs 0 n × AllWithin (λ f. p ≤ f.to) fs n (length fs)
cut p [] up = (0, (λ k d low high. absurd (omega (arith, high))), λ k d low high. absurd (omega (arith, high)))
cut p (f ∷ fs) up = by_case (cut p fs (AllPairs-tail (λ (f g : Path). f.to < g.to) f fs up)) (cases_lt f.to p)
  where
    later : (k : ℕ) (d : Path) → k < length fs → f.to < (get_or fs k d).to
    later k d h = AllPairs-head (λ (f g : Path). f.to < g.to) f fs up (get_or fs k d) (Contains-from_Member (get_or fs k d) fs (Member-get_or fs k d h))

    below_all : (n : ℕ) → f.to < p → AllWithin (λ f. f.to < p) fs 0 n → AllWithin (λ f. f.to < p) (f ∷ fs) 0 (suc n)
    below_all n first rest zero d low high = first
    below_all n first rest (suc k) d low high = rest k d (omega arith) (omega (arith, high))

    from_some : (n : ℕ) → AllWithin (λ f. p ≤ f.to) fs n (length fs) → AllWithin (λ f. p ≤ f.to) (f ∷ fs) (suc n) (length (f ∷ fs))
    from_some n rest zero d low high = absurd (omega (arith, low))
    from_some n rest (suc k) d low high = rest k d (omega (arith, low)) (omega (arith, high))

    from_all : p ≤ f.to → AllWithin (λ f. p ≤ f.to) (f ∷ fs) 0 (length (f ∷ fs))
    from_all first zero d low high = first
    from_all first (suc k) d low high = omega (arith, first, later k d (omega (arith, high)))

    by_case : (n : ℕ) × AllWithin (λ f. f.to < p) fs 0 n × AllWithin (λ f. p ≤ f.to) fs n (length fs)
        → (f.to < p) ⊎ (p ≤ f.to) → (n : ℕ) × AllWithin (λ f. f.to < p) (f ∷ fs) 0 n × AllWithin (λ f. p ≤ f.to) (f ∷ fs) n (length (f ∷ fs))
    by_case r (inl first) = (suc r.0, below_all r.0 first r.1, from_some r.0 r.2)
    by_case r (inr first) = (0, (λ k d low high. absurd (omega (arith, high))), from_all first)

module _ (L M : LinesData) (same : IsUpdated L.table M.table) (t i : ℕ) (times : has_other_events L.table M.table t ≡ false) where
  abbrev T : TimetableData
  T = L.table

  abbrev U : TimetableData
  U = M.table

  -- the stop of the event, and its arrival
  abbrev p : ℕ
  p = stop_at T t i

  abbrev arr : ℤ
  arr = arrival_at T t i

  abbrev fs : List Path
  fs = get_or T.footpaths.paths p []

  own : events_of T t ≡ events_of U t
  own = same_trip T U t times

  -- the transfers from the event to stop q, in so many seconds
  abbrev AreSettledTo : ℕ → ℕ → Type 0
  AreSettledTo q secs = AreSettled L M (rows_to L t i q (arr +ℤ pos secs)) (rows_to M t i q (arr +ℤ pos secs))

  abbrev from_paths : LinesData → List Path → List Transfer
  from_paths N gs = flat_map (λ (f : Path). rows_at N.table N.lines t i f.to f.secs arr) gs

  nothing : AreSettled L M [] []
  nothing = record { same = refl; calm = λ k d below. absurd (omega (arith, below)) }

  along : (gs : List Path) → All (λ (f : Path). AreSettledTo f.to f.secs) gs → AreSettled L M (from_paths L gs) (from_paths M gs)
  along [] all = nothing
  along (g ∷ gs) all =
      settled-append L M t i arr (rows_at T L.lines t i g.to g.secs arr) (rows_at U M.lines t i g.to g.secs arr) (from_paths L gs) (from_paths M gs)
      (All-head (λ (f : Path). AreSettledTo f.to f.secs) g gs all) (along gs (All-tail (λ (f : Path). AreSettledTo f.to f.secs) g gs all))

  module _ (inside : p < length T.stops) (here : IfSome (change T p p) (AreSettledTo p)) (paths : All (λ (f : Path). AreSettledTo f.to f.secs) fs)
      (up : AllPairs (λ (f g : Path). f.to < g.to) fs) (sound_paths : All (IsSoundPath (length T.stops) p) fs) where
    here_rows : AreSettled L M (own_rows T L.lines t i p arr) (own_rows U M.lines t i p arr)
    here_rows =
        subst (λ (o : Option ℕ). AreSettled L M (own_rows T L.lines t i p arr) (rows_after U M.lines t i p arr o)) (λ k. change_time (same.footpaths k) p)
        (by_secs (change_time T.footpaths p) (subst (λ o. IfSome o (AreSettledTo p)) (change-same T p) here))
      where
        by_secs : (o : Option ℕ) → IfSome o (AreSettledTo p) → AreSettled L M (rows_after T L.lines t i p arr o) (rows_after U M.lines t i p arr o)
        by_secs None h = nothing
        by_secs (Some secs) h = h

    abbrev n : ℕ
    n = (cut p fs up).0

    -- the candidates of an event where one may alight
    abbrev hops_if : LinesData → List Hop
    hops_if N = flat_map (λ q. flat_map (λ line. filter_map (λ j. hop_onto N.table t i line j) (boarding_indexes N.table line q)) N.lines) (numbers_below (length N.table.stops))

    abbrev all_rows : LinesData → List Transfer
    all_rows N = from_paths N (take n fs) ++ (own_rows N.table N.lines t i p arr ++ from_paths N (drop n fs))

    all_settled : AreSettled L M (all_rows L) (all_rows M)
    all_settled =
        settled-append L M t i arr (from_paths L (take n fs)) (from_paths M (take n fs)) (own_rows T L.lines t i p arr ++ from_paths L (drop n fs)) (own_rows U M.lines t i p arr ++ from_paths M (drop n fs))
        (along (take n fs) (All-take (λ (f : Path). AreSettledTo f.to f.secs) n fs paths))
        (settled-append L M t i arr (own_rows T L.lines t i p arr) (own_rows U M.lines t i p arr) (from_paths L (drop n fs)) (from_paths M (drop n fs)) here_rows
        (along (drop n fs) (All-drop (λ (f : Path). AreSettledTo f.to f.secs) n fs paths)))

    candidates_settled : AreSettled L M (candidates_at L t i) (candidates_at M t i)
    candidates_settled = by_test (nat_lt 0 i && (event_at T t i).alight) refl
      where
        marks : (nat_lt 0 i && (event_at T t i).alight) ≡ (nat_lt 0 i && (event_at U t i).alight)
        marks = λ k. nat_lt 0 i && (get_or (own k) i no_event).alight

        old_rows : 0 < i → (event_at T t i).alight ≡ true → candidates_at L t i ≡ all_rows L
        old_rows later alights = event_rows T L.lines t i p n fs refl refl inside up sound_paths (cut p fs up).1 (cut p fs up).2 later alights

        new_rows : 0 < i → (event_at T t i).alight ≡ true → candidates_at M t i ≡ all_rows M
        new_rows later alights =
            event_rows U M.lines t i p n fs (λ k. (get_or (own k) i no_event).stop) (λ k. get_or (sym same.footpaths k).paths p []) (subst (λ m. p < m) (λ k. length (same.stops k)) inside) up
            (subst (λ m. All (IsSoundPath m p) fs) (λ k. length (same.stops k)) sound_paths) (cut p fs up).1 (cut p fs up).2 later ((λ k. (get_or (sym own k) i no_event).alight) ∙ alights)
            ∙ (λ k. flat_map (λ (f : Path). rows_at U M.lines t i f.to f.secs (get_or (sym own k) i no_event).arr) (take n fs)
            ++ (own_rows U M.lines t i p (get_or (sym own k) i no_event).arr ++ flat_map (λ (f : Path). rows_at U M.lines t i f.to f.secs (get_or (sym own k) i no_event).arr) (drop n fs)))

        later_than : (i : ℕ) → nat_lt 0 i ≡ true → 0 < i
        later_than i h = grind arith

        by_test : (b : Bool) → b ≡ (nat_lt 0 i && (event_at T t i).alight) → AreSettled L M (candidates_at L t i) (candidates_at M t i)
        by_test true e =
            let both = and_parts (nat_lt 0 i) (event_at T t i).alight (sym e) in
            let later = later_than i both.0 in
            subst (λ rs. AreSettled L M rs (candidates_at M t i)) (sym (old_rows later both.1)) (subst (AreSettled L M (all_rows L)) (sym (new_rows later both.1)) all_settled)
        by_test false e =
            subst (λ rs. AreSettled L M rs (candidates_at M t i)) (sym (none L e)) (subst (AreSettled L M []) (sym (none M (e ∙ marks))) nothing)
          where
            none : (N : LinesData) → false ≡ (nat_lt 0 i && (event_at N.table t i).alight) → candidates_at N t i ≡ []
            none N f = ap (λ b. map (transfer_by_hop t i) (cond b (hops_if N) [])) (sym f)

    settled_untouched : is_touched_at L M t i ≡ false
    settled_untouched =
        or_from (not (pointwise same_transfer (candidates_at L t i) (candidates_at M t i))) (list_any (λ r. has_other_events T U r.to_trip) (candidates_at L t i))
        (not_from_true (pointwise same_transfer (candidates_at L t i) (candidates_at M t i)) ((same_rows (candidates_at L t i) (candidates_at M t i)).1 candidates_settled.same))
        (list_any_none (λ (r : Transfer). has_other_events T U r.to_trip) (candidates_at L t i) candidates_settled.calm)

-- what an event is wanted for, where the transfers from it are settled
abbrev WantedAt : LinesData → LinesData → ℕ → ℕ → Event → Type 0
WantedAt L M t i e =
    e.stop < length L.table.stops → AllPairs (λ (f g : Path). f.to < g.to) (get_or L.table.footpaths.paths e.stop []) → All (IsSoundPath (length L.table.stops) e.stop) (get_or L.table.footpaths.paths e.stop [])
    → IfSome (change L.table e.stop e.stop) (λ secs. AreSettled L M (rows_to L t i e.stop (e.arr +ℤ pos secs)) (rows_to M t i e.stop (e.arr +ℤ pos secs)))
    → All (λ (f : Path). AreSettled L M (rows_to L t i f.to (e.arr +ℤ pos f.secs)) (rows_to M t i f.to (e.arr +ℤ pos f.secs))) (get_or L.table.footpaths.paths e.stop []) → is_touched_at L M t i ≡ false

-- the same of an event and the footpaths from its stop, as they are read
pub settled_at : (L M : LinesData) → IsUpdated L.table M.table → (t i : ℕ) → has_other_events L.table M.table t ≡ false → (e : Event) → e ≡ event_at L.table t i → e.stop < length L.table.stops
    → (fs : List Path) → slice_get L.table.footpaths.paths e.stop ≡ Some fs → AllPairs (λ (f g : Path). f.to < g.to) fs → All (IsSoundPath (length L.table.stops) e.stop) fs
    → IfSome (change L.table e.stop e.stop) (λ secs. AreSettled L M (rows_to L t i e.stop (e.arr +ℤ pos secs)) (rows_to M t i e.stop (e.arr +ℤ pos secs)))
    → All (λ (f : Path). AreSettled L M (rows_to L t i f.to (e.arr +ℤ pos f.secs)) (rows_to M t i f.to (e.arr +ℤ pos f.secs))) fs → is_touched_at L M t i ≡ false
settled_at L M same t i times e is inside fs row up sound here paths =
    by_event e is inside (subst (AllPairs (λ (f g : Path). f.to < g.to)) (sym own) up) (subst (All (IsSoundPath (length L.table.stops) e.stop)) (sym own) sound) here
    (subst (All (λ (f : Path). AreSettled L M (rows_to L t i f.to (e.arr +ℤ pos f.secs)) (rows_to M t i f.to (e.arr +ℤ pos f.secs)))) (sym own) paths)
  where
    own : get_or L.table.footpaths.paths e.stop [] ≡ fs
    own = get_or_from_slice_get L.table.footpaths.paths e.stop fs [] row

    by_event : (e : Event) → e ≡ event_at L.table t i → WantedAt L M t i e
    by_event e is = subst (WantedAt L M t i) (sym is) (λ inside up sound here paths. settled_untouched L M same t i times inside here paths up sound)

-- ---- stops that aren't near one with doubts

module _ (L M : LinesData) (rows : List (List Doubt)) (near : List Bool) (all : AreAllDoubts L M rows) (marks : MarksNear L.table rows near) (p : ℕ) (inside : p < length L.table.stops) (off : get_or near p false ≡ false)
    (t i : ℕ) where
  far : (q : ℕ) (time : ℤ) → q < length L.table.stops → IsSome (change L.table p q) → AreSettled L M (rows_to L t i q time) (rows_to M t i q time)
  far q time there changes =
      (all.at q there).settled t i time (subst (All (IsSettled L M t i time)) (sym (marks.far p q inside off changes)) (λ k d below. absurd (omega (arith, below))))

  pub far_here : (arr : ℤ) → IfSome (change L.table p p) (λ secs. AreSettled L M (rows_to L t i p (arr +ℤ pos secs)) (rows_to M t i p (arr +ℤ pos secs)))
  far_here arr = by_secs (change L.table p p) refl
    where
      by_secs : (o : Option ℕ) → o ≡ change L.table p p → IfSome o (λ secs. AreSettled L M (rows_to L t i p (arr +ℤ pos secs)) (rows_to M t i p (arr +ℤ pos secs)))
      by_secs None e = tt
      by_secs (Some secs) e = far p (arr +ℤ pos secs) inside (some-IsSome (change L.table p p) secs (sym e))

  pub far_along : (arr : ℤ) (fs : List Path) → slice_get L.table.footpaths.paths p ≡ Some fs → AllPairs (λ (f g : Path). f.to < g.to) fs → All (IsSoundPath (length L.table.stops) p) fs
      → All (λ (f : Path). AreSettled L M (rows_to L t i f.to (arr +ℤ pos f.secs)) (rows_to M t i f.to (arr +ℤ pos f.secs))) fs
  far_along arr fs row up sound = λ k d below.
      let f : Path = get_or fs k d in
      let is_sound : IsSoundPath (length L.table.stops) p f = sound k d below in
      let here : Member f fs = Member-get_or fs k d below in
      let changes : change L.table p f.to ≡ Some f.secs =
      change-other L.table p f.to (λ e. is_sound.away (sym e))
      ∙ ap (λ row. option_map (λ (f : Path). f.secs) (find (λ g. g.to == f.to) row)) (get_or_from_slice_get L.table.footpaths.paths p fs [] row)
      ∙ ap (option_map (λ (f : Path). f.secs)) (find-own fs f up here) in
      far f.to (arr +ℤ pos f.secs) is_sound.to (some-IsSome (change L.table p f.to) f.secs changes)
