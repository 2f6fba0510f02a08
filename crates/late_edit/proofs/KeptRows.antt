-- The kept transfers of trips, one after another.
use Rattle.std.proofs.Common.{◌≡◌, ◌∙◌, sym, ap, refl, subst, ℕ, zero, suc, ◌+◌, ◌-◌, ◌<◌, ◌≤◌, ◌⊎◌, inl, inr, List, [], ◌∷◌, ◌++◌, length, get_or, cond, Bool, true, false, arith}
use Rattle.std.specs.Prelude.{All, filter, flat_map, if◌then◌else◌}
use Rattle.std.specs.List.{range_with_len}
use Rattle.std.proofs.lemmas.Bool.{cases_lt}
use Rattle.std.proofs.lemmas.List.{get_or_past, length-append, length-map}
use Rattle.std.proofs.lemmas.List.FromFn.{get_or-map-range_with_len, length-map-range_with_len, map-range_with_len_more}
use Rattle.std.proofs.lemmas.List.Concat.{flat_map-append}
use Rattle.std.proofs.lemmas.List.Elements.{filter-append}
use Rattle.tb_base.specs.declared.transfer.Hop.{Hop}
use Rattle.tb_base.specs.declared.transfer.Transfer.{Transfer}
use Rattle.tb_base.specs.Lines.{AreDividedInto}
use Rattle.tb_base.specs.OutSets.{AreRowsOf, IsTransferOf, hops_at, row_of}
use Rattle.tb_base.specs.Soundness.{IsSound}
use Rattle.tb_base.specs.Sufficiency.{AreSufficient}
use Rattle.tb_base.specs.TimetableData.{TimetableData, TripData, events_of, no_trip}
use Rattle.tb_base.specs.Transfers.{kept_hops, numbers_below, numbers_down, transfers_of}
use Rattle.tb_base.proofs.Lists.{length-filter_le, length-numbers_below, numbers_below-range}
use Rattle.tb_laws.specs.Rows.{transfer_by_hop}
use Rattle.tb_laws.proofs.KeptLaws.{kept_hops_sufficient}
use Rattle.transfer_pack.specs.Packed.{PackedHops, hops_rebuilt, packed}
use Rattle.transfer_pack.proofs.Packing.{packed_past}
use Rattle.line_split.specs.LinesData.{LinesData}
use Rattle.reduce_workers.specs.Reductions.{rows_from}
use Rattle.reduce_workers.proofs.KeptSets.{are_rows, hops_of_rows}
use Rattle.reduce_workers.proofs.MoreTrips.{one_more_count}
use Rattle.late_edit.specs.Touched.{is_touched, touched_count}
use Rattle.late_edit.specs.Updated.{IsUpdated, bare_event}
use Rattle.late_edit.proofs.SameEvents.{same_length, bare_events}
use Rattle.late_edit.proofs.Untouched.{rows_at}
use Rattle.edition_store.specs.Editions.{EditionData}
use Rattle.late_edit.specs.Amending.{AreKeptRows, RowsData, edition_lines, touched_row}

-- a trip's transfers by the hops of its first n events, the last one first
abbrev pub rows_below : (ℕ → List Hop) → ℕ → ℕ → List Transfer
rows_below hops t n = flat_map (rows_at hops t) (numbers_down n)

rows_counted : (hops : ℕ → List Hop) (t n : ℕ) → length (flat_map hops (numbers_below n)) ≡ length (rows_below hops t n)
rows_counted hops t zero = refl
rows_counted hops t (suc n) =
    omega (
      arith,
      ap length (flat_map-append hops (numbers_below n) (n ∷ [])),
      length-append (flat_map hops (numbers_below n)) (flat_map hops (n ∷ [])),
      length-append (hops n) [],
      length-append (rows_at hops t n) (rows_below hops t n),
      length-map {B = Transfer} (hops n) (transfer_by_hop t n),
      rows_counted hops t n,
    )

-- a trip with events has as many transfers as there are hops over all of them
pub hops_counted : (T : TimetableData) (hops held : ℕ → List Hop) (t n : ℕ) → n ≡ length (events_of T t) → 0 < n → ((i : ℕ) → held i ≡ hops i) → length (flat_map held (range_with_len 0 (suc (n - 1) - 0))) ≡ length (transfers_of T hops t)
hops_counted T hops held t n is some each =
    let all : suc (n - 1) - 0 ≡ n = omega (arith, some) in
    (λ k. length (flat_map (λ i. each i k) (range_with_len 0 (all k))))
    ∙ ap (λ ns. length (flat_map hops ns)) (sym (numbers_below-range n))
    ∙ rows_counted hops t n ∙ ap (λ m. length (rows_below hops t m)) is

-- and one without any has none
pub none_counted : (T : TimetableData) (hops : ℕ → List Hop) (t n : ℕ) → n ≡ length (events_of T t) → n ≡ 0 → 0 ≡ length (transfers_of T hops t)
none_counted T hops t n is none = ap (λ m. length (rows_below hops t m)) (sym none ∙ is)

one_or_none : (t : ℕ) (c : Bool) → length (cond c (t ∷ []) []) ≡ if c then 1 else 0
one_or_none t true = refl
one_or_none t false = refl

-- with one trip more
redone_more : (before after : LinesData) (t : ℕ) (b : Bool) → b ≡ is_touched before after t
    → length (filter (is_touched before after) (numbers_below (t + 1))) ≡ length (filter (is_touched before after) (numbers_below t)) + (if b then 1 else 0)
redone_more before after t b is =
    let p = is_touched before after in
    let next : t + 1 ≡ suc t = omega arith in
    ap (λ n. length (filter p (numbers_below n))) next ∙ (ap length (filter-append p (numbers_below t) (t ∷ []))
    ∙ (length-append (filter p (numbers_below t)) (filter p (t ∷ [])) ∙ ap (λ n. length (filter p (numbers_below t)) + n) (one_or_none t (p t) ∙ ap (λ c. if c then 1 else 0) (sym is))))

pub redone_le : (before after : LinesData) (t : ℕ) → length (filter (is_touched before after) (numbers_below t)) ≤ t
redone_le before after t = omega (arith, length-filter_le (is_touched before after) (numbers_below t), length-numbers_below t)

pub trip_added : (before after : LinesData) (t : ℕ) (old new : RowsData) (row : List Transfer) (touched : Bool) (kept : ℕ) → AreKeptRows before after t old
    → new ≡ record { rows = old.rows ++ row ∷ []; touched = old.touched ++ touched ∷ []; kept = old.kept + kept; redone = old.redone + (if touched then 1 else 0) }
    → row ≡ touched_row before after t → kept ≡ length (transfers_of after.table (kept_hops after.table after.lines t) t) → touched ≡ is_touched before after t → AreKeptRows before after (t + 1) new
trip_added before after t old new row touched kept so_far added is many told =
    let T = after.table in
    let hops = kept_hops T after.lines in
    let at : 0 + t ≡ t = omega arith in
    record {
      rows = ap (λ (r : RowsData). r.rows) added ∙ ((λ i. so_far.rows i ++ is i ∷ []) ∙ sym (map-range_with_len_more (touched_row before after) 0 t t at));
      touched = ap (λ (r : RowsData). r.touched) added ∙ ((λ i. so_far.touched i ++ told i ∷ []) ∙ sym (map-range_with_len_more (is_touched before after) 0 t t at));
      kept = ap (λ (r : RowsData). r.kept) added ∙ ((λ i. so_far.kept i + many i) ∙ sym (one_more_count T hops 0 t t at));
      redone = ap (λ (r : RowsData). r.redone) added ∙ (ap (λ n. n + (if touched then 1 else 0)) so_far.redone ∙ sym (redone_more before after t touched told));
    }

-- two timetables that differ in times and marks alone have trips with as many events
pub same_counts : (T U : TimetableData) → IsUpdated T U → (t : ℕ) → length (events_of T t) ≡ length (events_of U t)
same_counts T U updated t =
    sym (length-map (events_of T t) bare_event) ∙ (ap length (bare_events T U updated t) ∙ length-map (events_of U t) bare_event)

-- a trip that keeps its hops keeps its transfers
pub same_row : (L M : LinesData) (T : TimetableData) (t : ℕ) → M.table ≡ T → IsUpdated L.table T → (IsUpdated L.table M.table → (i : ℕ) → kept_hops L.table L.lines t i ≡ kept_hops M.table M.lines t i)
    → transfers_of L.table (kept_hops L.table L.lines t) t ≡ transfers_of T (kept_hops T M.lines t) t
same_row L M T t own updated each =
    let as_own : IsUpdated L.table M.table = subst (IsUpdated L.table) (sym own) updated in
    let hops : kept_hops L.table L.lines t ≡ kept_hops T M.lines t = (λ i k. each as_own k i) ∙ ap (λ U. kept_hops U M.lines t) own in
    let many : length (events_of L.table t) ≡ length (events_of T t) = same_counts L.table T updated t in
    λ i. flat_map (rows_at (hops i) t) (numbers_down (many i))

-- the row of a trip that is touched, and of one that isn't
pub row_touched : (L M : LinesData) (T : TimetableData) (t : ℕ) (row : List Transfer) → M.table ≡ T → is_touched L M t ≡ true → row ≡ transfers_of T (kept_hops T M.lines t) t → row ≡ touched_row L M t
row_touched L M T t row own touched is =
    is ∙ (ap (λ U. transfers_of U (kept_hops U M.lines t) t) (sym own) ∙ ap (λ b. if b then transfers_of M.table (kept_hops M.table M.lines t) t else []) (sym touched))

pub row_untouched : (L M : LinesData) (t : ℕ) → is_touched L M t ≡ false → [] ≡ touched_row L M t
row_untouched L M t untouched = ap (λ b. if b then transfers_of M.table (kept_hops M.table M.lines t) t else []) (sym untouched)

-- the lines of an edition are those of its timetable
pub edition_lines_are : (e : EditionData) (L : LinesData) → L.table ≡ e.table → L.lines ≡ e.lines → L ≡ edition_lines e
edition_lines_are e L table lines = λ i. record { table = table i; lines = lines i }

-- the rows of a timetable's touched trips
module _ (before after : LinesData) (sound : IsSound after.table) (divided : AreDividedInto after.table after.lines) (r : RowsData) (are : AreKeptRows before after (length after.table.trips) r) where
  abbrev count : ℕ
  count = length after.table.trips

  -- the hops that are kept, and the transfers of a trip by them
  abbrev hops : ℕ → ℕ → List Hop
  hops = kept_hops after.table after.lines

  abbrev kept : ℕ → List Transfer
  kept t = transfers_of after.table (hops t) t

  enough : AreSufficient after.table hops
  enough = kept_hops_sufficient after.table after.lines sound divided

  kept_at : (t : ℕ) → t < count → get_or (rows_from after.table hops 0 count) t [] ≡ kept t
  kept_at t h = get_or-map-range_with_len kept 0 count t t [] h (omega arith)

  row_at : (t : ℕ) → t < count → get_or r.rows t [] ≡ touched_row before after t
  row_at t h = ap (λ rs. get_or rs t []) are.rows ∙ get_or-map-range_with_len (touched_row before after) 0 count t t [] h (omega arith)

  mark_at : (t : ℕ) → t < count → get_or r.touched t false ≡ is_touched before after t
  mark_at t h = ap (λ bs. get_or bs t false) are.touched ∙ get_or-map-range_with_len (is_touched before after) 0 count t t false h (omega arith)

  hops_inside : (t i : ℕ) → t < count → hops_at (kept t) i ≡ hops t i
  hops_inside t i h = ap (λ row. hops_at row i) (sym (kept_at t h)) ∙ hops_of_rows after.table hops enough t i

  hops_past : (t i : ℕ) → count ≤ t → hops t i ≡ []
  hops_past t i h =
      sym (hops_of_rows after.table hops enough t i)
      ∙ ap (λ row. hops_at row i) (get_or_past (rows_from after.table hops 0 count) t [] (omega (arith, h, length-map-range_with_len kept 0 count)))

  -- they are transfers from the events of their trips
  pub are_touched_rows : AreRowsOf after.table r.rows
  are_touched_rows = record {
    long = ap length are.rows ∙ length-map-range_with_len (touched_row before after) 0 count;
    own = λ t h. subst (All (IsTransferOf after.table t)) (sym (row_at t h)) (by_mark t h (is_touched before after t));
  }
    where
      by_mark : (t : ℕ) → t < count → (b : Bool) → All (IsTransferOf after.table t) (if b then kept t else [])
      by_mark t h true = subst (All (IsTransferOf after.table t)) (kept_at t h) ((are_rows after.table hops enough).own t h)
      by_mark t h false = λ k d below. absurd (omega (arith, below))

  -- a set of them, and of a set of what was kept before, has what is kept
  pub rebuilt_kept : (set : PackedHops) → ((t : ℕ) → length (events_of set.table t) ≡ length (events_of after.table t)) → ((t i : ℕ) → is_touched before after t ≡ false → packed set t i ≡ hops t i)
      → (t i : ℕ) → hops_rebuilt set r.touched r.rows t i ≡ hops t i
  rebuilt_kept set events same t i = by_trip (cases_lt t count)
    where
      by_mark : t < count → (b : Bool) → b ≡ is_touched before after t → (if b then hops_at (if b then kept t else []) i else packed set t i) ≡ hops t i
      by_mark h true e = hops_inside t i h
      by_mark h false e = same t i (sym e)

      by_trip : (t < count) ⊎ (count ≤ t) → hops_rebuilt set r.touched r.rows t i ≡ hops t i
      by_trip (inl h) = (λ k. if mark_at t h k then hops_at (row_at t h k) i else packed set t i) ∙ by_mark h (is_touched before after t) refl
      by_trip (inr h) =
          let none : get_or r.touched t false ≡ false = get_or_past r.touched t false (omega (arith, h, ap length are.touched, length-map-range_with_len (is_touched before after) 0 count)) in
          let empty : length (events_of after.table t) ≡ 0 = ap (λ (x : TripData). length x.events) (get_or_past after.table.trips t no_trip h) in
          ap (λ b. if b then hops_at (row_of r.rows t) i else packed set t i) none ∙ packed_past set t i (omega (arith, events t, empty)) ∙ sym (hops_past t i h)

-- the same, over the timetable that the lines are of, where the rows and marks are these lists
module _ (e : EditionData) (M : LinesData) (T : TimetableData) (own : M.table ≡ T) (updated : IsUpdated e.table T) (sound : IsSound T) (divided : AreDividedInto M.table M.lines) (r : RowsData) (are : AreKeptRows (edition_lines e) M (length T.trips) r) (rows : List (List Transfer)) (marks : List Bool) (rows_are : rows ≡ r.rows) (marks_are : marks ≡ r.touched) where
  sound_own : IsSound M.table
  sound_own = subst IsSound (sym own) sound

  are_own : AreKeptRows (edition_lines e) M (length M.table.trips) r
  are_own = subst (λ (U : TimetableData). AreKeptRows (edition_lines e) M (length U.trips) r) (sym own) are

  updated_own : IsUpdated e.table M.table
  updated_own = subst (IsUpdated e.table) (sym own) updated

  pub table_rows : AreRowsOf T rows
  table_rows = subst (λ U. AreRowsOf U rows) own (subst (AreRowsOf M.table) (sym rows_are) (are_touched_rows (edition_lines e) M sound_own divided r are_own))

  pub table_marks : length marks ≡ length T.trips
  table_marks = ap length (marks_are ∙ are.touched) ∙ length-map-range_with_len (is_touched (edition_lines e) M) 0 (length T.trips)

  pub table_hops : (set : PackedHops) → set.table ≡ e.table → ((t i : ℕ) → packed set t i ≡ kept_hops e.table e.lines t i)
      → ((t i : ℕ) → IsUpdated e.table M.table → is_touched (edition_lines e) M t ≡ false → kept_hops e.table e.lines t i ≡ kept_hops M.table M.lines t i) → (t i : ℕ) → hops_rebuilt set marks rows t i ≡ kept_hops T M.lines t i
  table_hops set of_old has law t i =
      (λ k. hops_rebuilt set (marks_are k) (rows_are k) t i)
      ∙ rebuilt_kept (edition_lines e) M sound_own divided r are_own set
      (λ t. ap (λ (U : TimetableData). length (events_of U t)) of_old ∙ same_counts e.table M.table updated_own t)
      (λ t i untouched. has t i ∙ law t i updated_own untouched) t i
      ∙ ap (λ (U : TimetableData). kept_hops U M.lines t i) own

-- the touched trips are counted
pub all_touched : (e : EditionData) (M : LinesData) (T : TimetableData) (r : RowsData) → IsUpdated e.table T → AreKeptRows (edition_lines e) M (length T.trips) r → r.redone ≡ touched_count (edition_lines e) M
all_touched e M T r updated are =
    let many : length T.trips ≡ length e.table.trips = sym (same_length e.table T updated) in
    are.redone ∙ (λ i. length (filter (is_touched (edition_lines e) M) (numbers_below (many i))))
