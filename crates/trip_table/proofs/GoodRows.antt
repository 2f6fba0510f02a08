-- Stop times whose trips and stops are there.
use Rattle.std.proofs.Common.{◌≡◌, ◌≢◌, ◌∙◌, refl, sym, subst, ℕ, ◌<◌, ◌≤◌, List, [], ◌∷◌, ◌++◌, ◌||◌, length, Option, Some, None, Bool, true, false, inl, inr, arith}
use Rattle.std.specs.Prelude.{Result, Ok, Err, All, AllPairs, ok_or, option_map, IfSome, ◌==◌, nat_le, nat_lt, if◌then◌else◌}
use Rattle.std.specs.List.{list_any}
use Rattle.std.proofs.lemmas.Bool.{eq-eqb, and_from, leb-false, ltb-false}
use Rattle.std.proofs.lemmas.List.Elements.{All-cons, All-nil}
use Rattle.std.proofs.lemmas.List.Kept.{AllPairs-cons}
use Rattle.tb_base.proofs.Ordered.{Member}
use Rattle.gtfs_rows.specs.Steps.{and_then}
use Rattle.gtfs_rows.specs.Faults.{unless_wrong, wrong_after, fault_if, check_rows}
use Rattle.gtfs_rows.specs.RawRows.{RawRow, cell, typed_rows}
use Rattle.gtfs_rows.specs.Numbers.{IsFileTime, number_of, time_of}
use Rattle.gtfs_rows.specs.Fields.{id_of, or_empty, mark_of}
use Rattle.gtfs_rows.specs.StopsFile.{StopData}
use Rattle.gtfs_rows.specs.TripsFile.{TripData}
use Rattle.gtfs_rows.specs.TimesFile.{TimeData, time_row}
use Rattle.gtfs_rows.specs.declared.fault.FeedFile.TheVariants as file
use Rattle.gtfs_rows.specs.declared.fault.FeedFault.{FeedFault}
use Rattle.footpaths.specs.Stops.{platforms}
use Rattle.service_trips.specs.declared.stop_time.StopTime.{StopTime}
use Rattle.service_trips.specs.Times.{HasFileTimes}
use Rattle.trip_table.specs.References.{numbered, numbered_row, wrong_names, wrong_time, repeats}
use Rattle.trip_table.specs.GoodTimes.{AreGoodTimes}
use Rattle.trip_table.proofs.RowFacts.{rows_all}
use Rattle.gtfs_rows.proofs.FileTimes.{time_or_none}

pub opened : {A B : Type 0} (o : Option A) (f : FeedFault) (next : A → Result B FeedFault) (y : B) → and_then (ok_or o f) next ≡ Ok y → (x : A) × (o ≡ Some x) × (next x ≡ Ok y)
opened None f next y e = absurd (cc)
opened (Some x) f next y e = (x, refl, e)

pub inner : {A : Type 0} (a b : A) → (let r : Result (Option A) FeedFault = Ok (Some a) in r) ≡ Ok (Some b) → a ≡ b
inner a b e = cc

time_parts : (raw : RawRow) (t : TimeData) → time_row raw ≡ Ok (Some t) → IfSome t.arr IsFileTime × IfSome t.dep IsFileTime
time_parts raw t e =
    let a = opened (id_of (cell raw 1)) _ _ _ e in
    let b = opened (or_empty time_of (cell raw 2)) _ _ _ a.2 in
    let c = opened (or_empty time_of (cell raw 3)) _ _ _ b.2 in
    let d = opened (id_of (cell raw 4)) _ _ _ c.2 in
    let f = opened (number_of (cell raw 5)) _ _ _ d.2 in
    let g = opened (mark_of (cell raw 6)) _ _ _ f.2 in
    let h = opened (mark_of (cell raw 7)) _ _ _ g.2 in
    let same = inner (record { row = raw.row; trip = a.0; arr = b.0; dep = c.0; stop = d.0; sequence = f.0; board = g.0; alight = h.0 }) t h.2 in
    subst (λ (u : TimeData). IfSome u.arr IsFileTime × IfSome u.dep IsFileTime) same (time_or_none (cell raw 2) b.0 b.1, time_or_none (cell raw 3) c.0 c.1)

row_times : (stops : List StopData) (trips : List TripData) (read : Result (Option TimeData) FeedFault) (x : StopTime) → ((t : TimeData) → read ≡ Ok (Some t) → IfSome t.arr IsFileTime × IfSome t.dep IsFileTime)
    → and_then read (λ r. Ok (option_map (numbered stops trips) r)) ≡ Ok (Some x) → HasFileTimes x
row_times stops trips (Err f) x h e = absurd (cc)
row_times stops trips (Ok None) x h e = absurd (cc)
row_times stops trips (Ok (Some t)) x h e =
    let same : numbered stops trips t ≡ x = inner (numbered stops trips t) x e in
    let both = h t refl in
    subst (λ (y : StopTime). HasFileTimes y) same (record { arr = both.0; dep = both.1 })

-- a stop time that is read has times of a file
pub timed_row : (stops : List StopData) (trips : List TripData) (raw : RawRow) (x : StopTime) → numbered_row stops trips raw ≡ Ok (Some x) → HasFileTimes x
timed_row stops trips raw x e = row_times stops trips (time_row raw) x (time_parts raw) e

-- stop times that are read have times of a file
all_timed : (stops : List StopData) (trips : List TripData) (text : List ℕ) (rows : List StopTime) → typed_rows file.StopTimes (numbered_row stops trips) text ≡ Ok rows → All HasFileTimes rows
all_timed stops trips text rows = rows_all HasFileTimes file.StopTimes (numbered_row stops trips) (λ raw x e. row_times stops trips (time_row raw) x (time_parts raw) e) text rows

none_of : (x : StopTime) (r : StopTime) (earlier : List StopTime) → Member x earlier → list_any (repeats r) earlier ≡ false → repeats r x ≡ false
none_of x r [] m e = absurd m
none_of x r (y ∷ ys) m e = by_test (λ k f. none_of x r ys k f) (repeats r y) refl e m
  where
    by_test : (Member x ys → list_any (repeats r) ys ≡ false → repeats r x ≡ false) → (b : Bool) → repeats r y ≡ b → (b || list_any (repeats r) ys) ≡ false → Member x (y ∷ ys) → repeats r x ≡ false
    by_test later true q f m = absurd (let k : true ≡ false = f in cc)
    by_test later false q f (inl is) = subst (λ z. repeats r z ≡ false) is q
    by_test later false q f (inr more) = later more f

member_later : (x y : StopTime) (xs : List StopTime) → Member x xs → Member x (xs ++ y ∷ [])
member_later x y [] m = absurd m
member_later x y (z ∷ zs) (inl is) = inl is
member_later x y (z ∷ zs) (inr more) = inr (member_later x y zs more)

member_last : (y : StopTime) (xs : List StopTime) → Member y (xs ++ y ∷ [])
member_last y [] = inl refl
member_last y (z ∷ zs) = inr (member_last y zs)

Differs : StopTime → StopTime → Type 0
Differs r s = r.trip_row ≡ s.trip_row → r.sequence ≢ s.sequence

differs : (x r : StopTime) → repeats r x ≡ false → Differs x r
unfolding Differs
differs x r e t s =
    let yes : repeats r x ≡ true = and_from (r.trip_row == x.trip_row) (r.sequence == x.sequence) (eq-eqb r.trip_row x.trip_row (sym t)) (eq-eqb r.sequence x.sequence (sym s)) in
    let no : true ≡ false = sym yes ∙ e in
    cc

-- a row whose trip and stop are there
pub record IsGood (stops : List StopData) (trips : List TripData) (r : StopTime) : Type 0 where
  pub trip : r.trip_row < length trips
  pub stop : r.stop < length (platforms stops)

good_by : (m n s p : ℕ) (f g h : FeedFault) → (if nat_le n m then Some f else if s == p then Some g else fault_if (nat_lt p s) h) ≡ None → (m < n) × (s < p)
good_by m n s p f g h e = by_trip (nat_le n m) refl e
  where
    by_far : (b : Bool) → nat_lt p s ≡ b → (s == p) ≡ false → m < n → fault_if b h ≡ None → (m < n) × (s < p)
    by_far true is apart below k = absurd (cc)
    by_far false is apart below k =
        let most : s ≤ p = ltb-false p s is in
        let other : s ≢ p = λ same. (let yes : (s == p) ≡ true = eq-eqb s p same in let no : true ≡ false = sym yes ∙ apart in cc) in
        (below, omega (arith, most, other))

    by_stop : (b : Bool) → (s == p) ≡ b → m < n → (if b then Some g else fault_if (nat_lt p s) h) ≡ None → (m < n) × (s < p)
    by_stop true is below k = absurd (cc)
    by_stop false is below k = by_far (nat_lt p s) refl is below k

    by_trip : (b : Bool) → nat_le n m ≡ b → (if b then Some f else if s == p then Some g else fault_if (nat_lt p s) h) ≡ None → (m < n) × (s < p)
    by_trip true is k = absurd (cc)
    by_trip false is k = by_stop (s == p) refl (leb-false n m is) k

-- along rows after earlier ones, each names things that are there, and repeats no earlier one
module _ (stops : List StopData) (trips : List TripData) where
  pub good_row : (r : StopTime) → wrong_names stops trips r ≡ None → IsGood stops trips r
  good_row r e = let h = good_by r.trip_row (length trips) r.stop (length (platforms stops)) _ _ _ e in record { trip = h.0; stop = h.1 }

  IsClean : List StopTime → List StopTime → Type 0
  IsClean earlier [] = Unit {0}
  IsClean earlier (r ∷ rest) = (wrong_names stops trips r ≡ None) × (list_any (repeats r) earlier ≡ false) × IsClean (earlier ++ r ∷ []) rest

  parts : (o : Option FeedFault) (b : Bool) (f : FeedFault) (rest : List (Option FeedFault)) (all : List StopTime) → unless_wrong ((o ∷ fault_if b f ∷ []) ++ rest) all ≡ Ok all
      → (o ≡ None) × (b ≡ false) × (unless_wrong rest all ≡ Ok all)
  parts (Some g) b f rest all e = absurd (cc)
  parts None true f rest all e = absurd (cc)
  parts None false f rest all e = (refl, refl, e)

  clean : (earlier rows all : List StopTime) → unless_wrong (wrong_after (wrong_time stops trips all) earlier rows) all ≡ Ok all → IsClean earlier rows
  unfolding IsClean
  clean earlier [] all e = tt
  clean earlier (r ∷ rest) all e =
      let p = parts (wrong_names stops trips r) (list_any (repeats r) earlier) _ (wrong_after (wrong_time stops trips all) (earlier ++ r ∷ []) rest) all e in
      (p.0, p.1, clean (earlier ++ r ∷ []) rest all p.2)

  others : (x : StopTime) (earlier rows : List StopTime) → Member x earlier → IsClean earlier rows → All (λ r. Differs x r) rows
  unfolding IsClean
  others x earlier [] m c = All-nil (λ r. Differs x r)
  others x earlier (r ∷ rest) m c =
      All-cons (λ s. Differs x s) r rest (differs x r (none_of x r earlier m c.1)) (others x (earlier ++ r ∷ []) rest (member_later x r earlier m) c.2)

  pairs : (earlier rows : List StopTime) → IsClean earlier rows → AllPairs Differs rows
  unfolding IsClean
  pairs earlier [] c = λ i j d before below. absurd (omega arith)
  pairs earlier (r ∷ rest) c = AllPairs-cons Differs r rest (others r (earlier ++ r ∷ []) rest (member_last r earlier) c.2) (pairs (earlier ++ r ∷ []) rest c.2)

  good_rows : (earlier rows : List StopTime) → IsClean earlier rows → All (IsGood stops trips) rows
  unfolding IsClean
  good_rows earlier [] c = All-nil (IsGood stops trips)
  good_rows earlier (r ∷ rest) c = All-cons (IsGood stops trips) r rest (good_row r c.0) (good_rows (earlier ++ r ∷ []) rest c.2)

  -- stop times with which nothing is wrong name their trips and platforms, and no two of a trip have one number
  pub good_timed : (rows : List StopTime) → length rows ≤ 20000000 → All HasFileTimes rows → check_rows (wrong_time stops trips) rows ≡ Ok rows → AreGoodTimes stops trips rows
  unfolding Differs
  good_timed rows few given checked =
      let c = clean [] rows rows checked in
      let g = good_rows [] rows c in
      record {
        few = few;
        trip = λ k d b. (g k d b).trip;
        stop = λ k d b. (g k d b).stop;
        given = given;
        sequences = pairs [] rows c;
      }

  -- the same of those that are read
  pub good_times : (text : List ℕ) (rows : List StopTime) → length rows ≤ 20000000 → typed_rows file.StopTimes (numbered_row stops trips) text ≡ Ok rows → check_rows (wrong_time stops trips) rows ≡ Ok rows
      → AreGoodTimes stops trips rows
  good_times text rows few read checked = good_timed rows few (all_timed stops trips text rows read) checked
