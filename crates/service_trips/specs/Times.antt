-- When a trip arrives and departs at each of its stop times.
use Rattle.std.specs.Prelude.{ℕ, zero, suc, ◌+◌, ◌-◌, ◌*◌, ◌/◌, List, [], ◌∷◌, drop, slice_index_or, Option, Some, None, IfSome, ℤ, pos, ◌+ℤ◌, ◌-ℤ◌, unsigned_abs}
use Rattle.gtfs_rows.specs.Numbers.{IsFileTime}
use Rattle.service_trips.specs.declared.stop_time.StopTime.{StopTime}
use Rattle.service_trips.specs.declared.times.Times.{Times}
use Rattle.service_trips.specs.declared.times.Timepoint.{Timepoint}

-- what times a row gives are those of a file
pub record HasFileTimes (r : StopTime) : Type 0 where
  pub arr : IfSome r.arr IsFileTime
  pub dep : IfSome r.dep IsFileTime

pub record AreFileTimes (t : Times) : Type 0 where
  pub arr : IsFileTime t.arr
  pub dep : IsFileTime t.dep

-- where one of the two times is given, it stands for both
abbrev pub times_by : Option ℤ → Option ℤ → Option Times
times_by None None = None
times_by None (Some dep) = Some (record { arr = dep; dep = dep })
times_by (Some arr) None = Some (record { arr = arr; dep = arr })
times_by (Some arr) (Some dep) = Some (record { arr = arr; dep = dep })

-- the times of a row; it is timed where it has them
abbrev pub times_of_row : StopTime → Option Times
times_of_row r = times_by r.arr r.dep

-- the timed row at a place, or else another one
abbrev pub timed_or : ℕ → Option Times → Option Timepoint → Option Timepoint
timed_or k None other = other
timed_or k (Some t) other = Some (record { at = k; times = t })

-- the nearest timed row before a place
abbrev pub nearest_before : List (Option Times) → ℕ → Option Timepoint
nearest_before times zero = None
nearest_before times (suc k) = timed_or k (slice_index_or times k None) (nearest_before times k)

-- the first timed row, where the first row stands at a place
abbrev pub first_timed : ℕ → List (Option Times) → Option Timepoint
first_timed k [] = None
first_timed k (t ∷ rest) = timed_or k t (first_timed (k + 1) rest)

-- the nearest timed row after a place
abbrev pub nearest_after : List (Option Times) → ℕ → Option Timepoint
nearest_after times k = first_timed (k + 1) (drop (k + 1) times)

-- The times at a place between two timed rows, by its distance in rows from the first.
-- The first and the last row of a trip are timed, so both rows are there.
abbrev pub between : Option Timepoint → Option Timepoint → ℕ → Times
between (Some i) (Some j) k =
    let span = unsigned_abs (j.times.arr -ℤ i.times.dep) in
    let t = i.times.dep +ℤ pos (span * (k - i.at) / (j.at - i.at)) in
    record { arr = t; dep = t }
between (Some i) None k = i.times
between None j k = record { arr = pos 0; dep = pos 0 }

-- a row's own times, or else others
abbrev pub own_or : Option Times → Times → Times
own_or None other = other
own_or (Some own) other = own

-- the times at a place: the row's own, or else those between its neighbours
abbrev pub times_at : List (Option Times) → ℕ → Times
times_at times k =
    own_or (slice_index_or times k None)
    (between (nearest_before times k) (nearest_after times k) k)
