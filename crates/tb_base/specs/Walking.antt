-- Walking and changing between stops, by footpaths and change times.
use Rattle.std.specs.Prelude.{◌≡◌, ◌≢◌, ℕ, ◌+◌, ◌≤◌, ◌==◌, [], Option, None, Some, if◌then◌else◌, slice_index_or, find, IsSomeAnd}
use Rattle.std.specs.Option.{option_map}
use Rattle.tb_base.specs.TimetableData.{FootpathData, TimetableData}

-- the seconds of the footpath from p to q, where there is one
abbrev pub footpath_secs : FootpathData → ℕ → ℕ → Option ℕ
footpath_secs F p q =
    option_map (λ f. f.secs) (find (λ f. f.to == q) (slice_index_or F.paths p []))

-- the change time of p, where it has one
abbrev pub change_time : FootpathData → ℕ → Option ℕ
change_time F p = slice_index_or F.change p None

-- The seconds that it takes to change from p to q: within one stop its change time, else those of
-- the footpath.
abbrev pub change_between : FootpathData → ℕ → ℕ → Option ℕ
change_between F p q = if p == q then change_time F p else footpath_secs F p q

-- The law on footpaths: two in a row are no faster than one, or than the change time where they
-- lead back.
abbrev pub KeepsFootpathLaw : FootpathData → Type 0
KeepsFootpathLaw F =
    (p q r pq qr : ℕ) → p ≢ q → q ≢ r →
    footpath_secs F p q ≡ Some pq → footpath_secs F q r ≡ Some qr →
    IsSomeAnd (change_between F p r) (λ pr. pr ≤ pq + qr)

-- the change from p to q in a timetable
abbrev pub change : TimetableData → ℕ → ℕ → Option ℕ
change T p q = change_between T.footpaths p q

-- the walk from p to q in a timetable: no time within one stop, else the footpath's
abbrev pub walk : TimetableData → ℕ → ℕ → Option ℕ
walk T p q = if p == q then Some 0 else footpath_secs T.footpaths p q
