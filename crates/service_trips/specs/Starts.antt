-- The rows of frequencies.txt, and when trips start by them.
use Rattle.std.specs.Prelude.{◌≡◌, ℕ, ◌+◌, ◌*◌, ◌-◌, ◌/◌, ◌==◌, ◌<◌, ◌≤◌, All, List, [], length, map, filter, get_or, slice_index_or, nat_lt, nat_le, min, Bool}
use Rattle.std.specs.List.{range_with_len}
use Rattle.tb_base.specs.KeyPlaces.{places_of}
use Rattle.service_trips.specs.declared.frequency.TripFrequency.{TripFrequency}
use Rattle.service_trips.specs.declared.starts.StartSpan.{StartSpan}
use Rattle.service_trips.specs.declared.starts.StartSpan.TheVariants as span

-- the rows of frequencies.txt, whose trips are named by numbers below a number of trips
pub record Frequencies : Type 0 where
  pub trips : ℕ
  pub rows : List TripFrequency

-- the row names the trip
abbrev pub names_trip : ℕ → TripFrequency → Bool
names_trip trip f = f.trip_row == trip

-- When trips start by a row: at its first start, and at each headway after it that is before its
-- end. A headway is at least a second, so there are no more starts than the end has seconds.
abbrev pub starts : TripFrequency → List ℕ
starts f =
    filter (λ start. nat_lt start f.end)
    (map (λ k. f.start + k * f.headway) (range_with_len 0 f.end))

-- times of at most 99:59:59, and a headway of at least a second
pub record IsGoodFrequency (f : TripFrequency) : Type 0 where
  pub start : f.start ≤ 359999
  pub end : f.end ≤ 359999
  pub headway : 1 ≤ f.headway

-- the row at a place
abbrev pub frequency_at : List TripFrequency → ℕ → TripFrequency
frequency_at rows place =
    slice_index_or rows place (record { row = 0; trip_row = 0; start = 0; end = 0; headway = 0 })

-- the rows are good, and indexed by the places of each trip
pub record AreIndexed (rows : List TripFrequency) (by_trip : List (List ℕ)) : Type 0 where
  pub few : length rows ≤ 200000
  pub trips : All (λ f. TripFrequency.trip_row f < length by_trip) rows
  pub good : All IsGoodFrequency rows
  pub places : (trip : ℕ) → trip < length by_trip →
      get_or by_trip trip [] ≡ places_of (map (λ f. TripFrequency.trip_row f) rows) trip

-- the starts that are not before a time
abbrev pub starts_from : ℕ → TripFrequency → List ℕ
starts_from least f = filter (λ start. nat_le least start) (starts f)

-- a start is not before the time of a span, or is before it
abbrev pub is_in : StartSpan → ℕ → Bool
is_in (span.From least) start = nat_le least start
is_in (span.Until end) start = nat_lt start end

-- the starts of a span
abbrev pub starts_in : StartSpan → TripFrequency → List ℕ
starts_in s f = filter (is_in s) (starts f)

-- the row with an end that is no later than a time
abbrev pub cut_at : ℕ → TripFrequency → TripFrequency
cut_at end f = record {
  row = f.row;
  trip_row = f.trip_row;
  start = f.start;
  end = min f.end end;
  headway = f.headway;
}

-- how many headways after the first start a time has passed
abbrev pub headways_to : ℕ → TripFrequency → ℕ
headways_to least f = (least - f.start + (f.headway - 1)) / f.headway

-- the first start that is not before a time, were there no end
abbrev pub first_from : ℕ → TripFrequency → ℕ
first_from least f = f.start + headways_to least f * f.headway
