-- Rows of frequencies.txt whose starts are left out where one moves a time beyond a day.
use Rattle.std.proofs.Common.{◌≡◌, ◌∙◌, refl, sym, ap, subst, ℕ, ◌<◌, ◌≤◌, List, [], ◌∷◌, ◌++◌, length, map, flat_map, get_or, Bool, true, false, Option, Some, None, arith, append-nil}
use Rattle.std.specs.Prelude.{All, Result, Ok, Err, option_to_list}
use Rattle.std.proofs.lemmas.List.{get_or-map}
use Rattle.std.proofs.lemmas.List.Elements.{All-cons, All-head, All-nil, All-tail}
use Rattle.tb_base.specs.declared.table.Event.{Event}
use Rattle.gtfs_rows.specs.Faults.{fault_if, spot}
use Rattle.gtfs_rows.specs.Refused.{AreRowsRefused}
use Rattle.gtfs_rows.specs.declared.columns.frequencies.TheConstants as frequencies
use Rattle.gtfs_rows.specs.declared.fault.FeedFile.TheVariants as file
use Rattle.gtfs_rows.specs.declared.fault.FeedFault.{FeedFault}
use Rattle.gtfs_rows.specs.declared.fault.FeedFault.TheVariants as fault
use Rattle.gtfs_rows.specs.declared.fault.RowsFault.{RowsFault}
use Rattle.gtfs_rows.specs.declared.fault.RowsFault.TheVariants as why
use Rattle.service_trips.specs.Limits.{moves_beyond}
use Rattle.service_trips.specs.Starts.{IsGoodFrequency}
use Rattle.service_trips.specs.declared.frequency.TripFrequency.{TripFrequency}
use Rattle.trip_table.specs.Day.{rides_of_rows}
use Rattle.trip_table.specs.LeftFeed.{leave_starts, left_start, left_starts, start_faults, start_unless, wrong_start}
use Rattle.trip_table.specs.References.{Rows}
use Rattle.trip_table.specs.Sieves.{EndsBy, Sieved, Sieves, after, and_look, ended, silent}
use Rattle.trip_table.proofs.Looks.{follows, on, silently, stop}

-- the events of the trip that a row names
pub ride_at : {V : Type 0} (items : V → List Event) (rides : List V) (k : ℕ) (v : V) (ride : List Event) → k < length rides → ride ≡ items v → v ≡ get_or rides k v → ride ≡ get_or (map items rides) k []
ride_at items rides k v ride inside value at = value ∙ ap items at ∙ sym (get_or-map items rides k v [] inside)

-- a row that moves a time beyond a day, and one that moves none
pub beyond_row : (rides : List (List Event)) (f : TripFrequency) (ride : List Event) → ride ≡ get_or rides f.trip_row [] → moves_beyond ride f ≡ true → Some (fault.BeyondDay (spot file.Frequencies f.row frequencies.START_TIME)) ≡ wrong_start rides f
beyond_row rides f ride at e = sym (ap (λ (b : Bool). fault_if b (fault.BeyondDay (spot file.Frequencies f.row frequencies.START_TIME))) (subst (λ (r : List Event). moves_beyond r f ≡ true) at e))

pub within_row : (rides : List (List Event)) (f : TripFrequency) (ride : List Event) → ride ≡ get_or rides f.trip_row [] → moves_beyond ride f ≡ false → None ≡ wrong_start rides f
within_row rides f ride at e = sym (ap (λ (b : Bool). fault_if b (fault.BeyondDay (spot file.Frequencies f.row frequencies.START_TIME))) (subst (λ (r : List Event). moves_beyond r f ≡ false) at e))

-- what is told of a row, and what is left of it
pub none_told : (rides : List (List Event)) (f : TripFrequency) (told : List FeedFault) → None ≡ wrong_start rides f → told ≡ told ++ start_faults rides f
none_told rides f told e = sym (ap (λ (o : Option FeedFault). told ++ option_to_list o) (sym e) ∙ append-nil told)

pub one_told : (rides : List (List Event)) (f : TripFrequency) (g : FeedFault) (told now : List FeedFault) → Some g ≡ wrong_start rides f → now ≡ told ++ g ∷ [] → now ≡ told ++ start_faults rides f
one_told rides f g told now e is = is ∙ ap (λ (o : Option FeedFault). told ++ option_to_list o) e

pub start_kept : (rides : List (List Event)) (f : TripFrequency) → None ≡ wrong_start rides f → f ≡ left_start rides f
start_kept rides f e = ap (λ (o : Option FeedFault). start_unless o f) e

pub no_start : (rides : List (List Event)) (f : TripFrequency) (g : FeedFault) → Some g ≡ wrong_start rides f → start_unless (Some g) f ≡ left_start rides f
no_start rides f g e = ap (λ (o : Option FeedFault). start_unless o f) e

-- what a look leaves is looked at next, whatever comes of it
pub onward : {X A B : Type 0} (before mid now : List FeedFault) (s : Sieved A) (x : A) (next : A → Sieved B) (result : Result X RowsFault) (view : X → B) → after before s ≡ ended mid (Ok x) → Sieves (next x) mid now result view → Sieves (and_look s next) before now result view
onward before mid now s x next (Ok r) view e h = on before mid s x next e ∙ h
onward before mid now s x next (Err f) view e h = follows before mid now s x next f e h

-- where there are no rows nothing is told
pub none_named : (rows : Rows) (named : List TripFrequency) (told : List FeedFault) → length named ≡ 0 → after told (left_starts rows named) ≡ ended told (Ok named)
none_named rows [] told e = silently told (Ok []) (Ok []) refl
none_named rows (x ∷ others) told e = absurd (omega (arith, e))

-- trips whose times are wrong end it
pub rides_end : (rows : Rows) (named : List TripFrequency) (told : List FeedFault) (f : RowsFault) → 0 < length named → AreRowsRefused (rides_of_rows rows) f → EndsBy (left_starts rows named) told told f
rides_end rows [] told f some e = absurd (omega (arith, some))
rides_end rows (x ∷ others) told (why.Feed f) some e = stop told told (silent (rides_of_rows rows)) f (leave_starts (x ∷ others)) (silently told (rides_of_rows rows) (Err f) e)
rides_end rows (x ∷ others) told why.Memory some e = tt

-- the rows as they are left, and what is told
pub starts_left : (rows : Rows) (named left : List TripFrequency) (before now : List FeedFault) (rides : List (List Event)) → 0 < length named → rides_of_rows rows ≡ Ok rides → now ≡ before ++ flat_map (start_faults rides) named → left ≡ map (left_start rides) named
    → after before (left_starts rows named) ≡ ended now (Ok left)
starts_left rows [] left before now rides some is told kept = absurd (omega (arith, some))
starts_left rows (x ∷ others) left before now rides some is told kept =
    on before before (silent (rides_of_rows rows)) rides (leave_starts (x ∷ others)) (silently before (rides_of_rows rows) (Ok rides) is) ∙ rw (told, kept) refl

one_trip : (n : ℕ) (o : Option FeedFault) (f : TripFrequency) → f.trip_row < n → TripFrequency.trip_row (start_unless o f) < n
one_trip n None f h = h
one_trip n (Some g) f h = h

-- rows as they are left name the same trips, and are good
pub trips_kept : (n : ℕ) (rides : List (List Event)) (rows : List TripFrequency) → All (λ f. TripFrequency.trip_row f < n) rows → All (λ f. TripFrequency.trip_row f < n) (map (left_start rides) rows)
trips_kept n rides [] h = All-nil (λ f. TripFrequency.trip_row f < n)
trips_kept n rides (f ∷ rest) h =
    All-cons (λ f. TripFrequency.trip_row f < n) (left_start rides f) (map (left_start rides) rest) (one_trip n (wrong_start rides f) f (All-head (λ f. TripFrequency.trip_row f < n) f rest h))
    (trips_kept n rides rest (All-tail (λ f. TripFrequency.trip_row f < n) f rest h))

one_good : (o : Option FeedFault) (f : TripFrequency) → IsGoodFrequency f → IsGoodFrequency (start_unless o f)
one_good None f h = h
one_good (Some g) f h =
    let none : 0 ≤ 359999 = omega arith in
    let one : 1 ≤ 1 = omega arith in
    record { start = none; end = none; headway = one }

pub goods_kept : (rides : List (List Event)) (rows : List TripFrequency) → All IsGoodFrequency rows → All IsGoodFrequency (map (left_start rides) rows)
goods_kept rides [] h = All-nil IsGoodFrequency
goods_kept rides (f ∷ rest) h = All-cons IsGoodFrequency (left_start rides f) (map (left_start rides) rest) (one_good (wrong_start rides f) f (All-head IsGoodFrequency f rest h)) (goods_kept rides rest (All-tail IsGoodFrequency f rest h))
