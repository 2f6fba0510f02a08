-- Which faults end what is read for one who is lenient.
use Rattle.std.proofs.Common.{◌≡◌, ◌∙◌, ◌⊎◌, refl, sym, ap, subst, inl, inr, ℕ, List, [], ◌∷◌, length, map, Bool, true, false, Option, Some, None}
use Rattle.std.specs.Prelude.{All, Result, Ok, Err, nat_le, nat_lt, if◌then◌else◌}
use Rattle.std.proofs.lemmas.List.Elements.{All-cons, All-head, All-nil, All-tail}
use Rattle.tb_base.specs.TimetableData.{FootpathData, TripData, path_total}
use Rattle.tb_base.specs.declared.table.Event.{Event}
use Rattle.gtfs_rows.specs.Faults.{fault_if, unless_wrong}
use Rattle.gtfs_rows.specs.LeftOut.{bearer}
use Rattle.gtfs_rows.specs.Steps.{and_then, prepend}
use Rattle.gtfs_rows.specs.StopsFile.{StopData}
use Rattle.gtfs_rows.specs.declared.fault.FeedFile.{FeedFile}
use Rattle.gtfs_rows.specs.declared.fault.FeedFault.{FeedFault}
use Rattle.gtfs_rows.specs.declared.fault.FeedFault.TheVariants as fault
use Rattle.gtfs_rows.specs.declared.fault.Many.TheVariants as many
use Rattle.gtfs_rows.specs.TransfersFile.{TransferData}
use Rattle.footpaths.specs.Footpaths.{changes, check_count, paths_of}
use Rattle.footpaths.specs.Links.{check_transfers}
use Rattle.footpaths.specs.Stops.{platforms}
use Rattle.footpaths.specs.declared.law.LawFault.{LawFault}
use Rattle.footpaths.specs.declared.law.LawFault.TheVariants as law
use Rattle.footpaths.specs.declared.paths.Options.{Options}
use Rattle.service_trips.specs.Limits.{check_frequencies, checked_trips, wrong_frequency}
use Rattle.service_trips.specs.ServiceDay.{FeedTrips}
use Rattle.service_trips.specs.Sizes.{check_size, event_count}
use Rattle.service_trips.specs.TimeFaults.{wrong_trips}
use Rattle.service_trips.specs.TimetableTrips.{DayRunsData, timetable_trips}
use Rattle.service_trips.specs.declared.frequency.TripFrequency.{TripFrequency}
use Rattle.trip_table.specs.Day.{AreClosedOrTested, DayParts, HasFarPair, HasTooMany, IsTimetableOfParts, Then, breach_fault, given_footpaths, rides_of_rows, trips_on}
use Rattle.trip_table.specs.Feed.{Feed, sized}
use Rattle.trip_table.specs.LeftFeed.{IsLeftOf, IsLenientOf, IsTimetableLeft, LeftData, feed_files, gone_trips, leave_starts, left_after_rows, left_data, left_frequencies, left_rows, left_start, left_starts, left_transfers, named_frequencies, parts_left, sized_all, start_unless, text_at}
use Rattle.trip_table.specs.References.{Rows}
use Rattle.trip_table.specs.Sieves.{Sieved, and_look, silent}
use Rattle.trip_table.proofs.LeftUnborne.{Unborne, data_unborne, look_gives, looks, rides_right, rows_right, transfers_right}

one_fault : {A : Type 0} (g f : FeedFault) → (let r : Result A FeedFault = Err g in r) ≡ Err f → g ≡ f
one_fault g f e = cc

ends_by : {A : Type 0} (g f : FeedFault) → bearer g ≡ None → (let r : Result A FeedFault = Err g in r) ≡ Err f → bearer f ≡ None
ends_by g f h e = subst (λ (f : FeedFault). bearer f ≡ None) (one_fault g f e) h

never_ends : {A : Type 0} (x : A) (f : FeedFault) → (let r : Result A FeedFault = Ok x in r) ≡ Err f → bearer f ≡ None
never_ends x f e = absurd (cc)

-- a step or the next one ends it
either : {A B : Type 0} (m : Result A FeedFault) (next : A → Result B FeedFault) (f : FeedFault) → ((g : FeedFault) → m ≡ Err g → bearer g ≡ None) → ((x : A) → m ≡ Ok x → (g : FeedFault) → next x ≡ Err g → bearer g ≡ None) → and_then m next ≡ Err f → bearer f ≡ None
either (Ok x) next f first second e = second x refl f e
either {A} {B} (Err g) next f first second e = ends_by {A = B} g f (first g refl) e

good_step : {A : Type 0} (m : Result A FeedFault) (x : A) → m ≡ Ok x → (f : FeedFault) → m ≡ Err f → bearer f ≡ None
good_step (Ok y) x is f e = absurd (cc)
good_step (Err g) x is f e = absurd (cc)

-- what may be wrong may end it
abbrev MayEnd : Option FeedFault → Type 0
MayEnd o = (g : FeedFault) → o ≡ Some g → bearer g ≡ None

wrong_ends : {A : Type 0} (wrong : List (Option FeedFault)) (x : A) (f : FeedFault) → All MayEnd wrong → unless_wrong wrong x ≡ Err f → bearer f ≡ None
wrong_ends [] x f h e = never_ends x f e
wrong_ends (None ∷ rest) x f h e = wrong_ends rest x f (All-tail MayEnd None rest h) e
wrong_ends {A} (Some g ∷ rest) x f h e = let first : MayEnd (Some g) = All-head MayEnd (Some g) rest h in ends_by {A = A} g f (first g refl) e

unborne_if : (b : Bool) (f : FeedFault) → bearer f ≡ None → MayEnd (fault_if b f)
unborne_if true f none g e = let same : f ≡ g = cc in ap bearer (sym same) ∙ none
unborne_if false f none g e = absurd (cc)

size_ends : (trips : List TripData) (f : FeedFault) → check_size trips ≡ Err f → bearer f ≡ None
size_ends trips f e =
    let first = fault_if (nat_lt 500000 (length trips)) (fault.TooMany many.RunningTrips 0) in
    let second = fault_if (nat_lt 10000000 (event_count trips)) (fault.TooMany many.Events 0) in
    wrong_ends (first ∷ second ∷ []) trips f
    (All-cons MayEnd first (second ∷ []) (unborne_if (nat_lt 500000 (length trips)) (fault.TooMany many.RunningTrips 0) refl)
    (All-cons MayEnd second [] (unborne_if (nat_lt 10000000 (event_count trips)) (fault.TooMany many.Events 0) refl) (All-nil MayEnd))) e

count_ends : (paths : FootpathData) (f : FeedFault) → check_count paths ≡ Err f → bearer f ≡ None
count_ends paths f e =
    let only = fault_if (nat_lt 2000000 (path_total paths)) (fault.TooMany many.Footpaths 0) in
    wrong_ends (only ∷ []) paths f (All-cons MayEnd only [] (unborne_if (nat_lt 2000000 (path_total paths)) (fault.TooMany many.Footpaths 0) refl) (All-nil MayEnd)) e

trips_end : (feed : FeedTrips) (days : List DayRunsData) → check_frequencies feed ≡ Ok feed.frequencies → (f : FeedFault) → checked_trips feed days ≡ Err f → bearer f ≡ None
unfolding checked_trips
trips_end feed days right f e = either (check_frequencies feed) _ f (good_step (check_frequencies feed) feed.frequencies right) (λ x is g q. size_ends (timetable_trips feed days) g q) e

given_end : (stops : List StopData) (options : Options) (transfers : List TransferData) (f : FeedFault) → given_footpaths stops options transfers ≡ Err f → bearer f ≡ None
unfolding given_footpaths
given_end stops options transfers f e = count_ends (paths_of (length (platforms stops)) (changes stops transfers options)) f e

-- what is right in what is left
record IsRight (left : LeftData) : Type 0 where
  transfers : check_transfers left.rows.stops left.transfers ≡ Ok left.transfers
  times : (x : List (List Event)) → unless_wrong (wrong_trips left.rows.times 0 (length left.rows.trips)) x ≡ Ok x
  starts : (rides : List (List Event)) → rides_of_rows left.rows ≡ Ok rides → check_frequencies (record { rows = left.rows.trips; rides = rides; frequencies = left.frequencies }) ≡ Ok left.frequencies

one_value : {A : Type 0} (x y : A) → (let r : Result A FeedFault = Ok x in r) ≡ Ok y → x ≡ y
one_value x y e = cc

-- nothing is wrong with the starts of rows that are left
start_fine : (feed : FeedTrips) (f : TripFrequency) → wrong_frequency feed (left_start feed.rides f) ≡ None
start_fine feed f = by_fault (wrong_frequency feed f) refl
  where
    by_fault : (o : Option FeedFault) → wrong_frequency feed f ≡ o → wrong_frequency feed (start_unless o f) ≡ None
    by_fault None is = is
    by_fault (Some g) is = refl

starts_fine : (feed : FeedTrips) (rows y : List TripFrequency) → unless_wrong (map (wrong_frequency feed) (map (left_start feed.rides) rows)) y ≡ Ok y
starts_fine feed [] y = refl
starts_fine feed (r ∷ rest) y = ap (λ (o : Option FeedFault). unless_wrong (o ∷ map (wrong_frequency feed) (map (left_start feed.rides) rest)) y) (start_fine feed r) ∙ starts_fine feed rest y

starts_right : (rows : Rows) (gone : List Bool) (text : Option (List ℕ)) (left : List TripFrequency) → (left_frequencies rows gone text).end ≡ Ok left → (rides : List (List Event)) → rides_of_rows rows ≡ Ok rides → check_frequencies (record { rows = rows.trips; rides = rides; frequencies = left }) ≡ Ok left
starts_right rows gone text left e rides is = let a = look_gives (named_frequencies rows.trips gone text) (left_starts rows) left e in by_rows a.0 a.2
  where
    feed : FeedTrips
    feed = record { rows = rows.trips; rides = rides; frequencies = left }

    by_rows : (named : List TripFrequency) → (left_starts rows named).end ≡ Ok left → check_frequencies feed ≡ Ok left
    by_rows [] q = subst (λ (l : List TripFrequency). unless_wrong (map (wrong_frequency feed) l) left ≡ Ok left) (one_value [] left q) refl
    by_rows (f ∷ others) q =
        let b = look_gives (silent (rides_of_rows rows)) (leave_starts (f ∷ others)) left q in
        let same : b.0 ≡ rides = one_value b.0 rides (sym b.1 ∙ is) in
        let made : map (left_start b.0) (f ∷ others) ≡ left = one_value (map (left_start b.0) (f ∷ others)) left b.2 in
        let kept : map (left_start rides) (f ∷ others) ≡ left = subst (λ (r : List (List Event)). map (left_start r) (f ∷ others) ≡ left) same made in
        subst (λ (l : List TripFrequency). unless_wrong (map (wrong_frequency feed) l) left ≡ Ok left) kept (starts_fine feed (f ∷ others) left)

data_right : (texts : List (Option (List ℕ))) (left : LeftData) → (left_data texts).end ≡ Ok left → IsRight left
data_right texts left e =
    let a = look_gives (left_rows texts) (left_after_rows texts) left e in
    let b = look_gives (left_transfers a.0.stops (text_at texts 5)) _ left a.2 in
    let gone = gone_trips a.0.stops a.0.trips (text_at texts 4) in
    let c = look_gives (left_frequencies a.0 gone (text_at texts 6)) _ left b.2 in
    let same : record { rows = a.0; transfers = b.0; frequencies = c.0 } ≡ left = one_value (record { rows = a.0; transfers = b.0; frequencies = c.0 }) left c.2 in
    subst (λ (left : LeftData). IsRight left) same
    (record {
      transfers = transfers_right a.0.stops (text_at texts 5) b.0 b.1;
      times = λ x. rows_right texts a.0 a.1 x;
      starts = λ rides is. starts_right a.0 gone (text_at texts 6) c.0 c.1 rides is;
    })

parts_end : (day : ℕ) (options : Options) (left : LeftData) → IsRight left → (f : FeedFault) → parts_left day options left ≡ Err f → bearer f ≡ None
parts_end day options left right f e =
    let rides = rides_right left.rows right.times in
    either (check_transfers left.rows.stops left.transfers) _ f (good_step (check_transfers left.rows.stops left.transfers) left.transfers right.transfers)
    (λ transfers is g q.
    either (trips_on left.rows left.frequencies day options.horizon) _ g
    (λ h r. either (rides_of_rows left.rows) _ h (good_step (rides_of_rows left.rows) rides.0 rides.1) (λ found there k s. trips_end (record { rows = left.rows.trips; rides = found; frequencies = left.frequencies }) _ (right.starts found there) k s) r)
    (λ trips there h r. either (given_footpaths left.rows.stops options transfers) _ h (λ k s. given_end left.rows.stops options transfers k s) (λ footpaths so k s. never_ends _ k s) r) q) e

law_end : (stops : List StopData) (breach : LawFault) (f : FeedFault) → f ≡ breach_fault stops breach → bearer f ≡ None
law_end stops (law.Absent p q r) f e = ap bearer e
law_end stops (law.Long p q r) f e = ap bearer e

footpaths_end : (close : Bool) (stops : List StopData) (given : FootpathData) (f : FeedFault) → AreClosedOrTested close stops given (Err f) → bearer f ≡ None
footpaths_end false stops given f h = law_end stops h.0 f h.2
footpaths_end true stops given f h = by_kind h.has
  where
    by_kind : (HasTooMany given h.closed f ⊎ HasFarPair stops given h.closed f) → bearer f ≡ None
    by_kind (inl many) = ap bearer many.named
    by_kind (inr far) = ap bearer far.named

timetable_end : (options : Options) (parts : Result DayParts FeedFault) (f : FeedFault) → ((g : FeedFault) → parts ≡ Err g → bearer g ≡ None) → Then parts (IsTimetableOfParts options.close) (Err f) → bearer f ≡ None
timetable_end options (Ok parts) f first h = footpaths_end options.close parts.stops parts.footpaths f h
timetable_end options (Err g) f first h = let same : f ≡ g = cc in first f (ap Err (sym same))

data_end : (day : ℕ) (options : Options) (looked : Sieved LeftData) (f : FeedFault) → Unborne looked → ((left : LeftData) → looked.end ≡ Ok left → IsRight left) → Then looked.end (IsTimetableLeft day options) (Err f) → bearer f ≡ None
data_end day options looked f unborne right h = by_end looked.end refl h
  where
    by_end : (end : Result LeftData FeedFault) → looked.end ≡ end → Then end (IsTimetableLeft day options) (Err f) → bearer f ≡ None
    by_end (Ok left) is q = timetable_end options (parts_left day options left) f (λ g r. parts_end day options left (right left is) g r) q
    by_end (Err g) is q = let same : f ≡ g = cc in unborne f (is ∙ ap Err (sym same))

sized_end : (file : FeedFile) (o : Option (List ℕ)) (f : FeedFault) → sized file o ≡ Err f → bearer f ≡ None
sized_end file None f e = absurd (cc)
sized_end file (Some bytes) f e = by_size (nat_le (length bytes) 1073741824) e
  where
    by_size : (b : Bool) → and_then (let r : Result (List ℕ) FeedFault = if b then Ok bytes else Err (fault.FileTooLarge file) in r) (λ text. Ok (Some text)) ≡ Err f → bearer f ≡ None
    by_size true q = absurd (cc)
    by_size false q = let same : fault.FileTooLarge file ≡ f = cc in ap bearer (sym same)

sizes_end : (feed : Feed) (files : List FeedFile) (f : FeedFault) → sized_all feed files ≡ Err f → bearer f ≡ None
sizes_end feed [] f e = absurd (cc)
sizes_end feed (file ∷ rest) f e = by_size (sized file (feed file)) refl (sized_all feed rest) (λ g q. sizes_end feed rest g q) e
  where
    by_size : (m : Result (Option (List ℕ)) FeedFault) → sized file (feed file) ≡ m → (all : Result (List (Option (List ℕ))) FeedFault) → ((g : FeedFault) → all ≡ Err g → bearer g ≡ None) → and_then m (λ text. prepend (text ∷ []) all) ≡ Err f → bearer f ≡ None
    by_size (Err g) is all later q = let same : g ≡ f = cc in sized_end file (feed file) f (is ∙ ap Err same)
    by_size (Ok text) is (Ok texts) later q = absurd (cc)
    by_size (Ok text) is (Err g) later q = let same : g ≡ f = cc in later f (ap Err same)

feed_end : (feed : Feed) (day : ℕ) (options : Options) (before now : List FeedFault) (f : FeedFault) → IsLeftOf feed day options before now (Err f) → bearer f ≡ None
feed_end feed day options before now f h =
    data_end day options (and_look (silent (sized_all feed feed_files)) left_data) f (looks (silent (sized_all feed feed_files)) left_data (λ g e. sizes_end feed feed_files g e) (λ texts is. data_unborne texts))
    (λ left e. let a = look_gives (silent (sized_all feed feed_files)) left_data left e in data_right a.0 left a.2) h.1

-- the faults that end what is read for one who is lenient
pub lenient_end : (feed : Feed) (day : ℕ) (options : Options) (faults : List FeedFault) (f : FeedFault) → IsLenientOf feed day options faults (Err f) → bearer f ≡ None
lenient_end feed day options faults f (inl strict) = strict.1 refl
lenient_end feed day options faults f (inr left) = feed_end feed day options [] faults f left.3
