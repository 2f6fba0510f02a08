-- What the change times and footpaths say of the rows of transfers.txt.
use Rattle.std.proofs.Common.{◌≡◌, ◌≢◌, ◌∙◌, refl, sym, ap, ℕ, ◌++◌, List, [], ◌∷◌, length, Option, Bool, true, false}
use Rattle.std.specs.Prelude.{Result, Ok, Err, ◌&&◌, not, nat_lt, bytes_eq}
use Rattle.std.specs.List.{list_any}
use Rattle.std.proofs.lemmas.List.FromFn.{length-map-range_with_len}
use Rattle.gtfs_rows.specs.Steps.{and_then}
use Rattle.gtfs_rows.specs.Faults.{spot, fault_if, unless_wrong, wrong_after}
use Rattle.gtfs_rows.specs.StopsFile.{StopData}
use Rattle.gtfs_rows.specs.TransfersFile.{TransferData}
use Rattle.gtfs_rows.specs.declared.fault.FeedFile.TheVariants as file
use Rattle.gtfs_rows.specs.declared.fault.FeedFault.{FeedFault}
use Rattle.gtfs_rows.specs.declared.fault.FeedFault.TheVariants as fault
use Rattle.gtfs_rows.specs.declared.fault.Many.{Many}
use Rattle.gtfs_rows.specs.declared.fault.Many.TheVariants as many
use Rattle.gtfs_rows.specs.declared.fault.Spot.{Spot}
use Rattle.footpaths.specs.declared.paths.Options.{Options}
use Rattle.footpaths.specs.Stops.{has_stop_id, platforms}
use Rattle.footpaths.specs.Links.{wrong_transfer, check_transfers}
use Rattle.footpaths.specs.Footpaths.{changes, footpaths, paths_of}
use Rattle.tb_base.specs.TimetableData.{FootpathData, path_total}
use Rattle.trip_table.specs.Day.{given_footpaths}
use Rattle.trip_table.proofs.DayTrips.{unless_wrong-value}

three : {A : Type 0} (a b c : Bool) (f g h k : FeedFault) (rest : List (Option FeedFault)) (x : A) → f ≢ k → g ≢ k → h ≢ k
    → (unless_wrong rest x ≡ Err k → ⊥) → unless_wrong ((fault_if a f ∷ fault_if b g ∷ fault_if c h ∷ []) ++ rest) x ≡ Err k → ⊥
three true b c f g h k rest x p q r more e = p (cc)
three false true c f g h k rest x p q r more e = q (cc)
three false false true f g h k rest x p q r more e = r (cc)
three false false false f g h k rest x p q r more e = more e

not_unknown : (s : Spot) (m : Many) (n : ℕ) → fault.UnknownStop s ≢ fault.TooMany m n
not_unknown s m n e = absurd (cc)

not_twice : (s : Spot) (m : Many) (n : ℕ) → fault.DuplicateTransfer s ≢ fault.TooMany m n
not_twice s m n e = absurd (cc)

-- rows are never too many footpaths
no_count : (stops : List StopData) (all earlier rows good : List TransferData) (m : Many) (n : ℕ) → unless_wrong (wrong_after (wrong_transfer stops all) earlier rows) good ≡ Err (fault.TooMany m n) → ⊥
no_count stops all earlier [] good m n e = absurd (cc)
no_count stops all earlier (r ∷ rest) good m n e =
    three (not (list_any (has_stop_id r.from) stops)) (not (list_any (has_stop_id r.to) stops)) (list_any (λ e. bytes_eq r.from e.from && bytes_eq r.to e.to) earlier)
    (fault.UnknownStop (spot file.Transfers r.row 1)) (fault.UnknownStop (spot file.Transfers r.row 2)) (fault.DuplicateTransfer (spot file.Transfers r.row 1)) (fault.TooMany m n) (wrong_after (wrong_transfer stops all) (earlier ++ r ∷ []) rest) good (not_unknown (spot file.Transfers r.row 1) m n) (not_unknown (spot file.Transfers r.row 2) m n) (not_twice (spot file.Transfers r.row 1) m n)
    (no_count stops all (earlier ++ r ∷ []) rest good m n) e

passed : {A : Type 0} (checked : Result (List TransferData) FeedFault) (rows : List TransferData) (next : List TransferData → Result A FeedFault) (x : A) → ((good : List TransferData) → checked ≡ Ok good → rows ≡ good)
    → and_then checked next ≡ Ok x → (checked ≡ Ok rows) × (next rows ≡ Ok x)
passed (Err f) rows next x same e = absurd (cc)
passed (Ok good) rows next x same e = let is : rows ≡ good = same good refl in (ap Ok (sym is), ap next is ∙ e)

counted : {A : Type 0} (checked : Result (List TransferData) FeedFault) (rows : List TransferData) (next : List TransferData → Result A FeedFault) (k : FeedFault) → ((good : List TransferData) → checked ≡ Ok good → rows ≡ good)
    → (checked ≡ Err k → ⊥) → and_then checked next ≡ Err k → (checked ≡ Ok rows) × (next rows ≡ Err k)
counted (Err f) rows next k same other e = absurd (other (cc))
counted (Ok good) rows next k same other e = let is : rows ≡ good = same good refl in (ap Ok (sym is), ap next is ∙ e)

-- where there are footpaths the rows are good, and tell them
pub told_good : (stops : List StopData) (options : Options) (rows : List TransferData) (paths : FootpathData) → footpaths stops options rows ≡ Ok paths → (check_transfers stops rows ≡ Ok rows) × (given_footpaths stops options rows ≡ Ok paths)
unfolding given_footpaths
told_good stops options rows paths = passed (check_transfers stops rows) rows (given_footpaths stops options) paths (unless_wrong-value (wrong_after (wrong_transfer stops rows) [] rows) rows)

-- where they are too many the rows are good, too
pub told_many : (stops : List StopData) (options : Options) (rows : List TransferData) (m : Many) (n : ℕ) → footpaths stops options rows ≡ Err (fault.TooMany m n)
    → (check_transfers stops rows ≡ Ok rows) × (given_footpaths stops options rows ≡ Err (fault.TooMany m n))
unfolding given_footpaths
told_many stops options rows m n =
    counted (check_transfers stops rows) rows (given_footpaths stops options) (fault.TooMany m n) (unless_wrong-value (wrong_after (wrong_transfer stops rows) [] rows) rows)
    (no_count stops rows [] rows rows m n)

-- there is a change time for each platform
pub change_count : (stops : List StopData) (options : Options) (rows : List TransferData) (paths : FootpathData) → given_footpaths stops options rows ≡ Ok paths → length paths.change ≡ length (platforms stops)
unfolding given_footpaths
change_count stops options rows paths e =
    let given = changes stops rows options in
    sym (ap (λ (p : FootpathData). length p.change) (unless_wrong-value (fault_if (nat_lt 2000000 (path_total (paths_of (length (platforms stops)) given))) (fault.TooMany many.Footpaths 0) ∷ []) (paths_of (length (platforms stops)) given) paths e)) ∙ length-map-range_with_len (λ p. given p p) 0 (length (platforms stops))
