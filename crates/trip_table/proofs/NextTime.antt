-- One stop time more whose trip may have had its sequence number.
use Rattle.std.proofs.Common.{◌≡◌, ◌∙◌, sym, ap, refl, ℕ, ◌+◌, ◌<◌, List, [], ◌∷◌, ◌++◌, length, map, take, drop, get_or, Bool, true, false, not, None, ◌||◌}
use Rattle.std.specs.Prelude.{Err}
use Rattle.std.specs.List.{list_any}
use Rattle.std.proofs.lemmas.List.{map_more}
use Rattle.std.proofs.lemmas.List.Folds.{list_any-append}
use Rattle.tb_base.proofs.Lists.{list_any-over_map}
use Rattle.gtfs_rows.proofs.NextRow.{next_row}
use Rattle.gtfs_rows.specs.Faults.{unless_wrong, wrong_after, spot}
use Rattle.gtfs_rows.specs.declared.fault.FeedFile.TheVariants as file
use Rattle.gtfs_rows.specs.declared.fault.FeedFault.TheVariants as fault
use Rattle.gtfs_rows.specs.StopsFile.{StopData}
use Rattle.gtfs_rows.specs.TripsFile.{TripData}
use Rattle.trip_table.specs.References.{same_key, key_of, repeats, wrong_time, wrong_names}
use Rattle.service_trips.specs.declared.stop_time.StopTime.{StopTime}
use Rattle.trip_table.specs.declared.seen.SequenceKey.{SequenceKey}

-- where a walk over stop times stands: the keys so far, and the row at hand, whose ids are good, with whether its key is fresh
pub record IsNext (stops : List StopData) (trips : List TripData) (seen : List SequenceKey) (rows : List StopTime) (i : ℕ) (r : StopTime) (fresh : Bool) : Type 0 where
  pub keys : (k : SequenceKey) → list_any (same_key k) seen ≡ list_any (same_key k) (map key_of (take i rows))
  pub within : i < length rows
  pub here : r ≡ get_or rows i r
  pub good : None ≡ wrong_names stops trips r
  pub told : fresh ≡ not (list_any (same_key (key_of r)) seen)

from_not : (a b : Bool) → a ≡ not b → b ≡ not a
from_not a true e = rw e refl
from_not a false e = rw e refl

repeated : (stops : List StopData) (trips : List TripData) (seen : List SequenceKey) (rows : List StopTime) (i : ℕ) (r : StopTime) (fresh : Bool) → IsNext stops trips seen rows i r fresh → list_any (repeats r) (take i rows) ≡ not fresh
repeated stops trips seen rows i r fresh h =
    sym (list_any-over_map (same_key (key_of r)) key_of (take i rows)) ∙ sym (h.keys (key_of r)) ∙ from_not fresh _ h.told

pub passes : (stops : List StopData) (trips : List TripData) (seen : List SequenceKey) (rows : List StopTime) (i : ℕ) (r : StopTime) (fresh : Bool) → IsNext stops trips seen rows i r fresh → fresh ≡ true
    → unless_wrong (wrong_after (wrong_time stops trips rows) (take i rows) (drop i rows)) rows ≡ unless_wrong (wrong_after (wrong_time stops trips rows) (take (i + 1) rows) (drop (i + 1) rows)) rows
passes stops trips seen rows i r fresh h y =
    let no : list_any (repeats r) (take i rows) ≡ false = repeated stops trips seen rows i r fresh h ∙ ap not y in
    rw (next_row (wrong_time stops trips rows) rows i r h.within h.here, ← h.good, no) refl

pub stands_twice : (stops : List StopData) (trips : List TripData) (seen : List SequenceKey) (rows : List StopTime) (i : ℕ) (r : StopTime) (fresh : Bool) → IsNext stops trips seen rows i r fresh → fresh ≡ false
    → unless_wrong (wrong_after (wrong_time stops trips rows) (take i rows) (drop i rows)) rows ≡ Err (fault.DuplicateSequence (spot file.StopTimes r.row 5))
stands_twice stops trips seen rows i r fresh h n =
    let yes : list_any (repeats r) (take i rows) ≡ true = repeated stops trips seen rows i r fresh h ∙ ap not n in
    rw (next_row (wrong_time stops trips rows) rows i r h.within h.here, ← h.good, yes) refl

pub keys_more : (stops : List StopData) (trips : List TripData) (seen new : List SequenceKey) (rows : List StopTime) (i : ℕ) (r : StopTime) (fresh : Bool) → IsNext stops trips seen rows i r fresh
    → ((k : SequenceKey) → list_any (same_key k) new ≡ list_any (same_key k) (seen ++ key_of r ∷ [])) → (k : SequenceKey) → list_any (same_key k) new ≡ list_any (same_key k) (map key_of (take (i + 1) rows))
keys_more stops trips seen new rows i r fresh h n k =
    let one = key_of r ∷ [] in
    n k ∙ list_any-append (same_key k) seen one ∙ ap (λ b. b || list_any (same_key k) one) (h.keys k) ∙ sym (list_any-append (same_key k) (map key_of (take i rows)) one)
    ∙ ap (λ u. list_any (same_key k) (map key_of (take i rows) ++ key_of u ∷ [])) h.here ∙ ap (list_any (same_key k)) (sym (map_more key_of rows i r h.within))
