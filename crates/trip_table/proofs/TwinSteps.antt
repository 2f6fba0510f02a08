-- One stop time more that may repeat a number of its trip.
use Rattle.std.proofs.Common.{◌≡◌, ◌∙◌, refl, sym, ap, ℕ, suc, ◌+◌, ◌<◌, List, [], ◌∷◌, ◌++◌, length, map, take, drop, get_or, Bool, true, false, ◌||◌, add-one, drop-cons, append_assoc}
use Rattle.std.specs.Prelude.{not}
use Rattle.std.specs.List.{list_any}
use Rattle.std.proofs.lemmas.List.{take_more, map_more}
use Rattle.std.proofs.lemmas.List.Folds.{list_any-append}
use Rattle.tb_base.proofs.Lists.{list_any-over_map}
use Rattle.gtfs_rows.specs.Faults.{spot}
use Rattle.gtfs_rows.specs.declared.columns.stop_times.TheConstants as stop_times
use Rattle.gtfs_rows.specs.declared.fault.FeedFile.TheVariants as file
use Rattle.gtfs_rows.specs.declared.fault.FeedFault.TheVariants as fault
use Rattle.service_trips.specs.declared.broken.TripFault.{TripFault}
use Rattle.service_trips.specs.declared.stop_time.StopTime.{StopTime}
use Rattle.trip_table.specs.LeftFeed.{twins, twin_if}
use Rattle.trip_table.specs.References.{key_of, repeats, same_key}
use Rattle.trip_table.specs.declared.seen.SequenceKey.{SequenceKey}

-- where a walk over stop times stands: the keys so far, and the row at hand, with whether its key is fresh
pub record IsNext (seen : List SequenceKey) (rows : List StopTime) (i : ℕ) (r : StopTime) (fresh : Bool) : Type 0 where
  pub keys : (k : SequenceKey) → list_any (same_key k) seen ≡ list_any (same_key k) (map key_of (take i rows))
  pub within : i < length rows
  pub here : r ≡ get_or rows i r
  pub told : fresh ≡ not (list_any (same_key (key_of r)) seen)

from_not : (a b : Bool) → a ≡ not b → b ≡ not a
from_not a true e = rw e refl
from_not a false e = rw e refl

repeated : (seen : List SequenceKey) (rows : List StopTime) (i : ℕ) (r : StopTime) (fresh : Bool) → IsNext seen rows i r fresh → list_any (repeats r) (take i rows) ≡ not fresh
repeated seen rows i r fresh h = sym (list_any-over_map (same_key (key_of r)) key_of (take i rows)) ∙ sym (h.keys (key_of r)) ∙ from_not fresh _ h.told

next_twin : (rows : List StopTime) (i : ℕ) (r : StopTime) → i < length rows → r ≡ get_or rows i r → twins (take i rows) (drop i rows) ≡ twin_if (list_any (repeats r) (take i rows)) r ++ twins (take (i + 1) rows) (drop (i + 1) rows)
next_twin rows i r h at =
    let front : take i rows ++ r ∷ [] ≡ take (i + 1) rows = sym (take_more rows i r h ∙ ap (λ y. take i rows ++ y ∷ []) (sym at)) in
    let rest : drop i rows ≡ r ∷ drop (i + 1) rows = rw add-one (drop-cons rows i r h ∙ ap (λ y. y ∷ drop (suc i) rows) (sym at)) in
    rw (rest, front) refl

-- its number is fresh
pub passes : (seen : List SequenceKey) (rows : List StopTime) (i : ℕ) (r : StopTime) (fresh : Bool) (all found : List TripFault) → IsNext seen rows i r fresh → fresh ≡ true → all ≡ found ++ twins (take i rows) (drop i rows) → all ≡ found ++ twins (take (i + 1) rows) (drop (i + 1) rows)
passes seen rows i r fresh all found h y before =
    let no : list_any (repeats r) (take i rows) ≡ false = repeated seen rows i r fresh h ∙ ap not y in
    before ∙ ap (λ l. found ++ l) (next_twin rows i r h.within h.here ∙ ap (λ b. twin_if b r ++ twins (take (i + 1) rows) (drop (i + 1) rows)) no)

-- it repeats one
pub stands_twice : (seen : List SequenceKey) (rows : List StopTime) (i : ℕ) (r : StopTime) (fresh : Bool) (all found new : List TripFault) → IsNext seen rows i r fresh → fresh ≡ false → all ≡ found ++ twins (take i rows) (drop i rows)
    → new ≡ found ++ record { trip = r.trip_row; fault = fault.DuplicateSequence (spot file.StopTimes r.row stop_times.STOP_SEQUENCE) } ∷ [] → all ≡ new ++ twins (take (i + 1) rows) (drop (i + 1) rows)
stands_twice seen rows i r fresh all found new h n before pushed =
    let yes : list_any (repeats r) (take i rows) ≡ true = repeated seen rows i r fresh h ∙ ap not n in
    before ∙ ap (λ l. found ++ l) (next_twin rows i r h.within h.here ∙ ap (λ b. twin_if b r ++ twins (take (i + 1) rows) (drop (i + 1) rows)) yes) ∙ sym (append_assoc found (twin_if true r) (twins (take (i + 1) rows) (drop (i + 1) rows)))
    ∙ ap (λ l. l ++ twins (take (i + 1) rows) (drop (i + 1) rows)) (sym pushed)

pub keys_more : (seen new : List SequenceKey) (rows : List StopTime) (i : ℕ) (r : StopTime) (fresh : Bool) → IsNext seen rows i r fresh → ((k : SequenceKey) → list_any (same_key k) new ≡ list_any (same_key k) (seen ++ key_of r ∷ [])) → (k : SequenceKey)
    → list_any (same_key k) new ≡ list_any (same_key k) (map key_of (take (i + 1) rows))
keys_more seen new rows i r fresh h n k =
    let one = key_of r ∷ [] in
    n k ∙ list_any-append (same_key k) seen one ∙ ap (λ b. b || list_any (same_key k) one) (h.keys k) ∙ sym (list_any-append (same_key k) (map key_of (take i rows)) one)
    ∙ ap (λ u. list_any (same_key k) (map key_of (take i rows) ++ key_of u ∷ [])) h.here ∙ ap (list_any (same_key k)) (sym (map_more key_of rows i r h.within))
