-- One row of stops.txt more, and what rows without a fault keep.
use Rattle.std.proofs.Common.{◌≡◌, ◌∙◌, sym, ap, refl, ℕ, zero, suc, ◌+◌, ◌<◌, ◌≤◌, List, [], ◌∷◌, ◌++◌, length, map, take, drop, get_or, Bool, true, false, not, Option, Some, None, arith, subst}
use Rattle.std.specs.Prelude.{bytes_eq, Ok, Err}
use Rattle.std.specs.List.{list_any}
use Rattle.std.proofs.lemmas.List.{map_more, get_or_default}
use Rattle.tb_base.proofs.Lists.{list_any-over_map}
use Rattle.gtfs_rows.specs.StopsFile.{StopData}
use Rattle.gtfs_rows.specs.declared.fault.FeedFile.TheVariants as file
use Rattle.gtfs_rows.specs.declared.fault.FeedFault.{FeedFault}
use Rattle.gtfs_rows.specs.declared.fault.FeedFault.TheVariants as fault
use Rattle.gtfs_rows.specs.Faults.{unless_wrong, wrong_after, check_rows, fault_if, spot}
use Rattle.gtfs_rows.proofs.NextRow.{next_row}
use Rattle.footpaths.specs.Stops.{wrong_stop, stop_id, has_stop_id, lacks_parent, check_stops}

known : (ids : List (List ℕ)) (stops : List StopData) (i : ℕ) (s : StopData) (fresh : Bool) → ids ≡ map stop_id (take i stops) → fresh ≡ not (list_any (bytes_eq s.id) ids) → fresh ≡ not (list_any (has_stop_id s.id) (take i stops))
known ids stops i s fresh e f = f ∙ ap not (ap (list_any (bytes_eq s.id)) e ∙ list_any-over_map (bytes_eq s.id) stop_id (take i stops))

from_not : (a b : Bool) → a ≡ not b → b ≡ not a
from_not a true e = rw e refl
from_not a false e = rw e refl

pub stop_passes : (ids : List (List ℕ)) (stops : List StopData) (i : ℕ) (s : StopData) (fresh : Bool) → ids ≡ map stop_id (take i stops) → i < length stops → s ≡ get_or stops i s → fresh ≡ not (list_any (bytes_eq s.id) ids) → fresh ≡ true → lacks_parent stops s ≡ false
    → unless_wrong (wrong_after (wrong_stop stops) (take i stops) (drop i stops)) stops ≡ unless_wrong (wrong_after (wrong_stop stops) (take (i + 1) stops) (drop (i + 1) stops)) stops
stop_passes ids stops i s fresh e h at f y l =
    let no : list_any (has_stop_id s.id) (take i stops) ≡ false = from_not fresh _ (known ids stops i s fresh e f) ∙ ap not y in
    rw (next_row (wrong_stop stops) stops i s h at, no, l) refl

pub stop_twice : (ids : List (List ℕ)) (stops : List StopData) (i : ℕ) (s : StopData) (fresh : Bool) → ids ≡ map stop_id (take i stops) → i < length stops → s ≡ get_or stops i s → fresh ≡ not (list_any (bytes_eq s.id) ids) → fresh ≡ false
    → unless_wrong (wrong_after (wrong_stop stops) (take i stops) (drop i stops)) stops ≡ Err (fault.DuplicateId (spot file.Stops s.row 1))
stop_twice ids stops i s fresh e h at f n =
    let yes : list_any (has_stop_id s.id) (take i stops) ≡ true = from_not fresh _ (known ids stops i s fresh e f) ∙ ap not n in
    rw (next_row (wrong_stop stops) stops i s h at, yes) refl

pub stop_lacks : (ids : List (List ℕ)) (stops : List StopData) (i : ℕ) (s : StopData) (fresh : Bool) → ids ≡ map stop_id (take i stops) → i < length stops → s ≡ get_or stops i s → fresh ≡ not (list_any (bytes_eq s.id) ids) → fresh ≡ true → lacks_parent stops s ≡ true
    → unless_wrong (wrong_after (wrong_stop stops) (take i stops) (drop i stops)) stops ≡ Err (fault.UnknownStop (spot file.Stops s.row 3))
stop_lacks ids stops i s fresh e h at f y l =
    let no : list_any (has_stop_id s.id) (take i stops) ≡ false = from_not fresh _ (known ids stops i s fresh e f) ∙ ap not y in
    rw (next_row (wrong_stop stops) stops i s h at, no, l) refl

pub ids_more : (ids new : List (List ℕ)) (stops : List StopData) (i : ℕ) (s : StopData) → ids ≡ map stop_id (take i stops) → i < length stops → s ≡ get_or stops i s → new ≡ ids ++ s.id ∷ [] → new ≡ map stop_id (take (i + 1) stops)
ids_more ids new stops i s e h at n = n ∙ rw e (ap (λ (u : StopData). map stop_id (take i stops) ++ u.id ∷ []) at) ∙ sym (map_more stop_id stops i s h)

-- of faults of which none is there, neither part has one
passes_first : {A B : Type 0} (a b : List (Option FeedFault)) (x y : A) (z : B) → unless_wrong (a ++ b) x ≡ Ok y → unless_wrong a z ≡ Ok z
passes_first [] b x y z e = refl
passes_first (None ∷ a) b x y z e = passes_first a b x y z e
passes_first (Some f ∷ a) b x y z e = cc

passes_rest : {A : Type 0} (a b : List (Option FeedFault)) (x y : A) → unless_wrong (a ++ b) x ≡ Ok y → unless_wrong b x ≡ Ok y
passes_rest [] b x y e = e
passes_rest (None ∷ a) b x y e = passes_rest a b x y e
passes_rest (Some f ∷ a) b x y e = cc

right_from : {A B : Type 0} (wrong : List A → A → List (Option FeedFault)) (rows : List A) (d : A) (x y : B) (i : ℕ) → i ≤ length rows → unless_wrong (wrong_after wrong [] rows) x ≡ Ok y → unless_wrong (wrong_after wrong (take i rows) (drop i rows)) x ≡ Ok y
right_from wrong rows d x y zero h e = e
right_from wrong rows d x y (suc i) h e =
    let within : i < length rows = omega arith in
    let r = get_or rows i d in
    let at : r ≡ get_or rows i r = get_or_default rows i d r within in
    let before = right_from wrong rows d x y i (omega arith) e in
    let step = rw (next_row wrong rows i r within at) at before in
    let next : i + 1 ≡ suc i = omega arith in
    let P : ℕ → Type 0 = λ n. unless_wrong (wrong_after wrong (take n rows) (drop n rows)) x ≡ Ok y in
    subst P next (passes_rest (wrong (take i rows) r) _ x y step)

-- nothing is wrong with a row of rows without a fault
pub row_right : {A : Type 0} (wrong : List A → List A → A → List (Option FeedFault)) (rows : List A) (i : ℕ) (r : A) → i < length rows → r ≡ get_or rows i r → check_rows wrong rows ≡ Ok rows → unless_wrong (wrong rows (take i rows) r) r ≡ Ok r
row_right wrong rows i r h at e =
    let here = right_from (wrong rows) rows r rows rows i (omega arith) e in
    let step = rw (next_row (wrong rows) rows i r h at) at here in
    passes_first (wrong rows (take i rows) r) _ rows rows r step

first_passes : (b c : Bool) (f g : FeedFault) (s : StopData) → unless_wrong (fault_if b f ∷ fault_if c g ∷ []) s ≡ Ok s → b ≡ false
first_passes false c f g s e = refl
first_passes true c f g s e = cc

-- no earlier row has the id of a row
pub new_id : (stops : List StopData) (i : ℕ) (s : StopData) → i < length stops → s ≡ get_or stops i s → check_stops stops ≡ Ok stops → list_any (has_stop_id s.id) (take i stops) ≡ false
new_id stops i s h at e = first_passes (list_any (has_stop_id s.id) (take i stops)) _ _ _ s (row_right wrong_stop stops i s h at e)
