-- One row more whose id may stand in an earlier row.
use Rattle.std.proofs.Common.{◌≡◌, ◌∙◌, sym, ap, refl, ℕ, ◌+◌, ◌<◌, List, [], ◌∷◌, ◌++◌, length, map, take, drop, get_or, Bool, true, false, not}
use Rattle.std.specs.Prelude.{bytes_eq, Err}
use Rattle.std.specs.List.{list_any}
use Rattle.std.proofs.lemmas.List.{map_more}
use Rattle.tb_base.proofs.Lists.{list_any-over_map}
use Rattle.gtfs_rows.proofs.NextRow.{next_row}
use Rattle.gtfs_rows.specs.Faults.{unless_wrong, wrong_after}
use Rattle.gtfs_rows.specs.declared.fault.FeedFault.{FeedFault}
use Rattle.trip_table.specs.References.{wrong_twice}

-- where a walk over rows stands: the ids so far, and the row at hand with whether its id is fresh
pub record IsNext {A : Type 0} (id : A → List ℕ) (ids : List (List ℕ)) (rows : List A) (i : ℕ) (r : A) (fresh : Bool) : Type 0 where
  pub ids_are : ids ≡ map id (take i rows)
  pub within : i < length rows
  pub here : r ≡ get_or rows i r
  pub told : fresh ≡ not (list_any (bytes_eq (id r)) ids)

known : {A : Type 0} (id : A → List ℕ) (ids : List (List ℕ)) (rows : List A) (i : ℕ) (r : A) (fresh : Bool) → IsNext id ids rows i r fresh → fresh ≡ not (list_any (λ e. bytes_eq (id r) (id e)) (take i rows))
known id ids rows i r fresh h = h.told ∙ ap not (ap (list_any (bytes_eq (id r))) h.ids_are ∙ list_any-over_map (bytes_eq (id r)) id (take i rows))

from_not : (a b : Bool) → a ≡ not b → b ≡ not a
from_not a true e = rw e refl
from_not a false e = rw e refl

pub passes : {A : Type 0} (id : A → List ℕ) (twice : A → FeedFault) (ids : List (List ℕ)) (rows : List A) (i : ℕ) (r : A) (fresh : Bool) → IsNext id ids rows i r fresh → fresh ≡ true
    → unless_wrong (wrong_after (wrong_twice id twice) (take i rows) (drop i rows)) rows ≡ unless_wrong (wrong_after (wrong_twice id twice) (take (i + 1) rows) (drop (i + 1) rows)) rows
passes id twice ids rows i r fresh h y =
    let no : list_any (λ e. bytes_eq (id r) (id e)) (take i rows) ≡ false = from_not fresh _ (known id ids rows i r fresh h) ∙ ap not y in
    rw (next_row (wrong_twice id twice) rows i r h.within h.here, no) refl

pub stands_twice : {A : Type 0} (id : A → List ℕ) (twice : A → FeedFault) (ids : List (List ℕ)) (rows : List A) (i : ℕ) (r : A) (fresh : Bool) → IsNext id ids rows i r fresh → fresh ≡ false
    → unless_wrong (wrong_after (wrong_twice id twice) (take i rows) (drop i rows)) rows ≡ Err (twice r)
stands_twice id twice ids rows i r fresh h n =
    let yes : list_any (λ e. bytes_eq (id r) (id e)) (take i rows) ≡ true = from_not fresh _ (known id ids rows i r fresh h) ∙ ap not n in
    rw (next_row (wrong_twice id twice) rows i r h.within h.here, yes) refl

pub ids_more : {A : Type 0} (id : A → List ℕ) (ids new : List (List ℕ)) (rows : List A) (i : ℕ) (r : A) (fresh : Bool) → IsNext id ids rows i r fresh → new ≡ ids ++ id r ∷ [] → new ≡ map id (take (i + 1) rows)
ids_more id ids new rows i r fresh h n = n ∙ rw h.ids_are (ap (λ u. map id (take i rows) ++ id u ∷ []) h.here) ∙ sym (map_more id rows i r h.within)
