-- One row more that is kept, or left out.
use Rattle.std.proofs.Common.{◌≡◌, ◌∙◌, refl, sym, ap, List, [], ◌∷◌, ◌++◌, ℕ, Bool, true, false, Option, Some, None, append-nil, map}
use Rattle.std.specs.Prelude.{not, Ok, bytes_eq}
use Rattle.std.specs.List.{list_any}
use Rattle.tb_base.proofs.Lists.{list_any-over_map}
use Rattle.gtfs_rows.specs.declared.fault.FeedFault.{FeedFault}
use Rattle.service_trips.specs.Faults.{first_wrong}
use Rattle.trip_table.specs.References.{wrong_twice}
use Rattle.trip_table.specs.Sieves.{ended, after}
use Rattle.trip_table.specs.LeftFeed.{sift, keep_unless}
use Rattle.trip_table.proofs.Looks.{after_twice}

-- a row is kept
pub keep : {A : Type 0} (wrong : List A → A → List (Option FeedFault)) (begin told : List FeedFault) (all kept new rows rest : List A) (r : A) → rows ≡ r ∷ rest → first_wrong (wrong kept r) ≡ None → new ≡ kept ++ r ∷ []
    → after begin (sift wrong [] all) ≡ after told (sift wrong kept rows) → after begin (sift wrong [] all) ≡ after told (sift wrong new rest)
keep wrong begin told all kept new rows rest r e good pushed before =
    before ∙ ap (λ rows. after told (sift wrong kept rows)) e ∙ ap (λ o. after told (keep_unless o (sift wrong (kept ++ r ∷ []) rest) (sift wrong kept rest))) good ∙ ap (λ new. after told (sift wrong new rest)) (sym pushed)

-- a row is left out
pub leave : {A : Type 0} (wrong : List A → A → List (Option FeedFault)) (begin told now : List FeedFault) (all kept rows rest : List A) (r : A) (f : FeedFault) → rows ≡ r ∷ rest → first_wrong (wrong kept r) ≡ Some f → now ≡ told ++ f ∷ []
    → after begin (sift wrong [] all) ≡ after told (sift wrong kept rows) → after begin (sift wrong [] all) ≡ after now (sift wrong kept rest)
leave wrong begin told now all kept rows rest r f e bad pushed before =
    before ∙ ap (λ rows. after told (sift wrong kept rows)) e ∙ ap (λ o. after told (keep_unless o (sift wrong (kept ++ r ∷ []) rest) (sift wrong kept rest))) bad ∙ after_twice told (f ∷ []) (sift wrong kept rest)
    ∙ ap (λ now. after now (sift wrong kept rest)) (sym pushed)

-- no row is left
pub done : {A : Type 0} (wrong : List A → A → List (Option FeedFault)) (begin told : List FeedFault) (all kept rest : List A) → rest ≡ [] → after begin (sift wrong [] all) ≡ after told (sift wrong kept rest) → after begin (sift wrong [] all) ≡ ended told (Ok kept)
done wrong begin told all kept rest e before = before ∙ ap (λ rest. after told (sift wrong kept rest)) e ∙ ap (λ told. ended told (Ok kept)) (append-nil told)

-- whether an id is fresh
from_not : (a b : Bool) → a ≡ not b → b ≡ not a
from_not a true e = rw e refl
from_not a false e = rw e refl

known : {A : Type 0} (id : A → List ℕ) (ids : List (List ℕ)) (kept : List A) (r : A) (fresh : Bool) → ids ≡ map id kept → fresh ≡ not (list_any (bytes_eq (id r)) ids) → list_any (λ e. bytes_eq (id r) (id e)) kept ≡ not fresh
known id ids kept r fresh e h = from_not fresh _ (h ∙ ap not (ap (list_any (bytes_eq (id r))) e ∙ list_any-over_map (bytes_eq (id r)) id kept))

-- an id is fresh
pub fresh_id : {A : Type 0} (id : A → List ℕ) (twice : A → FeedFault) (ids : List (List ℕ)) (kept : List A) (r : A) (fresh : Bool) → ids ≡ map id kept → fresh ≡ not (list_any (bytes_eq (id r)) ids) → fresh ≡ true
    → first_wrong (wrong_twice id twice kept r) ≡ None
fresh_id id twice ids kept r fresh e h y = let no : list_any (λ e. bytes_eq (id r) (id e)) kept ≡ false = known id ids kept r fresh e h ∙ ap not y in rw no refl

-- an id stands twice
pub second_id : {A : Type 0} (id : A → List ℕ) (twice : A → FeedFault) (ids : List (List ℕ)) (kept : List A) (r : A) (fresh : Bool) → ids ≡ map id kept → fresh ≡ not (list_any (bytes_eq (id r)) ids) → fresh ≡ false
    → first_wrong (wrong_twice id twice kept r) ≡ Some (twice r)
second_id id twice ids kept r fresh e h n = let yes : list_any (λ e. bytes_eq (id r) (id e)) kept ≡ true = known id ids kept r fresh e h ∙ ap not n in rw yes refl
