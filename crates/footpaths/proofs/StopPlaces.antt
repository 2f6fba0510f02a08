-- The rows of one kind, one row more.
use Rattle.std.proofs.Common.{◌≡◌, ◌∙◌, sym, ap, refl, ℕ, ◌+◌, ◌<◌, ◌≤◌, Option, Some, None, List, [], ◌∷◌, ◌++◌, length, map, take, get_or, Bool, true, false, not, cond, arith}
use Rattle.std.specs.Prelude.{bytes_eq, filter, MatchBool, Ok, position, option_map, IfSome}
use Rattle.std.specs.Option.{option_or}
use Rattle.std.specs.List.{list_any}
use Rattle.std.proofs.lemmas.List.{take_more, map-append, length-map, append-nil}
use Rattle.std.proofs.lemmas.List.Elements.{filter-append}
use Rattle.std.proofs.lemmas.List.Quantifiers.{position-Some}
use Rattle.std.proofs.lemmas.Bool.{or_parts}
use Rattle.gtfs_rows.specs.StopsFile.{StopData, is_platform, is_station}
use Rattle.footpaths.specs.declared.found.Found.TheVariants as found
use Rattle.footpaths.specs.Stops.{stop_id, has_stop_id, platforms, stations, find_stop, check_stops}
use Rattle.footpaths.proofs.StopRows.{new_id}
use Rattle.tb_base.proofs.Lists.{length-filter_le, list_any-over_map, position-map}

none_kept_by : {X : Type 0} (p : X → Bool) (x : X) (kept : List X) (k : Bool) → p x ≡ false → list_any p kept ≡ false → list_any p (cond k (x ∷ kept) kept) ≡ false
none_kept_by p x kept true a e = rw a e
none_kept_by p x kept false a e = e

-- what no item passes, no kept item passes
pub none_kept : {X : Type 0} (p t : X → Bool) (xs : List X) → list_any p xs ≡ false → list_any p (filter t xs) ≡ false
none_kept p t [] e = refl
none_kept p t (x ∷ xs) e = let h = or_parts (p x) (list_any p xs) e in none_kept_by p x (filter t xs) (t x) h.0 (none_kept p t xs h.1)

pub few_ids : (ids : List (List ℕ)) (t : StopData → Bool) (stops : List StopData) (n : ℕ) → ids ≡ map stop_id (filter t stops) → length stops ≤ n → length ids ≤ n
few_ids ids t stops n e h = omega (arith, ap length e, length-map (filter t stops) stop_id, length-filter_le t stops)

pub filter_more : {X : Type 0} (t : X → Bool) (xs : List X) (i : ℕ) (x : X) → i < length xs → x ≡ get_or xs i x → filter t (take (i + 1) xs) ≡ filter t (take i xs) ++ filter t (x ∷ [])
filter_more t xs i x h at = ap (filter t) (take_more xs i x h ∙ ap (λ y. take i xs ++ y ∷ []) (sym at)) ∙ filter-append t (take i xs) (x ∷ [])

-- a row of the kind joins the ids of its kind
pub kind_more : (ids new : List (List ℕ)) (t : StopData → Bool) (stops : List StopData) (i : ℕ) (s : StopData) (fresh : Bool) → check_stops stops ≡ Ok stops → ids ≡ map stop_id (filter t (take i stops)) → i < length stops → s ≡ get_or stops i s → t s ≡ true
    → MatchBool fresh (new ≡ ids ++ s.id ∷ []) (new ≡ ids) → fresh ≡ not (list_any (bytes_eq s.id) ids) → new ≡ map stop_id (filter t (take (i + 1) stops))
kind_more ids new t stops i s fresh right e h at k added f =
    let absent : list_any (bytes_eq s.id) ids ≡ false = ap (list_any (bytes_eq s.id)) e ∙ list_any-over_map (bytes_eq s.id) stop_id (filter t (take i stops)) ∙ none_kept (has_stop_id s.id) t (take i stops) (new_id stops i s h at right) in
    let is_fresh : fresh ≡ true = f ∙ ap not absent in
    let grown : new ≡ ids ++ s.id ∷ [] = rw is_fresh at added in
    let more : filter t (take (i + 1) stops) ≡ filter t (take i stops) ++ s ∷ [] = filter_more t stops i s h at ∙ ap (λ b. filter t (take i stops) ++ cond b (s ∷ []) []) k in
    grown ∙ ap (λ ids. ids ++ s.id ∷ []) e ∙ sym (ap (map stop_id) more ∙ map-append stop_id (filter t (take i stops)) (s ∷ []))

-- a row of another kind doesn't
pub kind_same : {X : Type 0} (t : X → Bool) (xs : List X) (i : ℕ) (x : X) → i < length xs → x ≡ get_or xs i x → t x ≡ false → filter t (take (i + 1) xs) ≡ filter t (take i xs)
kind_same t xs i x h at k = filter_more t xs i x h at ∙ ap (λ b. filter t (take i xs) ++ cond b (x ∷ []) []) k ∙ append-nil (filter t (take i xs))

pub kind_new : {X : Type 0} (t : X → Bool) (xs : List X) (i : ℕ) (x : X) → i < length xs → x ≡ get_or xs i x → t x ≡ true → filter t (take (i + 1) xs) ≡ filter t (take i xs) ++ x ∷ []
kind_new t xs i x h at k = filter_more t xs i x h at ∙ ap (λ b. filter t (take i xs) ++ cond b (x ∷ []) []) k

-- what is kept of each row of the kind, one row more
pub map_kind_more : {X Y : Type 0} (f : X → Y) (t : X → Bool) (old new : List Y) (xs : List X) (i : ℕ) (x : X) (y : Y) → old ≡ map f (filter t (take i xs)) → i < length xs → x ≡ get_or xs i x → t x ≡ true → y ≡ f x → new ≡ old ++ y ∷ []
    → new ≡ map f (filter t (take (i + 1) xs))
map_kind_more f t old new xs i x y e h at k is grown =
    grown ∙ ap (λ ys. ys ++ y ∷ []) e ∙ ap (λ z. map f (filter t (take i xs)) ++ z ∷ []) is ∙ sym (ap (map f) (kind_new t xs i x h at k) ∙ map-append f (filter t (take i xs)) (x ∷ []))

-- the place of an id among the ids of a kind is that of its row
pub id_place : (ids : List (List ℕ)) (t : StopData → Bool) (stops : List StopData) (id : List ℕ) → ids ≡ map stop_id (filter t stops) → position (bytes_eq id) ids ≡ position (has_stop_id id) (filter t stops)
id_place ids t stops id e = ap (position (bytes_eq id)) e ∙ position-map (bytes_eq id) stop_id (filter t stops)

-- what has an id, by the places of the id in three indexes
pub find_stop-by : (stops : List StopData) (id : List ℕ) (ids platform_ids station_ids : List (List ℕ)) (a b : Option ℕ) (c : Bool) → ids ≡ map stop_id stops → platform_ids ≡ map stop_id (platforms stops) → station_ids ≡ map stop_id (stations stops)
    → a ≡ position (bytes_eq id) platform_ids → b ≡ position (bytes_eq id) station_ids → c ≡ list_any (bytes_eq id) ids
    → option_or (option_map found.Platform a) (option_or (option_map found.Station b) (cond c (Some found.Other) None)) ≡ find_stop stops id
find_stop-by stops id ids platform_ids station_ids a b c e p s x y z =
    let x' : a ≡ position (has_stop_id id) (platforms stops) = x ∙ id_place platform_ids (λ s. is_platform s.kind) stops id p in
    let y' : b ≡ position (has_stop_id id) (stations stops) = y ∙ id_place station_ids (λ s. is_station s.kind) stops id s in
    let z' : c ≡ list_any (has_stop_id id) stops = z ∙ ap (list_any (bytes_eq id)) e ∙ list_any-over_map (bytes_eq id) stop_id stops in
    rw (x', y', z') refl

-- the place of an id among all ids is that of its row
pub row_place : (ids : List (List ℕ)) (stops : List StopData) (id : List ℕ) → ids ≡ map stop_id stops → position (bytes_eq id) ids ≡ position (has_stop_id id) stops
row_place ids stops id e = ap (position (bytes_eq id)) e ∙ position-map (bytes_eq id) stop_id stops

pub few_rows : (ids : List (List ℕ)) (stops : List StopData) (n : ℕ) → ids ≡ map stop_id stops → length stops ≤ n → length ids ≤ n
few_rows ids stops n e h = omega (arith, ap length e, length-map stops stop_id)

-- a place is below the length
pub place_below : {X : Type 0} (p : X → Bool) (xs : List X) (n : ℕ) (o : Option ℕ) → o ≡ position p xs → length xs ≤ n → IfSome o (λ k. k < n)
place_below p [] n None e h = tt
place_below p [] n (Some k) e h = cc
place_below p (x ∷ xs) n None e h = tt
place_below p (x ∷ xs) n (Some k) e h = let w = position-Some p (x ∷ xs) k x (sym e) in omega (arith, w.0)
