-- One row of transfers.txt more.
use Rattle.std.proofs.Common.{◌≡◌, ◌∙◌, sym, ap, refl, ℕ, ◌+◌, ◌*◌, ◌<◌, ◌≤◌, List, [], ◌∷◌, ◌++◌, length, map, take, drop, get_or, Bool, true, false, not, ◌&&◌, Option, Some, None, arith}
use Rattle.std.specs.Prelude.{bytes_eq, nat_eq, Err, All, position, unwrap_or, is_some}
use Rattle.std.specs.List.{list_any}
use Rattle.std.proofs.lemmas.Bool.Decides.{nat_tests}
use Rattle.std.proofs.lemmas.List.{map_more, take_more}
use Rattle.std.proofs.lemmas.List.Elements.{All-push, All-head, All-tail}
use Rattle.std.proofs.lemmas.List.Quantifiers.{position-Some}
use Rattle.std.proofs.lemmas.Slice.Eq.{bytes_eq-Decides}
use Rattle.std.proofs.lemmas.Bool.{and_from, and_parts}
use Rattle.tb_base.proofs.Lists.{list_any-over_map}
use Rattle.tb_base.proofs.Found.{found}
use Rattle.gtfs_rows.specs.StopsFile.{StopData}
use Rattle.gtfs_rows.specs.TransfersFile.{TakesAtMostADay, TransferData}
use Rattle.gtfs_rows.specs.declared.fault.FeedFile.TheVariants as file
use Rattle.gtfs_rows.specs.declared.fault.FeedFault.TheVariants as fault
use Rattle.gtfs_rows.specs.Faults.{unless_wrong, wrong_after, spot}
use Rattle.gtfs_rows.proofs.NextRow.{next_row}
use Rattle.footpaths.specs.Stops.{has_stop_id}
use Rattle.footpaths.specs.Links.{wrong_transfer, HasEnds, pair_number, place_of}

-- the row at the place of an id has the id
at_place : (stops : List StopData) (id : List ℕ) (k : ℕ) (d : StopData) → position (has_stop_id id) stops ≡ Some k → (k < length stops) × (id ≡ StopData.id (get_or stops k d))
at_place stops id k d e = let h = position-Some (has_stop_id id) stops k d e in (h.0, (bytes_eq-Decides id (StopData.id (get_or stops k d))).0 h.1)

place-some : (stops : List StopData) (id : List ℕ) → list_any (has_stop_id id) stops ≡ true → position (has_stop_id id) stops ≡ Some (place_of stops id)
place-some stops id e = by_option (position (has_stop_id id) stops) (found (has_stop_id id) stops ∙ e)
  where
    by_option : (o : Option ℕ) → is_some o ≡ true → o ≡ Some (unwrap_or o 0)
    by_option None e = cc
    by_option (Some k) e = refl

pub place-lt : (stops : List StopData) (id : List ℕ) (n : ℕ) → length stops ≤ n → list_any (has_stop_id id) stops ≡ true → place_of stops id < n
place-lt stops id n few e =
    let d : StopData = record { row = 0; id = []; kind = Rattle.gtfs_rows.specs.declared.stops.Kind.TheVariants.Other; parent = [] } in
    let h = at_place stops id (place_of stops id) d (place-some stops id e) in omega (arith, h.0)

-- two ids have one place exactly where they are equal
same_place : (stops : List StopData) (a b : List ℕ) → list_any (has_stop_id a) stops ≡ true → list_any (has_stop_id b) stops ≡ true → place_of stops a ≡ place_of stops b → a ≡ b
same_place stops a b h k e =
    let d : StopData = record { row = 0; id = []; kind = Rattle.gtfs_rows.specs.declared.stops.Kind.TheVariants.Other; parent = [] } in
    (at_place stops a (place_of stops a) d (place-some stops a h)).1 ∙ ap (λ n. StopData.id (get_or stops n d)) e ∙ sym (at_place stops b (place_of stops b) d (place-some stops b k)).1

digits_same : (a b c d : ℕ) → b < 100000 → d < 100000 → a * 100000 + b ≡ c * 100000 + d → (a ≡ c) × (b ≡ d)
digits_same a b c d h k e = (omega arith, omega arith)

same_bool : (a b : Bool) → (a ≡ true → b ≡ true) → (b ≡ true → a ≡ true) → a ≡ b
same_bool true b f g = sym (f refl)
same_bool false true f g = g refl
same_bool false false f g = refl

-- two rows have one number exactly where they go between the same two stops
same_number : (stops : List StopData) (r e : TransferData) → length stops ≤ 100000 → HasEnds stops r → HasEnds stops e → nat_eq (pair_number stops r) (pair_number stops e) ≡ (bytes_eq r.from e.from && bytes_eq r.to e.to)
same_number stops r e few h k =
    same_bool _ _
    (λ t.
    let n : pair_number stops r ≡ pair_number stops e = grind (arith, nat_tests, t) in
    let d = digits_same (place_of stops r.from) (place_of stops r.to) (place_of stops e.from) (place_of stops e.to) (place-lt stops r.to 100000 few h.target) (place-lt stops e.to 100000 few k.target) n in
    and_from _ _ ((bytes_eq-Decides r.from e.from).1 (same_place stops r.from e.from h.origin k.origin d.0)) ((bytes_eq-Decides r.to e.to).1 (same_place stops r.to e.to h.target k.target d.1)))
    (λ t.
    let p = and_parts _ _ t in
    let a : r.from ≡ e.from = (bytes_eq-Decides r.from e.from).0 p.0 in
    let b : r.to ≡ e.to = (bytes_eq-Decides r.to e.to).0 p.1 in
    let n : pair_number stops r ≡ pair_number stops e = ap (λ x. place_of stops x * 100000 + place_of stops r.to) a ∙ ap (λ x. place_of stops e.from * 100000 + place_of stops x) b in
    grind (arith, nat_tests, n))

any_same : {X : Type 0} (p q : X → Bool) (P : X → Type 0) (xs : List X) → ((x : X) → P x → p x ≡ q x) → All P xs → list_any p xs ≡ list_any q xs
any_same p q P [] f h = refl
any_same p q P (x ∷ xs) f h = rw (f x (All-head P x xs h), any_same p q P xs f (All-tail P x xs h)) refl

-- the number of a row was seen exactly where an earlier row goes between the same two stops
seen_before : (stops : List StopData) (rows : List TransferData) (i : ℕ) (r : TransferData) (seen : List ℕ) → length stops ≤ 100000 → HasEnds stops r → All (HasEnds stops) (take i rows) → seen ≡ map (pair_number stops) (take i rows)
    → list_any (nat_eq (pair_number stops r)) seen ≡ list_any (λ e. bytes_eq r.from e.from && bytes_eq r.to e.to) (take i rows)
seen_before stops rows i r seen few h ends e =
    ap (list_any (nat_eq (pair_number stops r))) e ∙ list_any-over_map (nat_eq (pair_number stops r)) (pair_number stops) (take i rows)
    ∙ any_same _ _ (HasEnds stops) (take i rows) (λ x k. same_number stops r x few h k) ends

from_not : (a b : Bool) → a ≡ not b → b ≡ not a
from_not a true e = rw e refl
from_not a false e = rw e refl

pub transfer_passes : (stops : List StopData) (rows : List TransferData) (i : ℕ) (r : TransferData) (seen : List ℕ) (fresh : Bool) → length stops ≤ 100000 → i < length rows → r ≡ get_or rows i r → HasEnds stops r → All (HasEnds stops) (take i rows) → seen ≡ map (pair_number stops) (take i rows)
    → fresh ≡ not (list_any (nat_eq (pair_number stops r)) seen) → fresh ≡ true
    → unless_wrong (wrong_after (wrong_transfer stops rows) (take i rows) (drop i rows)) rows ≡ unless_wrong (wrong_after (wrong_transfer stops rows) (take (i + 1) rows) (drop (i + 1) rows)) rows
transfer_passes stops rows i r seen fresh few h at there ends e f y =
    let no : list_any (λ e. bytes_eq r.from e.from && bytes_eq r.to e.to) (take i rows) ≡ false = sym (seen_before stops rows i r seen few there ends e) ∙ from_not fresh _ f ∙ ap not y in
    rw (next_row (wrong_transfer stops rows) rows i r h at, there.origin, there.target, no) refl

pub transfer_twice : (stops : List StopData) (rows : List TransferData) (i : ℕ) (r : TransferData) (seen : List ℕ) (fresh : Bool) → length stops ≤ 100000 → i < length rows → r ≡ get_or rows i r → HasEnds stops r → All (HasEnds stops) (take i rows) → seen ≡ map (pair_number stops) (take i rows)
    → fresh ≡ not (list_any (nat_eq (pair_number stops r)) seen) → fresh ≡ false
    → unless_wrong (wrong_after (wrong_transfer stops rows) (take i rows) (drop i rows)) rows ≡ Err (fault.DuplicateTransfer (spot file.Transfers r.row 1))
transfer_twice stops rows i r seen fresh few h at there ends e f y =
    let yes : list_any (λ e. bytes_eq r.from e.from && bytes_eq r.to e.to) (take i rows) ≡ true = sym (seen_before stops rows i r seen few there ends e) ∙ from_not fresh _ f ∙ ap not y in
    rw (next_row (wrong_transfer stops rows) rows i r h at, there.origin, there.target, yes) refl

pub ends_more : (stops : List StopData) (rows : List TransferData) (i : ℕ) (r : TransferData) → All (HasEnds stops) (take i rows) → i < length rows → r ≡ get_or rows i r → HasEnds stops r → All (HasEnds stops) (take (i + 1) rows)
ends_more stops rows i r h k at there =
    let more : take (i + 1) rows ≡ take i rows ++ r ∷ [] = take_more rows i r k ∙ ap (λ y. take i rows ++ y ∷ []) (sym at) in
    rw more (All-push (HasEnds stops) (take i rows) r h there)

pub days_more : (rows : List TransferData) (i : ℕ) (r : TransferData) → All (λ r. TakesAtMostADay (TransferData.rule r)) (take i rows) → i < length rows → r ≡ get_or rows i r → TakesAtMostADay r.rule
    → All (λ r. TakesAtMostADay (TransferData.rule r)) (take (i + 1) rows)
days_more rows i r h k at day =
    let more : take (i + 1) rows ≡ take i rows ++ r ∷ [] = take_more rows i r k ∙ ap (λ y. take i rows ++ y ∷ []) (sym at) in
    rw more (All-push (λ r. TakesAtMostADay (TransferData.rule r)) (take i rows) r h day)

pub mapped_more : {X Y : Type 0} (f : X → Y) (old new : List Y) (xs : List X) (i : ℕ) (x : X) (y : Y) → old ≡ map f (take i xs) → i < length xs → x ≡ get_or xs i x → y ≡ f x → new ≡ old ++ y ∷ [] → new ≡ map f (take (i + 1) xs)
mapped_more f old new xs i x y e h at is n = n ∙ ap (λ ys. ys ++ y ∷ []) e ∙ ap (λ z. map f (take i xs) ++ z ∷ []) (is ∙ ap f at) ∙ sym (map_more f xs i x h)
