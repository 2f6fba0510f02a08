-- What holds of each row that a reader gives holds of all rows of a file.
use Rattle.std.proofs.Common.{◌≡◌, ◌≢◌, refl, ap, subst, ℕ, zero, suc, List, [], ◌∷◌, Option, Some, None}
use Rattle.std.specs.Prelude.{Result, Ok, Err, All, ok_or, option_to_list}
use Rattle.std.proofs.lemmas.List.Elements.{All-cons, All-nil}
use Rattle.gtfs_rows.specs.Steps.{and_then, prepend}
use Rattle.gtfs_rows.specs.Columns.{row_limit}
use Rattle.gtfs_rows.specs.RawRows.{RawRow, cell, shape, table, typed_rows}
use Rattle.gtfs_rows.specs.Fields.{id_of, kind_of}
use Rattle.gtfs_rows.specs.StopsFile.{StopData, stop_row}
use Rattle.gtfs_rows.specs.declared.stops.Kind.{Kind}
use Rattle.gtfs_rows.specs.declared.fault.FeedFile.{FeedFile}
use Rattle.gtfs_rows.specs.declared.fault.FeedFile.TheVariants as file
use Rattle.gtfs_rows.specs.declared.fault.FeedFault.{FeedFault}

row_all : {A : Type 0} (P : A → Type 0) (row : Result (Option A) FeedFault) (rest : Result (List A) FeedFault) (xs : List A) → ((x : A) → row ≡ Ok (Some x) → P x) → ((ys : List A) → rest ≡ Ok ys → All P ys)
    → and_then row (λ o. prepend (option_to_list o) rest) ≡ Ok xs → All P xs
row_all P (Err f) rest xs p q e = absurd (cc)
row_all P (Ok None) (Err f) xs p q e = absurd (cc)
row_all P (Ok (Some x)) (Err f) xs p q e = absurd (cc)
row_all P (Ok None) (Ok ys) xs p q e = let same : ys ≡ xs = cc in subst (λ (zs : List _). All P zs) same (q ys refl)
row_all P (Ok (Some x)) (Ok ys) xs p q e = let same : x ∷ ys ≡ xs = cc in subst (λ (zs : List _). All P zs) same (All-cons P x ys (p x refl) (q ys refl))

shape_all : {A : Type 0} (P : A → Type 0) (file : FeedFile) (read : RawRow → Result (Option A) FeedFault) → ((raw : RawRow) (x : A) → read raw ≡ Ok (Some x) → P x)
    → (room : ℕ) (raw_rows : List RawRow) (xs : List A) → shape file read room raw_rows ≡ Ok xs → All P xs
shape_all P file read each room [] xs e = let same : [] ≡ xs = cc in subst (λ (zs : List _). All P zs) same (All-nil P)
shape_all P file read each zero (raw ∷ rest) xs e = absurd (cc)
shape_all P file read each (suc room) (raw ∷ rest) xs e = row_all P (read raw) (shape file read room rest) xs (each raw) (shape_all P file read each room rest) e

of_table : {A : Type 0} (P : A → Type 0) (file : FeedFile) (read : RawRow → Result (Option A) FeedFault) → ((raw : RawRow) (x : A) → read raw ≡ Ok (Some x) → P x)
    → (found : Result (List RawRow) FeedFault) (xs : List A) → and_then found (shape file read (row_limit file)) ≡ Ok xs → All P xs
of_table P file read each (Err f) xs e = absurd (cc)
of_table P file read each (Ok raw_rows) xs e = shape_all P file read each (row_limit file) raw_rows xs e

pub rows_all : {A : Type 0} (P : A → Type 0) (file : FeedFile) (read : RawRow → Result (Option A) FeedFault) → ((raw : RawRow) (x : A) → read raw ≡ Ok (Some x) → P x)
    → (text : List ℕ) (xs : List A) → typed_rows file read text ≡ Ok xs → All P xs
rows_all P file read each text xs e = of_table P file read each (table file text) xs e

id_filled : (text id : List ℕ) → id_of text ≡ Some id → id ≢ []
id_filled [] id e n = absurd (cc)
id_filled (b ∷ rest) id e n = absurd (cc)

stop_parts : (row : ℕ) (parent : List ℕ) (o : Option (List ℕ)) (k : Option Kind) (f g : FeedFault) (s : StopData)
    → and_then (ok_or o f) (λ id. and_then (ok_or k g) (λ kind. Ok (Some (record { row = row; id = id; kind = kind; parent = parent })))) ≡ Ok (Some s) → o ≡ Some s.id
stop_parts row parent None k f g s e = absurd (cc)
stop_parts row parent (Some id) None f g s e = absurd (cc)
stop_parts row parent (Some id) (Some kind) f g s e = by_option (Some (record { row = row; id = id; kind = kind; parent = parent })) (Some s) (let q : Some (record { row = row; id = id; kind = kind; parent = parent }) ≡ Some s = cc in q)
  where
    id_in : Option StopData → Option (List ℕ)
    id_in None = None
    id_in (Some t) = Some t.id

    by_option : (a b : Option StopData) → a ≡ b → id_in a ≡ id_in b
    by_option a b q = ap id_in q

pub named_row : (raw : RawRow) (s : StopData) → stop_row raw ≡ Ok (Some s) → s.id ≢ []
named_row raw s e = id_filled (cell raw 1) s.id (stop_parts raw.row (cell raw 3) (id_of (cell raw 1)) (kind_of (cell raw 2)) _ _ s e)

-- the ids of stops aren't empty
pub stops_named : (text : List ℕ) (stops : List StopData) → typed_rows file.Stops stop_row text ≡ Ok stops → All (λ s. StopData.id s ≢ []) stops
stops_named = rows_all (λ s. StopData.id s ≢ []) file.Stops stop_row named_row
