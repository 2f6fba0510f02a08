-- One more row.
use Rattle.std.proofs.Common.{◌≡◌, ap, refl, ℕ, ◌+◌, List, [], ◌∷◌, length, map, Option, true, false, arith}
use Rattle.gtfs_rows.specs.Records.{Record}
use Rattle.gtfs_rows.specs.RawRows.{raw_rows_from, field_at_position, is_empty_record}

pub passed_over : (columns : List (Option ℕ)) (row : ℕ) (all rest : List Record) (fields : Record) → all ≡ fields ∷ rest → is_empty_record fields ≡ true → raw_rows_from columns row all ≡ raw_rows_from columns (row + 1) rest
passed_over columns row all rest fields e h = rw (e, h) refl

pub given : (columns : List (Option ℕ)) (row : ℕ) (all rest : List Record) (fields : Record) → all ≡ fields ∷ rest → is_empty_record fields ≡ false
    → raw_rows_from columns row all ≡ record { row = row; cells = map (field_at_position fields) columns } ∷ raw_rows_from columns (row + 1) rest
given columns row all rest fields e h = rw (e, h) refl

pub none_left : (columns : List (Option ℕ)) (row : ℕ) (all : List Record) → all ≡ [] → raw_rows_from columns row all ≡ []
none_left columns row all e = rw e refl

pub one_fewer : (all rest : List Record) (fields : Record) → all ≡ fields ∷ rest → length all ≡ length rest + 1
one_fewer all rest fields e = let l : length all ≡ length (fields ∷ rest) = ap length e in omega (arith, l)
