-- A text without its byte order mark.
use Rattle.std.proofs.Common.{◌≡◌, ◌∙◌, refl, ℕ, ◌-◌, ◌<◌, ◌≤◌, List, [], ◌∷◌, length, take, drop, get_or, Bool, true, false, arith}
use Rattle.std.specs.Prelude.{if◌then◌else◌}
use Rattle.std.proofs.lemmas.List.{take_rest}
use Rattle.std.proofs.lemmas.List.Elements.{All-drop}
use Rattle.csv.specs.Reading.{is_bom, strip_bom}
use Rattle.gtfs_rows.specs.PlainText.{IsNoQuote, IsUnquoted}

pub mark_cut : (xs : List ℕ) → 3 ≤ length xs → is_bom (get_or xs 0 0) (get_or xs 1 0) (get_or xs 2 0) ≡ true → take (length xs - 3) (drop 3 xs) ≡ strip_bom xs
unfolding strip_bom
mark_cut [] h m = absurd (omega (arith, h))
mark_cut (a ∷ []) h m = absurd (omega (arith, h))
mark_cut (a ∷ b ∷ []) h m = absurd (omega (arith, h))
mark_cut (a ∷ b ∷ c ∷ rest) h m = take_rest (a ∷ b ∷ c ∷ rest) 3 ∙ rw m refl

pub unmarked : (xs : List ℕ) → is_bom (get_or xs 0 0) (get_or xs 1 0) (get_or xs 2 0) ≡ false → xs ≡ strip_bom xs
unfolding strip_bom
unmarked [] m = refl
unmarked (a ∷ []) m = refl
unmarked (a ∷ b ∷ []) m = refl
unmarked (a ∷ b ∷ c ∷ rest) m = rw m refl

pub short : (xs : List ℕ) → length xs < 3 → xs ≡ strip_bom xs
unfolding strip_bom
short [] h = refl
short (a ∷ []) h = refl
short (a ∷ b ∷ []) h = refl
short (a ∷ b ∷ c ∷ rest) h = absurd (omega (arith, h))

by_mark : (m : Bool) (rest xs : List ℕ) → IsUnquoted rest → IsUnquoted xs → IsUnquoted (if m then rest else xs)
by_mark true rest xs p q = p
by_mark false rest xs p q = q

pub strip_unquoted : (xs : List ℕ) → IsUnquoted xs → IsUnquoted (strip_bom xs)
unfolding strip_bom
strip_unquoted [] q = q
strip_unquoted (a ∷ []) q = q
strip_unquoted (a ∷ b ∷ []) q = q
strip_unquoted (a ∷ b ∷ c ∷ rest) q = by_mark (is_bom a b c) rest (a ∷ b ∷ c ∷ rest) (All-drop IsNoQuote 3 (a ∷ b ∷ c ∷ rest) q) q
