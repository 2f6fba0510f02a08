-- Numbers of at most nine digits.
use Rattle.std.proofs.Common.{◌≡◌, ℕ, ◌<◌, List, Option, Some, None, sym, arith}
use Rattle.std.specs.Prelude.{IfSome}
use Rattle.gtfs_rows.specs.Numbers.{number_of}
use Rattle.gtfs_rows.proofs.Digits.{small}
use Rattle.gtfs_rows.proofs.NumberTests.{is_number}

-- they are below a milliard
pub nine_digits : (text : List ℕ) (o : Option ℕ) → o ≡ number_of text → IfSome o (λ n. n < 1000000000)
nine_digits text None is = tt
nine_digits text (Some n) is =
    let h = is_number text n (sym is) in
    let s = small text 9 h.0.1 h.0.2 in
    let v = h.1 in
    omega (arith, s, v)
