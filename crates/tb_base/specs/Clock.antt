-- Times as texts.
use Rattle.std.specs.Prelude.{ℕ, ◌+◌, ◌/◌, ◌%◌, List, [], ◌∷◌, ◌++◌, ℤ, pos, negsuc, nat_lt, suc, if◌then◌else◌}
use Rattle.std.specs.Fmt.{decimal}

-- a number below 100, in two digits
abbrev pub two_digits : ℕ → List ℕ
two_digits n = (48 + n / 10) ∷ (48 + n % 10) ∷ []

-- a number in at least two digits
abbrev pub padded : ℕ → List ℕ
padded n = if nat_lt n 100 then two_digits n else decimal n

-- seconds as hours, minutes and seconds, with colons
abbrev pub clock_text : ℕ → List ℕ
clock_text secs =
    padded (secs / 3600) ++ 58 ∷ two_digits (secs / 60 % 60) ++ 58 ∷ two_digits (secs % 60)

-- a time: one before the day begins has a minus sign before its distance
abbrev pub time_text : ℤ → List ℕ
time_text (pos secs) = clock_text secs
time_text (negsuc secs) = 45 ∷ clock_text (suc secs)
