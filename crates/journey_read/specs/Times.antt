-- Times as the program shows them: hours in two or more digits, minutes and seconds.
use Rattle.std.specs.Prelude.{◌≡◌, ℕ, min, ◌+◌, ◌*◌, ◌-◌, ◌==◌, ◌&&◌, List, [], ◌∷◌, length, take, drop, pos, ℤ, ◌-ℤ◌, nat_le, Option, Some, None, MatchOption, option_map, option_and_then, if◌then◌else◌}
use Rattle.std.specs.Str.{all_ascii_digits}
use Rattle.std.specs.Str.Parse.{AllDigits, digits_value}
use Rattle.gtfs_rows.specs.Numbers.{after_hours}

-- the seconds of hours, in digits, and of the minutes and seconds behind them
abbrev pub clock_of : List ℕ → List ℕ → Option ℕ
clock_of hours rest =
    if nat_le 2 (length hours) && all_ascii_digits hours
    then option_map (λ secs. digits_value 10 hours * 3600 + secs) (after_hours rest)
    else None

-- the seconds that a text shows: hours in two or more digits, and then `:MM:SS`
abbrev pub seconds_of : List ℕ → Option ℕ
seconds_of text = clock_of (take (length text - 6) text) (drop (length text - 6) text)

-- a number that is at most another one
abbrev pub at_most : ℕ → Option ℕ → Option ℕ
at_most most number = option_and_then (λ n. if nat_le n most then Some n else None) number

-- The time that a text shows. Behind a minus sign it is at most a day before the service day;
-- without one it is at most a day behind the last time of a timetable.
abbrev pub shown_time_of : List ℕ → Option ℤ
shown_time_of [] = None
shown_time_of (b ∷ text) =
    if b == 45 then option_map (λ n. pos 0 -ℤ pos n) (at_most 86400 (seconds_of text))
    else option_map pos (at_most 446399 (seconds_of (b ∷ text)))

-- how many hours the digits count, where more than 200 are as good as 200
abbrev pub HoursAre : List ℕ → Option ℕ → Type 0
HoursAre digits counted =
    MatchOption counted (AllDigits 10 digits → ⊥)
    (λ n. AllDigits 10 digits × (n ≡ min (digits_value 10 digits) 200))
