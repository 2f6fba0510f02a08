-- The parts of a date, and the days near it.
use Rattle.std.proofs.Common.{◌≡◌, refl, ℕ, ◌+◌, ◌-◌, ◌*◌, ◌/◌, ◌%◌, ◌<◌, ◌≤◌, true, arith, pos}
use Rattle.std.specs.Prelude.{◌-ℤ◌, ◌+ℤ◌}
use Rattle.std.proofs.lemmas.Bool.Decides.{nat_tests}
use Rattle.std.proofs.lemmas.Nat.{div-mul-add, mod-mul-add, div-add-mod'}
use Rattle.jiff_core.specs.Calendar.{days_in_month, days_from_civil}
use Rattle.jiff_core.proofs.CalendarLemmas.{days_in_month_bounds}
use Rattle.jiff_core.proofs.DateLemmas.{days_from_civil-day, days_from_civil-next_month, days_from_civil-next_year}
use Rattle.jiff_core.proofs.SignedLemmas.{signed_arith}
use Rattle.gtfs_rows.specs.Dates.{is_date, day_number}
use Rattle.service_day.specs.NearDays.{last_of, first_of}

-- the year, month and day of a date
pub record IsMade (date year month day : ℕ) : Type 0 where
  pub year_is : date / 10000 ≡ year
  pub month_is : date / 100 % 100 ≡ month
  pub day_is : date % 100 ≡ day

pub made : (y m d : ℕ) → m < 100 → d < 100 → IsMade (y * 10000 + m * 100 + d) y m d
made y m d hm hd =
    let low : m * 100 + d < 10000 = omega (arith, hm, hd) in
    let e : y * 10000 + m * 100 + d ≡ y * 10000 + (m * 100 + d) = omega arith in
    let f : y * 10000 + m * 100 + d ≡ (y * 100 + m) * 100 + d = omega arith in
    record {
      year_is = rw e (div-mul-add y 10000 (m * 100 + d) low);
      month_is = rw (f, div-mul-add (y * 100 + m) 100 d hd) (mod-mul-add y 100 m hm);
      day_is = rw f (mod-mul-add (y * 100 + m) 100 d hd);
    }

-- a date is made of its parts
pub split : (date : ℕ) → date ≡ date / 10000 * 10000 + date / 100 % 100 * 100 + date % 100
split date =
    let a = div-add-mod' date 100 in
    let b = div-add-mod' (date / 100) 100 in
    let c : date / 100 / 100 ≡ date / 10000 = omega arith in
    let b' : date / 10000 * 100 + date / 100 % 100 ≡ date / 100 = rw c at b in
    omega (arith, a, b')

-- what a date's test says
pub record IsGood (date : ℕ) : Type 0 where
  pub year_low : 1 ≤ date / 10000
  pub year_high : date / 10000 ≤ 9999
  pub month_low : 1 ≤ date / 100 % 100
  pub month_high : date / 100 % 100 ≤ 12
  pub day_low : 1 ≤ date % 100
  pub day_high : date % 100 ≤ days_in_month (pos (date / 10000)) (date / 100 % 100)

pub good : (date : ℕ) → is_date date ≡ true → IsGood date
good date h = record {
  year_low = grind (arith, nat_tests, h);
  year_high = grind (arith, nat_tests, h);
  month_low = grind (arith, nat_tests, h);
  month_high = grind (arith, nat_tests, h);
  day_low = grind (arith, nat_tests, h);
  day_high = grind (arith, nat_tests, h);
}

-- a number made of the parts of a date is a date, and has the day number of these parts
pub number_of : (y m d : ℕ) → m < 100 → d < 100 → day_number (y * 10000 + m * 100 + d) ≡ days_from_civil (pos y) m d
number_of y m d hm hd = let parts = made y m d hm hd in rw (parts.year_is, parts.month_is, parts.day_is) refl

pub earlier_day : (date : ℕ) → is_date date ≡ true → 1 < date % 100 → day_number (date - 1) ≡ day_number date -ℤ pos 1
earlier_day date h more =
    let g = good date h in
    let long = days_in_month_bounds (pos (date / 10000)) (date / 100 % 100) in
    let e : date - 1 ≡ date / 10000 * 10000 + date / 100 % 100 * 100 + (date % 100 - 1) = omega (arith, split date, more) in
    let n = number_of (date / 10000) (date / 100 % 100) (date % 100 - 1) (omega (arith, g.month_high)) (omega (arith, g.day_high, long)) in
    let step = days_from_civil-day (pos (date / 10000)) (date / 100 % 100) (date % 100 - 1) (date % 100) (omega (arith, more)) (omega (arith, more)) in
    rw (e, n) (omega (arith, signed_arith, step, more))

-- the last day of a month is a date
pub last_known : (y m : ℕ) → 1 ≤ y → y ≤ 9999 → 1 ≤ m → m ≤ 12 → is_date (last_of y m) ≡ true
last_known y m hy hy' hm hm' =
    let long = days_in_month_bounds (pos y) m in
    let parts = made y m (days_in_month (pos y) m) (omega (arith, hm')) (omega (arith, long)) in
    rw (parts.year_is, parts.month_is, parts.day_is) (grind (arith, nat_tests, long))

pub last_number : (y m : ℕ) → m ≤ 12 → day_number (last_of y m) ≡ days_from_civil (pos y) m (days_in_month (pos y) m)
last_number y m hm =
    let long = days_in_month_bounds (pos y) m in
    number_of y m (days_in_month (pos y) m) (omega (arith, hm)) (omega (arith, long))

pub earlier_month : (date : ℕ) → is_date date ≡ true → date % 100 ≤ 1 → 1 < date / 100 % 100
    → day_number (last_of (date / 10000) (date / 100 % 100 - 1)) ≡ day_number date -ℤ pos 1
earlier_month date h first more =
    let g = good date h in
    let n = last_number (date / 10000) (date / 100 % 100 - 1) (omega (arith, g.month_high)) in
    let one : date % 100 ≡ 1 = omega (arith, first, g.day_low) in
    let back : date / 100 % 100 - 1 + 1 ≡ date / 100 % 100 = omega (arith, more) in
    let step = rw back at (days_from_civil-next_month (pos (date / 10000)) (date / 100 % 100 - 1) _ (omega (arith, more)) refl) in
    rw (n, one) (omega (arith, signed_arith, step))

pub earlier_year : (date : ℕ) → is_date date ≡ true → date % 100 ≤ 1 → date / 100 % 100 ≤ 1 → 1 < date / 10000
    → day_number (last_of (date / 10000 - 1) 12) ≡ day_number date -ℤ pos 1
earlier_year date h first first_month more =
    let g = good date h in
    let n = last_number (date / 10000 - 1) 12 (omega arith) in
    let one : date % 100 ≡ 1 = omega (arith, first, g.day_low) in
    let january : date / 100 % 100 ≡ 1 = omega (arith, first_month, g.month_low) in
    let step = days_from_civil-next_year (pos (date / 10000 - 1)) (pos (date / 10000)) (omega (arith, signed_arith)) (omega (arith, signed_arith, more)) in
    rw (n, one, january) (omega (arith, signed_arith, step))

-- a day that its month's last one follows
pub next_day : (date : ℕ) → is_date date ≡ true → date < last_of (date / 10000) (date / 100 % 100) → day_number (date + 1) ≡ day_number date +ℤ pos 1
next_day date h less =
    let g = good date h in
    let long = days_in_month_bounds (pos (date / 10000)) (date / 100 % 100) in
    let parts = split date in
    let e : date + 1 ≡ date / 10000 * 10000 + date / 100 % 100 * 100 + (date % 100 + 1) = omega (arith, parts) in
    let n = number_of (date / 10000) (date / 100 % 100) (date % 100 + 1) (omega (arith, g.month_high)) (omega (arith, less, parts, long)) in
    let step = days_from_civil-day (pos (date / 10000)) (date / 100 % 100) (date % 100) (date % 100 + 1) (omega (arith, g.day_low)) (omega arith) in
    rw (e, n) (omega (arith, signed_arith, step))

pub next_known : (date : ℕ) → is_date date ≡ true → date < last_of (date / 10000) (date / 100 % 100) → is_date (date + 1) ≡ true
next_known date h less =
    let g = good date h in
    let long = days_in_month_bounds (pos (date / 10000)) (date / 100 % 100) in
    let whole = split date in
    let e : date + 1 ≡ date / 10000 * 10000 + date / 100 % 100 * 100 + (date % 100 + 1) = omega (arith, whole) in
    let in_month : date % 100 + 1 ≤ days_in_month (pos (date / 10000)) (date / 100 % 100) = omega (arith, less, whole) in
    let parts = made (date / 10000) (date / 100 % 100) (date % 100 + 1) (omega (arith, g.month_high)) (omega (arith, in_month, long)) in
    let year_low = g.year_low in
    let year_high = g.year_high in
    let month_low = g.month_low in
    let month_high = g.month_high in
    rw (e, parts.year_is, parts.month_is, parts.day_is) (grind (arith, nat_tests, in_month, year_low, year_high, month_low, month_high))

-- the last day of its month is that month's last one
pub is_last : (date : ℕ) → is_date date ≡ true → last_of (date / 10000) (date / 100 % 100) ≤ date → date % 100 ≡ days_in_month (pos (date / 10000)) (date / 100 % 100)
is_last date h past =
    let g = good date h in
    let whole = split date in
    let high = g.day_high in
    omega (arith, past, whole, high)

pub next_month : (date : ℕ) → is_date date ≡ true → last_of (date / 10000) (date / 100 % 100) ≤ date → date / 100 % 100 < 12
    → day_number (first_of (date / 10000) (date / 100 % 100 + 1)) ≡ day_number date +ℤ pos 1
next_month date h past more =
    let g = good date h in
    let last = is_last date h past in
    let n = number_of (date / 10000) (date / 100 % 100 + 1) 1 (omega (arith, more)) (omega arith) in
    let step = days_from_civil-next_month (pos (date / 10000)) (date / 100 % 100) _ g.month_low refl in
    rw (n, last) (omega (arith, signed_arith, step))

pub next_year : (date : ℕ) → is_date date ≡ true → last_of (date / 10000) (date / 100 % 100) ≤ date → 12 ≤ date / 100 % 100
    → day_number (first_of (date / 10000 + 1) 1) ≡ day_number date +ℤ pos 1
next_year date h past whole_year =
    let g = good date h in
    let last = is_last date h past in
    let december : date / 100 % 100 ≡ 12 = omega (arith, whole_year, g.month_high) in
    let n = number_of (date / 10000 + 1) 1 1 (omega arith) (omega arith) in
    let step = days_from_civil-next_year (pos (date / 10000)) (pos (date / 10000 + 1)) (omega (arith, signed_arith)) (omega (arith, signed_arith, g.year_low)) in
    rw (n, last, december) (omega (arith, signed_arith, step))
