-- Times between two timed rows rise with the place.
use Rattle.std.proofs.Common.{◌≡◌, ℕ, ◌-◌, ◌*◌, ◌/◌, ◌<◌, ◌≤◌, ℤ, pos, ◌+ℤ◌, ◌≤ℤ◌, arith}
use Rattle.std.specs.Prelude.{unsigned_abs, ◌-ℤ◌}
use Rattle.std.proofs.lemmas.Int.{ints}
use Rattle.std.proofs.lemmas.Nat.{le-div}
use Rattle.std.proofs.Math.Nat.{div-mul-le_self, mul-le-mul_left}
use Rattle.service_trips.specs.declared.times.Timepoint.{Timepoint}
use Rattle.service_trips.proofs.Interpolation.{part_le}

-- the time at place k between two timed rows
abbrev pub part : Timepoint → Timepoint → ℕ → ℤ
part i j k = i.times.dep +ℤ pos (unsigned_abs (j.times.arr -ℤ i.times.dep) * (k - i.at) / (j.at - i.at))

quotient_rises : (a b n : ℕ) → a ≤ b → 0 < n → a / n ≤ b / n
quotient_rises a b n h p = le-div (a / n) b n p (let q = div-mul-le_self a n in omega (arith, q))

sum_of_span : (a b : ℤ) → a ≤ℤ b → a +ℤ pos (unsigned_abs (b -ℤ a)) ≡ b
sum_of_span a b h = omega (arith, ints, h)

pub part_least : (i j : Timepoint) (k : ℕ) → i.times.dep ≤ℤ part i j k
part_least i j k = omega (arith, ints)

pub part_rises : (i j : Timepoint) (m k : ℕ) → i.at < j.at → m ≤ k → part i j m ≤ℤ part i j k
part_rises i j m k p h =
    let span = unsigned_abs (j.times.arr -ℤ i.times.dep) in
    let q = quotient_rises (span * (m - i.at)) (span * (k - i.at)) (j.at - i.at) (mul-le-mul_left span (omega arith)) (omega arith) in
    omega (arith, ints, q)

pub part_most : (i j : Timepoint) (k : ℕ) → k ≤ j.at → i.times.dep ≤ℤ j.times.arr → part i j k ≤ℤ j.times.arr
part_most i j k h up =
    let span = unsigned_abs (j.times.arr -ℤ i.times.dep) in
    let q = part_le span (k - i.at) (j.at - i.at) (omega arith) in
    let e = sum_of_span i.times.dep j.times.arr up in
    omega (arith, ints, q, e)
