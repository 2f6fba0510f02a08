-- Times between two timed rows, as the code computes them.
use Rattle.std.proofs.Common.{◌≡◌, ◌∙◌, ap, ℕ, ◌-◌, ◌*◌, ◌/◌, ◌<◌, ◌≤◌, ℤ, pos, negsuc, ◌+ℤ◌, arith}
use Rattle.std.specs.Prelude.{unsigned_abs, ◌-ℤ◌, Some}
use Rattle.std.proofs.lemmas.Int.{ints, to_z-of_z, to_z_pos}
use Rattle.std.proofs.Math.Nat.{div-le_of_le-mul, mul-le-mul_left, mul_comm}
use mir.Val.{SFits, of_z, to_z}
use mir.Syntax.{w32}
use Rattle.service_trips.specs.declared.times.Times.{Times}
use Rattle.service_trips.specs.declared.times.Timepoint.{Timepoint}
use Rattle.gtfs_rows.specs.Numbers.{IsFileTime}
use Rattle.service_trips.specs.Times.{between}

pub fits : (t : ℤ) → IsFileTime t → SFits w32 t
fits t h = let a = h.least in let b = h.most in omega (arith, ints, a, b)

-- a part of a product is at most its first factor
pub part_le : (span passed rows : ℕ) → passed ≤ rows → span * passed / rows ≤ span
part_le span passed rows h = div-le_of_le-mul rows (let e = mul_comm rows span in omega (arith, e, mul-le-mul_left span h))

span_most : (dep arr : ℤ) (span : ℕ) → IsFileTime dep → IsFileTime arr → span ≡ unsigned_abs (arr -ℤ dep) → span ≤ 359999
span_most (pos dep) (pos arr) span d a e = let b = a.most in let c = d.most in omega (arith, ints, e, b, c)
span_most (pos dep) (negsuc arr) span d a e = let b = a.least in absurd (omega (arith, ints, b))
span_most (negsuc dep) arr span d a e = let b = d.least in absurd (omega (arith, ints, b))

-- the time that the code computes is the one that is meant
part_is : (dep arr : ℤ) (span passed rows : ℕ) → IsFileTime dep → IsFileTime arr → passed ≤ rows
    → span ≡ unsigned_abs (to_z w32 (of_z w32 (to_z w32 (of_z w32 arr) -ℤ to_z w32 (of_z w32 dep))))
    → to_z w32 (of_z w32 (to_z w32 (of_z w32 dep) +ℤ to_z w32 (span * passed / rows))) ≡ dep +ℤ pos (unsigned_abs (arr -ℤ dep) * passed / rows)
part_is dep arr span passed rows d a h e =
    let fd : SFits w32 dep = fits dep d in
    let fa : SFits w32 arr = fits arr a in
    let d0 = d.least in
    let d1 = d.most in
    let a0 = a.least in
    let a1 = a.most in
    let ed : to_z w32 (of_z w32 dep) ≡ dep = to_z-of_z w32 dep fd in
    let ea : to_z w32 (of_z w32 arr) ≡ arr = to_z-of_z w32 arr fa in
    let fs : SFits w32 (arr -ℤ dep) = omega (arith, ints, d0, d1, a0, a1) in
    let difference : to_z w32 (of_z w32 (to_z w32 (of_z w32 arr) -ℤ to_z w32 (of_z w32 dep))) ≡ arr -ℤ dep = rw (ed, ea) (to_z-of_z w32 (arr -ℤ dep) fs) in
    let es : span ≡ unsigned_abs (arr -ℤ dep) = e ∙ ap unsigned_abs difference in
    let most = span_most dep arr span d a es in
    let part = part_le span passed rows h in
    let ep : to_z w32 (span * passed / rows) ≡ pos (span * passed / rows) = to_z_pos w32 (span * passed / rows) (omega (arith, most, part)) in
    let ft : SFits w32 (dep +ℤ pos (span * passed / rows)) = omega (arith, ints, d0, d1, most, part) in
    let computed : to_z w32 (of_z w32 (to_z w32 (of_z w32 dep) +ℤ to_z w32 (span * passed / rows))) ≡ dep +ℤ pos (span * passed / rows) = rw (ed, ep) (to_z-of_z w32 (dep +ℤ pos (span * passed / rows)) ft) in
    computed ∙ ap (λ n. dep +ℤ pos (n * passed / rows)) es

-- `between` at two timed rows, computed so
pub between_is : (from to : Timepoint) (k span : ℕ) → from.at < k → k < to.at → IsFileTime from.times.dep → IsFileTime to.times.arr
    → span ≡ unsigned_abs (to_z w32 (of_z w32 (to_z w32 (of_z w32 to.times.arr) -ℤ to_z w32 (of_z w32 from.times.dep))))
    → (t : ℤ) → t ≡ to_z w32 (of_z w32 (to_z w32 (of_z w32 from.times.dep) +ℤ to_z w32 (span * (k - from.at) / (to.at - from.at))))
    → record { arr = t; dep = t } ≡ between (Some from) (Some to) k
between_is from to k span f h d a e t i =
    let same = i ∙ part_is from.times.dep to.times.arr span (k - from.at) (to.at - from.at) d a (omega (arith, f, h)) e in
    let made : ℤ → Times = λ t. record { arr = t; dep = t } in
    ap made same
