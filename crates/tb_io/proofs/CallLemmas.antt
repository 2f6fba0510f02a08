-- A call in memory that fails raises the count of faults.
use Rattle.std.proofs.Common.{◌≡◌, ℕ, ◌+◌, ◌-◌, ◌^◌, ◌≤◌, Bool, true, false, min, nat_lt, Err, arith, ap, refl, subst, sym}
use Rattle.std.specs.Prelude.{Result, if◌then◌else◌}
use Rattle.tb_io.specs.Calls.{CallsData, after_call, one_more}
use Rattle.tb_io.specs.Causes.{HasCause, Rose}

pub one_more-rose : (n : ℕ) → Rose n (one_more n)
one_more-rose n = by_test (nat_lt n (2 ^ 64 - 1)) refl
  where
    by_test : (b : Bool) → b ≡ nat_lt n (2 ^ 64 - 1) → min (n + 1) (2 ^ 64 - 1) ≤ (if b then n + 1 else n)
    by_test true e = grind arith
    by_test false e = grind (arith, e)

pub one_more-later : (n : ℕ) → n ≤ one_more n
one_more-later n = by_test (nat_lt n (2 ^ 64 - 1))
  where
    by_test : (b : Bool) → n ≤ (if b then n + 1 else n)
    by_test true = grind arith
    by_test false = grind arith

pub call_failed : {T E : Type 0} (e : E) (old new : CallsData) (failed : Bool) → new ≡ after_call old failed → failed ≡ true → HasCause {T = T} {E = E} old.faults new.faults (Err e)
call_failed {T} {E} e old new failed is is_true =
    let faults : new.faults ≡ one_more old.faults = ap (λ (c : CallsData). c.faults) (subst (λ b. new ≡ after_call old b) is_true is) in
    subst (λ n. HasCause {T = T} {E = E} old.faults n (Err e)) (sym faults) (record { later = one_more-later old.faults; kept = tt; failed = one_more-rose old.faults })
