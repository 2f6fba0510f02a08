-- Facts on numbers and times that std has under no name.
use Rattle.std.proofs.Common.{◌≡◌, ◌≢◌, ℕ, zero, suc, ◌+◌, ◌<◌, ◌≤◌, ◌==◌, ◌⊎◌, Bool, true, false, arith, refl, ℤ, pos, ◌+ℤ◌, ◌≤ℤ◌, ◌<ℤ◌}
use Rattle.std.specs.Prelude.{int_le, int_lt}
use Rattle.std.proofs.lemmas.Bool.Decides.{nat_tests}
use Rattle.std.proofs.lemmas.Int.{ints}

-- numbers up to a last one, and up to a next one
pub below_or_last : (k n : ℕ) → k < suc n → (k < n) ⊎ (k ≡ n)
below_or_last k n h = grind arith

pub below_or_at : (k n : ℕ) → k < n + 1 → (k < n) ⊎ (k ≡ n)
below_or_at k n h = grind (arith, h)

pub less_or_same : (m n : ℕ) → m ≤ n → (m < n) ⊎ (m ≡ n)
less_or_same m n h = grind (arith, h)

-- numbers of which one is less differ
pub lt-eqb : (m n : ℕ) → m < n → (m == n) ≡ false
lt-eqb m n h = grind (arith, nat_tests, h)

pub zero_more : (n : ℕ) → 0 + n ≡ n
zero_more n = omega arith

-- times in order
pub ≤ℤ-refl : (a : ℤ) → a ≤ℤ a
≤ℤ-refl a = omega (arith, ints)

pub ≤ℤ-same : (a b : ℤ) → a ≡ b → a ≤ℤ b
≤ℤ-same a b e = omega (arith, ints, e)

pub ≤ℤ-same_back : (a b : ℤ) → a ≡ b → b ≤ℤ a
≤ℤ-same_back a b e = omega (arith, ints, e)

pub ≤ℤ-trans : (a b c : ℤ) → a ≤ℤ b → b ≤ℤ c → a ≤ℤ c
≤ℤ-trans a b c g h = omega (arith, ints, g, h)

pub ≤ℤ-antisym : (a b : ℤ) → a ≤ℤ b → b ≤ℤ a → a ≡ b
≤ℤ-antisym a b g h = omega (arith, ints, g, h)

pub <ℤ-weaker : (a b : ℤ) → a <ℤ b → a ≤ℤ b
<ℤ-weaker a b h = omega (arith, ints, h)

pub <ℤ-≤ℤ-trans : (a b c : ℤ) → a <ℤ b → b ≤ℤ c → a <ℤ c
<ℤ-≤ℤ-trans a b c g h = omega (arith, ints, g, h)

pub cases_ltℤ : (a b : ℤ) → (a <ℤ b) ⊎ (b ≤ℤ a)
cases_ltℤ a b = grind (arith, ints)

-- times after some seconds
pub ≤ℤ-later : (a : ℤ) (n : ℕ) → a ≤ℤ (a +ℤ pos n)
≤ℤ-later a n = omega (arith, ints)

pub ≤ℤ-plus : (a b : ℤ) (n : ℕ) → a ≤ℤ b → (a +ℤ pos n) ≤ℤ (b +ℤ pos n)
≤ℤ-plus a b n h = omega (arith, ints, h)

-- tests of times, named as std's of numbers
pub int_le-true : (a b : ℤ) → int_le a b ≡ true → a ≤ℤ b
int_le-true a b h = grind (arith, ints, h)

pub int_le-false : (a b : ℤ) → int_le a b ≡ false → b <ℤ a
int_le-false a b h = grind (arith, ints, h)

pub le-int_le : (a b : ℤ) → a ≤ℤ b → int_le a b ≡ true
le-int_le a b h = grind (arith, ints, h)

pub int_lt-true : (a b : ℤ) → int_lt a b ≡ true → a <ℤ b
int_lt-true a b h = grind (arith, ints, h)

pub int_lt-false : (a b : ℤ) → int_lt a b ≡ false → b ≤ℤ a
int_lt-false a b h = grind (arith, ints, h)

pub lt-int_lt : (a b : ℤ) → a <ℤ b → int_lt a b ≡ true
lt-int_lt a b h = grind (arith, ints, h)
