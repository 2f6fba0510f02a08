-- Numbered calls on an object in memory, some of which fail.
use Rattle.std.specs.Prelude.{ℕ, ◌+◌, ◌-◌, ◌^◌, ◌==◌, ◌&&◌, List, Bool, nat_lt, if◌then◌else◌}
use Rattle.std.specs.List.{list_any}

-- the numbers of the calls that fail, the number of the next call, and how many calls failed
pub record CallsData : Type 0 where
  pub fails : List ℕ
  pub next : ℕ
  pub faults : ℕ

-- a number one more, which stays where it is the last one of 64 bits
abbrev pub one_more : ℕ → ℕ
one_more n = if nat_lt n (2 ^ 64 - 1) then n + 1 else n

-- the next call fails by its number
abbrev pub fails_next : CallsData → Bool
fails_next calls = nat_lt calls.next (2 ^ 64 - 1) && list_any (λ n. n == calls.next) calls.fails

-- one call later
abbrev pub after_call : CallsData → Bool → CallsData
after_call calls failed = record {
  fails = calls.fails;
  next = one_more calls.next;
  faults = if failed then one_more calls.faults else calls.faults;
}

-- before the first call
abbrev pub no_calls : List ℕ → CallsData
no_calls fails = record { fails = fails; next = 0; faults = 0 }
