-- A text seen sixteen bytes at a time, while a record is cut.
use Rattle.std.specs.Prelude.{◌≡◌, ℕ, ◌+◌, ◌-◌, ◌^◌, ◌<◌, ◌≤◌, List, [], length, take, drop, get_or}
use Rattle.std.specs.Int.{bit_at}
use Rattle.csv.specs.Machine.{next_record}
use Rattle.csv.specs.Reading.{default_config}
use Rattle.csv.specs.declared.parser.State.TheVariants as st
use Rattle.gtfs_rows.specs.Records.{Record}
use Rattle.gtfs_rows.specs.PlainText.{records_of}

-- Marks of the sixteen bytes from `at` on: from the byte `next` on, one at each byte that is no
-- more than a comma, and maybe at others.
pub record AreMarks (text : List ℕ) (at next marks : ℕ) : Type 0 where
  pub high : (k : ℕ) → k < 16 → next ≤ at + k → bit_at marks k ≡ 0 → 44 < get_or text (at + k) 0
  pub none_before : (k : ℕ) → k < 64 → at + k < next → bit_at marks k ≡ 0
  pub none_behind : (k : ℕ) → 16 ≤ k → k < 64 → bit_at marks k ≡ 0
  pub fits : marks < 2 ^ 64

-- the record at a text's start has these fields, and another that starts and goes on up to a place
abbrev pub StandsAt : List ℕ → List (List ℕ) → ℕ → ℕ → Type 0
StandsAt text fields start at =
    next_record default_config st.StartRecord [] [] text
    ≡ next_record default_config st.InField fields (take (at - start) (drop start text))
    (drop at text)

-- the same up to a byte of sixteen, from which on there are marks
pub record IsCutting (text : List ℕ) (fields : List (List ℕ)) (start at marks : ℕ) : Type 0 where
  pub next : ℕ
  pub within : start ≤ next
  pub from : at ≤ next
  pub inside : next ≤ at + 16
  pub same : StandsAt text fields start next
  pub marked : AreMarks text at next marks

-- the records of a text from a place on
abbrev pub records_after : List ℕ → ℕ → List Record
records_after text from = records_of (take (length text - from) (drop from text))
