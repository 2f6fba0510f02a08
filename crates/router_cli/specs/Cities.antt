-- What the program writes for a made city.
use Rattle.std.specs.Prelude.{◌≡◌, Bool, ℕ, ◌-◌, List, [], ◌∷◌, ◌++◌, pos, false, ⊤}
use Rattle.tb_base.specs.BestValues.{QueryData}
use Rattle.feed_maker.specs.City.{city, stop_number}
use Rattle.edition_build.specs.Reports.{IsReport}
use Rattle.router_cli.specs.Answers.{ShowsKept}
use Rattle.router_cli.specs.declared.status.Status.{Status}
use Rattle.router_cli.specs.declared.status.Status.TheVariants as status

-- from the stop in the first column and row to the one in the last, at 07:00:00
abbrev pub corner_query : ℕ → QueryData
corner_query n = record {
  from = stop_number n 0 0 ∷ [];
  to = stop_number n (n - 1) (n - 1) ∷ [];
  leave = pos 25200;
}

-- the report on the city with n rows, and the best values between these two corners
pub record IsCityText (json : Bool) (n : ℕ) (bytes : List ℕ) : Type 0 where
  pub report : List ℕ
  pub reported : IsReport json (city n) false report
  pub choices : List ℕ
  pub shown : ShowsKept json (city n) (corner_query n) choices
  pub text : bytes ≡ report ++ choices

-- why a city has no text: want of memory alone, of which nothing is said here
abbrev pub IsNoCityText : Status → Type 0
IsNoCityText status.Memory = ⊤
IsNoCityText s = ⊥
