-- What inquiries name.
use Rattle.std.specs.Prelude.{ℕ, List, ℤ}

-- from where to where a journey leads, and from when on
pub record InquiryData : Type 0 where
  pub from : List ℕ
  pub to : List ℕ
  pub time : ℤ
