-- The stops of named places, by names and a timetable that are known by other terms.
use Rattle.std.proofs.Common.{◌≡◌, ℕ, List, Ok, Vec, Global, subst}
use Rattle.tb_base.specs.TimetableData.{TimetableData}
use Rattle.query_gate.specs.Questions.{ends_between}
use Rattle.query_gate.specs.Replies.{IsBetween}
use Rattle.query_gate.specs.declared.between.Between.{Between}
use Rattle.query_gate.specs.declared.between.Between.TheVariants as between

pub between_by : (T U : TimetableData) (from start to target : List ℕ) → T ≡ U → from ≡ start → to ≡ target → (b : Between) → IsBetween T from to b → IsBetween U start target b
between_by T U from start to target same_table same_from same_to b is =
    subst (λ t. IsBetween t start target b) same_table (subst (λ f. IsBetween T f target b) same_from (subst (λ g. IsBetween T from g b) same_to is))

-- the stops of two places that are known
pub known_ends : (T U : TimetableData) (from start to target : List ℕ) → T ≡ U → from ≡ start → to ≡ target → (b : Between) (origins targets : Vec ℕ Global) → b ≡ between.Stops origins targets → IsBetween T from to b →
    ends_between U start target ≡ Ok (record { from = origins.items; to = targets.items })
known_ends T U from start to target same_table same_from same_to b origins targets is h =
    let known = between_by T U from start to target same_table same_from same_to b h in
    subst (IsBetween U start target) is known
