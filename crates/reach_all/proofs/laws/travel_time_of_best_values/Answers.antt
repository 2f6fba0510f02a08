use Rattle.std.proofs.Common.{◌≡◌, ℕ, List, Option, Some, None, arith, ℤ, ◌+ℤ◌, ◌-ℤ◌, ◌≤ℤ◌}
use Rattle.std.specs.Prelude.{Contains}
use Rattle.std.proofs.lemmas.Int.{ints}
use Rattle.std.proofs.lemmas.List.Elements.{All-contains}
use Rattle.tb_base.specs.declared.query.Value.{Value}
use Rattle.tb_base.specs.BestValues.{AreBestValues, IsBest, IsLeast}
use Rattle.tb_base.specs.Soundness.{IsSound}
use Rattle.tb_base.specs.TimetableData.{TimetableData}
use Rattle.tb_base.proofs.NumberFacts.{≤ℤ-trans}
use Rattle.tb_laws.proofs.CoverLaws.{best_values_contain}
use Rattle.reach_all.specs.Reach.{query_to}
use Rattle.reach_all.specs.TravelTimes.{IsTravelTime, IsWithin, Takes}
use Rattle.reach_all.proofs.BestTimes.{within-fewer}
use Rattle.reach_all.proofs.laws.travel_time_of_best_values.Goals as goal

module _ (T : TimetableData) (sound : IsSound T) (from : List ℕ) (most : Option ℕ) (leave : ℤ) (stop : ℕ) (values : List Value) (are : AreBestValues T (query_to from leave stop) values) where
  abbrev Has : ℤ → Type 0
  Has secs = (v : Value) × Contains values v × IsWithin most v.rides × (v.arrive ≡ leave +ℤ secs)

  -- no journey is quicker than the best values
  better : (secs : ℤ) → Takes T from most leave stop secs → (s : ℤ) × Has s × (s ≤ℤ secs)
  better secs (v, attained, few, at) =
      let w = best_values_contain T sound (query_to from leave stop) values are v attained in
      (w.0.arrive -ℤ leave, (w.0, w.1, within-fewer most w.0.rides v.rides w.2.1 few, there leave w.0.arrive), sooner leave w.0.arrive v.arrive secs w.2.0 at)
    where
      there : (l a : ℤ) → a ≡ (l +ℤ (a -ℤ l))
      there l a = omega (arith, ints)

      sooner : (l a b s : ℤ) → a ≤ℤ b → b ≡ (l +ℤ s) → (a -ℤ l) ≤ℤ s
      sooner l a b s g e = omega (arith, ints, g, e)

  travel_time : (o : Option ℤ) → IsLeast Has o → IsTravelTime T from most leave stop o
  travel_time None none = λ secs takes. let b = better secs takes in none b.0 b.1
  travel_time (Some m) least = (
    (least.0.0, IsBest.attained (All-contains (IsBest T (query_to from leave stop)) values least.0.0 are.best least.0.1), least.0.2, least.0.3),
    λ secs takes. let b = better secs takes in ≤ℤ-trans m b.0 secs (least.1 b.0 b.1) b.2,
  )

pub returns : goal.returns
returns c = λ T sound from most leave stop values are time least. travel_time T sound from most leave stop values are time least
