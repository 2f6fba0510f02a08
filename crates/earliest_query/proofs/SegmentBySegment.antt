-- The segments of a round are ridden one by one.
use Rattle.std.proofs.Common.{◌≡◌, ℕ, suc, ◌+◌, ◌<◌, ◌≤◌, inl, inr, length, sym, subst, arith, Option}
use Rattle.tb_base.specs.Network.{NetData}
use Rattle.tb_base.specs.BestValues.{QueryData}
use Rattle.tb_base.proofs.NumberFacts.{below_or_at}
use Rattle.segment_queue.specs.declared.desk.Hit.{Hit}
use Rattle.segment_queue.specs.Queue.{DeskData}
use Rattle.segment_queue.specs.Traced.{segment_of}
use Rattle.earliest_query.specs.UnderWay.{Covers, AddsSegments, IsBounded, IsDone, IsImproved}
use Rattle.earliest_query.proofs.Growing.{extends-long, extends-segment}
use Rattle.earliest_query.proofs.Lateness.{done-kept}
use Rattle.earliest_query.proofs.BestSoFar.{bounded-improved, bounded-same, covers-kept}

-- segment k is ridden, which is one of a desk D that has grown to E before, and to F by that
module _ (N : NetData) (Q : QueryData) (D E F : DeskData) (from k round : ℕ) (best result : Option Hit) (inside : k < length D.segments) (extends : AddsSegments D E (suc round)) (joined : AddsSegments E F (suc round)) (improved : IsImproved N.table Q F round best result) where
  same : segment_of E.segments k ≡ segment_of D.segments k
  same = extends-segment D E (suc round) extends k inside

  covers_this : (n i : ℕ) → n ≡ k → Covers D n i → Covers E k i
  covers_this n i e covers = covers-kept D E k i (sym same) (subst (λ m. Covers D m i) e covers)

  pub followed_one_more : ((n i : ℕ) → from ≤ n → n < k → Covers D n i → IsDone N E best n i) → ((i : ℕ) → Covers E k i → IsDone N F result k i) → (n i : ℕ) → from ≤ n → n < k + 1 → Covers D n i → IsDone N F result n i
  followed_one_more before this n i above below covers = elim (below_or_at n k below) [
    | inl earlier ↦ done-kept N Q E F (suc round) round n i best result joined (omega (arith, earlier, inside, extends-long D E (suc round) extends)) improved (before n i above earlier covers)
    | inr e ↦ subst (λ m. IsDone N F result m i) (sym e) (this i (covers_this n i e covers))
  ]

  pub bounded_one_more : ((n i : ℕ) → from ≤ n → n < k → Covers D n i → IsBounded N.table Q D best n i) → ((i : ℕ) → Covers E k i → IsBounded N.table Q E result k i) → (n i : ℕ) → from ≤ n → n < k + 1 → Covers D n i → IsBounded N.table Q D result n i
  bounded_one_more before this n i above below covers = elim (below_or_at n k below) [
    | inl earlier ↦ bounded-improved N.table Q D F round best result n i improved (before n i above earlier covers)
    | inr e ↦ subst (λ m. IsBounded N.table Q D result m i) (sym e) (bounded-same N.table Q E D result k i same (this i (covers_this n i e covers)))
  ]
