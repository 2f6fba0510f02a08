-- Events that have been met stay so.
use Rattle.std.proofs.Common.{◌≡◌, ℕ, suc, ◌+◌, ◌<◌, ◌≤◌, inl, inr, List, length, refl, sym, subst, arith, Option}
use Rattle.tb_base.specs.Network.{NetData}
use Rattle.tb_base.specs.TimetableData.{arrival_at}
use Rattle.tb_base.specs.BestValues.{QueryData}
use Rattle.tb_base.proofs.NumberFacts.{below_or_at}
use Rattle.segment_queue.specs.declared.desk.Segment.{Segment}
use Rattle.segment_queue.specs.declared.desk.Hit.{Hit}
use Rattle.segment_queue.specs.declared.notes.Note.{Note}
use Rattle.segment_queue.specs.Queue.{DeskData}
use Rattle.segment_queue.specs.Traced.{round_of, segment_of}
use Rattle.earliest_query.specs.Choices.{ArrivesBy}
use Rattle.earliest_query.specs.Meeting.{IsMet, IsMetInTime}
use Rattle.earliest_query.specs.UnderWay.{Covers, AddsSegments, IsImproved}
use Rattle.earliest_query.proofs.BestSoFar.{arrives_by-improved, covers-kept, new_hit-kept}
use Rattle.earliest_query.proofs.Growing.{extends-refl, extends-round, extends-segment, outdone-kept}
use Rattle.earliest_query.proofs.Noting.{notes-extends}

-- what has been met of a segment stays so when the queue has grown and more has been met
pub met-grown : (D E : DeskData) (n i : ℕ) (old new : ℕ → ℕ → ℕ → Type 0) → ((t j r : ℕ) → old t j r → new t j r) → segment_of E.segments n ≡ segment_of D.segments n → round_of E.segments n ≡ round_of D.segments n → IsMet old D n i → IsMet new E n i
met-grown D E n i old new more same round met =
    subst (λ r. new (segment_of E.segments n).trip i r) (sym round)
    (subst (λ (s : Segment). new s.trip i (round_of D.segments n)) (sym same) (more (segment_of D.segments n).trip i (round_of D.segments n) met))

-- so it is with a better hit, too
pub met-kept : (N : NetData) (Q : QueryData) (D E : DeskData) (joined n i round : ℕ) (a b : Option Hit) (old new : ℕ → ℕ → ℕ → Type 0) → ((t j r : ℕ) → old t j r → new t j r) → AddsSegments D E joined → n < length D.segments → IsImproved N.table Q E round a b
    → IsMetInTime N old D a n i → IsMetInTime N new E b n i
met-kept N Q D E joined n i round a b old new more grown inside improved (inl met) = inl (met-grown D E n i old new more (extends-segment D E joined grown n inside) (extends-round D E joined grown n inside) met)
met-kept N Q D E joined n i round a b old new more grown inside improved (inr (inl late)) =
    inr (inl (subst (λ (s : Segment). ArrivesBy b (arrival_at N.table s.trip i)) (sym (extends-segment D E joined grown n inside))
    (arrives_by-improved N.table Q E round a b (arrival_at N.table (segment_of D.segments n).trip i) improved late)))
met-kept N Q D E joined n i round a b old new more grown inside improved (inr (inr o)) = inr (inr (outdone-kept N D E joined n i grown inside o))

-- one more segment has been weighed, which is number k, once the desk had these notes
pub met_one_more : (N : NetData) (Q : QueryData) (D : DeskData) (notes : List Note) (from k round : ℕ) (best result : Option Hit) → k < length D.segments → IsImproved N.table Q (record D { notes = notes }) round best result
    → (old new : ℕ → ℕ → ℕ → Type 0) → ((t j r : ℕ) → old t j r → new t j r) → ((n i : ℕ) → from ≤ n → n < k → Covers D n i → IsMetInTime N old D best n i) → ((i : ℕ) → Covers (record D { notes = notes }) k i → IsMetInTime N new (record D { notes = notes }) result k i)
    → (n i : ℕ) → from ≤ n → n < k + 1 → Covers D n i → IsMetInTime N new D result n i
met_one_more N Q D notes from k round best result inside improved old new more before this n i above below c = elim (below_or_at n k below) [
  | inl earlier ↦ met-kept N Q D D (suc round) n i round best result old new more (extends-refl D (suc round)) (omega (arith, earlier, inside)) (new_hit-kept N.table Q (record D { notes = notes }) D (suc round) round best result (notes-extends D notes (suc round)) improved) (before n i above earlier c)
  | inr e ↦ subst (λ m. IsMetInTime N new D result m i) (sym e) (this i (covers-kept D (record D { notes = notes }) k i refl (subst (λ m. Covers D m i) e c)))
]
