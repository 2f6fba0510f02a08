-- A sweep that begins.
use Rattle.std.proofs.Common.{◌≡◌, ℕ, zero, suc, ◌<◌, ◌≤◌, inl, List, [], ◌∷◌, length, replicate, sym, ap, subst, arith, Option, None}
use Rattle.std.specs.Prelude.{All}
use Rattle.std.proofs.lemmas.List.{length-replicate}
use Rattle.std.proofs.lemmas.List.Elements.{All-cons, All-nil}
use Rattle.tb_base.specs.Network.{NetData}
use Rattle.tb_base.specs.BestValues.{IsAttained, QueryData}
use Rattle.tb_base.specs.Lines.{AreDividedInto}
use Rattle.tb_base.specs.Soundness.{IsSound}
use Rattle.segment_queue.specs.Levels.{level_mark}
use Rattle.segment_queue.specs.Queue.{DeskData, IsFalling, IsSoundSegment, last_index}
use Rattle.segment_queue.proofs.InStep.{first_falling, first_mark, long_trip}
use Rattle.earliest_query.specs.Sweeping.{IsSweptSoFar}

module _ (N : NetData) (sound : IsSound N.table) (divided : AreDividedInto N.table N.lines) where
  abbrev first_level : List (Option ℕ)
  first_level = replicate (length N.table.trips) None

  mark : (m t : ℕ) → m < 1 → level_mark N.table (first_level ∷ []) m t ≡ last_index N.table t
  mark zero t h = first_mark N.table (length N.table.trips) t
  mark (suc m) t h = absurd (omega (arith, h))

  long : length first_level ≡ length N.table.trips
  long = let none : Option ℕ = None in length-replicate (length N.table.trips) none

  -- with no segment, no mark and no value it has come down to any time
  pub swept_begun : (Q : QueryData) (D : DeskData) → D.segments ≡ [] → IsSweptSoFar N Q D (record { levels = first_level ∷ []; values = [] })
  swept_begun Q D empty = record {
    queue = record {
      sound = subst (All (IsSoundSegment N.table)) (sym empty) (All-nil (IsSoundSegment N.table));
      entered = λ n inside. absurd (none n inside);
      by_hops = λ n p inside. absurd (none n inside);
      rounds = λ n inside. absurd (none n inside);
      some_level = omega arith;
      ends = λ n inside. absurd (none n inside);
      kept = λ m t here inside. inl (omega (arith, mark m t here));
      descending = λ k m t le here inside. omega (arith, mark k t (omega (arith, le, here)), mark m t here);
      room = All-cons (λ marks. length N.table.trips ≤ length marks) first_level [] (omega (arith, long)) (All-nil (λ marks. length N.table.trips ≤ length marks));
      falling = All-cons (λ marks. All (IsFalling N.table marks) N.lines) first_level [] (first_falling N.table N.lines (length N.table.trips) divided) (All-nil (λ marks. All (IsFalling N.table marks) N.lines));
      within = λ m t here inside. omega (arith, mark m t here, long_trip N.table t sound inside);
    };
    gone_on = record {
      done = λ n i inside. absurd (none n inside);
      offers = λ n i q secs inside. absurd (none n inside);
      attained = All-nil (IsAttained N.table Q);
    };
  }
    where
      none : (n : ℕ) → n < length D.segments → ⊥
      none n inside = omega (arith, inside, ap length empty)
