-- One event more of a trip that is reduced.
use Rattle.std.proofs.Common.{◌≡◌, ◌∙◌, ℕ, suc, ◌+◌, ◌≤◌, List, length, map, ap, arith, length-append}
use Rattle.std.specs.Prelude.{filter, not}
use Rattle.tb_base.specs.declared.transfer.Hop.{Hop}
use Rattle.tb_base.specs.TimetableData.{TimetableData, events_of}
use Rattle.tb_base.specs.Lines.{AreDividedInto, AreLines}
use Rattle.tb_base.specs.Soundness.{IsSound}
use Rattle.tb_base.specs.Transfers.{candidates, candidates_without_u_turns, transfers_of}
use Rattle.tb_laws.specs.Rows.{transfer_by_hop}
use Rattle.line_split.specs.LinesData.{LinesData}
use Rattle.uturn_cut.specs.UTurns.{is_u_turn_row}
use Rattle.uturn_cut.proofs.Rows.{filter-map}
use Rattle.reduce_workers.specs.Reductions.{count_from}
use Rattle.reduce_workers.specs.Events.{IsCountedTo, rows_under}
use Rattle.reduce_workers.proofs.Counts.{generated_most, most, uncut_most}

-- the candidates of an event without the U-turns
pub event_cut : (T : TimetableData) (lines : List (List ℕ)) (t i : ℕ) → filter (λ r. not (is_u_turn_row T r)) (map (transfer_by_hop t i) (candidates T lines t i)) ≡ map (transfer_by_hop t i) (candidates_without_u_turns T lines t i)
event_cut T lines t i = filter-map (λ r. not (is_u_turn_row T r)) (transfer_by_hop t i) (candidates T lines t i)

module _ (T : TimetableData) (t : ℕ) (hops : ℕ → List Hop) where
  next : (i : ℕ) → i + 1 ≡ suc i
  next i = omega arith

  under : (i : ℕ) → length (rows_under t hops (i + 1)) ≡ length (map (transfer_by_hop t i) (hops i)) + length (rows_under t hops i)
  under i = ap (λ n. length (rows_under t hops n)) (next i) ∙ length-append (map (transfer_by_hop t i) (hops i)) (rows_under t hops i)

  -- one event more is counted
  pub counted_more : (i count more : ℕ) → IsCountedTo T t hops (i + 1) count → more ≡ length (map (transfer_by_hop t i) (hops i)) → IsCountedTo T t hops i (count + more)
  counted_more i count more h is = omega (arith, h, is, under i)

  -- as many as there are at most
  pub counted_most : (i count more : ℕ) → IsCountedTo T t hops (i + 1) count → more ≡ length (map (transfer_by_hop t i) (hops i)) → count + more ≤ length (transfers_of T hops t)
  counted_most i count more h is = omega (arith, h, is, under i)

  -- at the start, and at the end
  pub none_counted : (n : ℕ) → n ≡ length (events_of T t) → IsCountedTo T t hops n 0
  none_counted n e = omega (arith, ap (λ m. length (rows_under t hops m)) e)

  pub all_counted : (i count : ℕ) → i ≡ 0 → IsCountedTo T t hops i count → count ≡ length (transfers_of T hops t)
  all_counted i count e h = let none : length (rows_under t hops i) ≡ 0 = ap (λ m. length (rows_under t hops m)) e in omega (arith, none, h)

module _ (T : TimetableData) (L : LinesData) (own : L.table ≡ T) (sound : IsSound T) (are : AreLines L.table L.lines) (divided : AreDividedInto L.table L.lines) (t : ℕ) (inside : t + 1 ≤ length T.trips) where
  pub trip_generated : length (transfers_of T (candidates T L.lines t) t) ≤ most
  trip_generated = let all : count_from T (candidates T L.lines) t 1 ≤ most = generated_most T L own sound are divided t 1 inside in omega (arith, all)

  pub trip_uncut : length (transfers_of T (candidates_without_u_turns T L.lines t) t) ≤ most
  trip_uncut = let all : count_from T (candidates_without_u_turns T L.lines) t 1 ≤ most = uncut_most T L own sound are divided t 1 inside in omega (arith, all)
