-- The reduction of a trip, event by event.
use Rattle.std.specs.Prelude.{◌≡◌, ℕ, ℤ, ◌+◌, List, length, map, flat_map, Option}
use Rattle.tb_base.specs.declared.transfer.Hop.{Hop}
use Rattle.tb_base.specs.declared.transfer.Transfer.{Transfer}
use Rattle.tb_base.specs.TimetableData.{TimetableData}
use Rattle.tb_base.specs.Transfers.{candidates, candidates_without_u_turns, numbers_down, transfers_of}
use Rattle.tb_laws.specs.Rows.{transfer_by_hop}
use Rattle.transfer_reduce.specs.Reduced.{IsReducedTo}

-- the transfers of trip t by these hops of its events below i, from the last one down
abbrev pub rows_under : ℕ → (ℕ → List Hop) → ℕ → List Transfer
rows_under t hops i = flat_map (λ j. map (transfer_by_hop t j) (hops j)) (numbers_down i)

-- so many transfers by these hops are counted of trip t, from its last event down to event i
abbrev pub IsCountedTo : TimetableData → ℕ → (ℕ → List Hop) → ℕ → ℕ → Type 0
IsCountedTo T t hops i count =
    count + length (rows_under t hops i) ≡ length (transfers_of T hops t)

-- from its last event down to event i trip t is reduced to these rows, and counted
pub record IsDoneTo (T : TimetableData) (lines : List (List ℕ)) (t i : ℕ) (rows : List Transfer)
    (generated after_uturn : ℕ) (times : List (Option ℤ)) : Type 0 where
  pub reduced : IsReducedTo T lines t i rows times
  pub generated_to : IsCountedTo T t (candidates T lines t) i generated
  pub cut_to : IsCountedTo T t (candidates_without_u_turns T lines t) i after_uturn
