-- How far a reduction has come.
use Rattle.std.specs.Prelude.{◌≡◌, ◌⊎◌, ℕ, ◌<◌, ◌≤◌, List, [], ◌++◌, length, map, take, drop, filter_map, flat_map, ℤ, Option, Some, slice_index_or}
use Rattle.std.specs.Option.{option_map}
use Rattle.tb_base.specs.declared.table.Event.{Event}
use Rattle.tb_base.specs.declared.transfer.Hop.{Hop}
use Rattle.tb_base.specs.declared.transfer.Transfer.{Transfer}
use Rattle.tb_base.specs.TimetableData.{TimetableData}
use Rattle.tb_base.specs.Transfers.{Alternative, alternatives_at, candidates_without_u_turns, improving_alternatives, kept_alternatives, numbers_down}
use Rattle.tb_laws.specs.Rows.{transfer_by_hop}
use Rattle.transfer_reduce.specs.Reached.{AreShown}

-- what stands for a transfer that isn't there
abbrev pub no_transfer : Transfer
no_transfer = record { trip = 0; at = 0; to_trip = 0; to_at = 0 }

-- row n is one of event i
abbrev pub HasRowAt : List Transfer → ℕ → ℕ → Type 0
HasRowAt rows i n = (n < length rows) × (Transfer.at (slice_index_or rows n no_transfer) ≡ i)

-- the transfer by an alternative of trip t, if it hops
abbrev pub alternative_row : ℕ → Alternative → Option Transfer
alternative_row t a = option_map (transfer_by_hop t a.at) a.hop

-- the alternative of hopping at event i
abbrev pub hop_from : ℕ → Hop → Alternative
hop_from i h = record { at = i; hop = Some h }

-- the transfers by the candidates of the events of trip t below n that are no U-turns
abbrev pub rows_below : TimetableData → List (List ℕ) → ℕ → ℕ → List Transfer
rows_below T lines t n =
    flat_map (λ j. map (transfer_by_hop t j) (candidates_without_u_turns T lines t j)) (numbers_down n)

-- From the last event of trip t down to event i these are kept. The alternatives there have been
-- looked at, and the times show where they bring one, and when.
pub record IsReducedTo (T : TimetableData) (lines : List (List ℕ)) (t i : ℕ)
    (kept : List Transfer) (times : List (Option ℤ)) : Type 0 where
  pub earlier : List (List Event)
  pub done : filter_map (alternative_row t) (kept_alternatives T lines t)
      ≡ kept ++ filter_map (alternative_row t)
      (improving_alternatives T t earlier (flat_map (alternatives_at T lines t) (numbers_down i)))
  pub shown : AreShown T times earlier

-- Before these rows some are kept. Of the rows the first ones are kept; from a place on they are
-- those of some hops of event i, and of the events below n. The alternatives until then have been
-- looked at, and the times show where they bring one, and when.
pub record Reduces (T : TimetableData) (lines : List (List ℕ)) (t : ℕ)
    (before rows : List Transfer) (times : List (Option ℤ)) (n i taken kept : ℕ) : Type 0 where
  pub hops : List Hop
  pub earlier : List (List Event)
  pub few : n ≤ i
  pub left : drop taken rows ≡ map (transfer_by_hop t i) hops ++ rows_below T lines t n
  pub done : filter_map (alternative_row t) (kept_alternatives T lines t)
      ≡ (before ++ take kept rows) ++ filter_map (alternative_row t)
      (improving_alternatives T t earlier
      (map (hop_from i) hops ++ flat_map (alternatives_at T lines t) (numbers_down i)))
  pub shown : AreShown T times earlier
  pub begun : (hops ≡ []) ⊎ (0 < length earlier)
