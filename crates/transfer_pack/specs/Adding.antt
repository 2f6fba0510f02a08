-- The events of a trip, put behind those of others.
use Rattle.std.specs.Prelude.{◌≡◌, ℕ, List, ◌++◌, length, map}
use Rattle.tb_base.specs.declared.table.Event.{Event}
use Rattle.tb_base.specs.declared.transfer.Hop.{Hop}
use Rattle.tb_base.specs.Transfers.{numbers_below}
use Rattle.transfer_pack.specs.declared.set.Spot.{Spot}
use Rattle.transfer_pack.specs.CallsOf.{call_of}
use Rattle.transfer_pack.specs.Packed.{AreBounds, runs_in}
use Rattle.transfer_pack.specs.Spots.{calls_beside, ends_in}

-- hops and spots after these events were put behind others, each with its hops
pub record AddsEvents (hops_from : ℕ → List Hop) (events : List Event) (old new : List Hop)
    (before after : List Spot) : Type 0 where
  pub bounds : AreBounds (ends_in after) (length new)
  pub runs : runs_in new (ends_in after)
      ≡ runs_in old (ends_in before) ++ map hops_from (numbers_below (length events))
  pub calls : calls_beside after ≡ calls_beside before ++ map call_of events
