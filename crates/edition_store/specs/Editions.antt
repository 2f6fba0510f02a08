-- The network of a day, with the number of its kept transfers, and the network of its mirror.
use Rattle.std.specs.Prelude.{◌≡◌, ℕ, List, Option, IfSome, length, sum_by}
use Rattle.std.specs.List.{range_with_len}
use Rattle.tb_base.specs.Lines.{AreLines}
use Rattle.tb_base.specs.Network.{NetData}
use Rattle.tb_base.specs.Soundness.{IsSound}
use Rattle.tb_base.specs.Sufficiency.{AreSufficient}
use Rattle.tb_base.specs.TimetableData.{TimetableData}
use Rattle.tb_base.specs.Transfers.{kept_hops, transfers_of}
use Rattle.transfer_pack.specs.Packed.{PackedHops, packed}
use Rattle.edition_store.specs.Mirror.{IsMirror}

-- a timetable, lines and a set of hops
pub record NetworkData : Type 0 where
  pub table : TimetableData
  pub lines : List (List ℕ)
  pub set : PackedHops

-- what a search sees of it
abbrev pub net_of : NetworkData → NetData
net_of N = record { table = N.table; lines = N.lines; hops = packed N.set }

-- the same, with how many hops there are in all, and where it is wanted the network of the mirror
pub record EditionData : Type 0 where
  pub table : TimetableData
  pub lines : List (List ℕ)
  pub set : PackedHops
  pub kept : ℕ
  pub mirror : Option NetworkData

abbrev pub network_of : EditionData → NetworkData
network_of e = record { table = e.table; lines = e.lines; set = e.set }

-- a network, with how many hops it has, and one of its mirror or none
abbrev pub edition_of : NetworkData → ℕ → Option NetworkData → EditionData
edition_of N kept mirror = record {
  table = N.table;
  lines = N.lines;
  set = N.set;
  kept = kept;
  mirror = mirror;
}

-- how many transfers are kept, those of all trips
abbrev pub kept_count : TimetableData → List (List ℕ) → ℕ
kept_count T lines =
    sum_by (λ t. length (transfers_of T (kept_hops T lines t) t))
    (range_with_len 0 (length T.trips))

-- The timetable is sound, the lines are its lines, and the hops are its kept transfers, which are
-- enough to find all best values.
pub record IsNetwork (N : NetworkData) : Type 0 where
  pub sound : IsSound N.table
  pub lines : AreLines N.table N.lines
  pub hops : (t i : ℕ) → packed N.set t i ≡ kept_hops N.table N.lines t i
  pub sufficient : AreSufficient N.table (packed N.set)

-- the same of the mirror of a timetable
pub record IsMirrorNetwork (T : TimetableData) (M : NetworkData) : Type 0 where
  pub mirror : IsMirror T M.table
  pub network : IsNetwork M

-- such a network, its hops counted, and where there is one, that of its mirror
pub record IsEdition (e : EditionData) : Type 0 where
  pub network : IsNetwork (network_of e)
  pub kept : e.kept ≡ kept_count e.table e.lines
  pub mirror : IfSome e.mirror (IsMirrorNetwork e.table)
