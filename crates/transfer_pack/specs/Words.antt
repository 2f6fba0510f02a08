-- Hops in words.
use Rattle.std.specs.Prelude.{ℕ, ◌/◌, ◌%◌, ◌<◌, ⊤, List, map}
use Rattle.tb_base.specs.declared.transfer.Hop.{Hop}
use Rattle.transfer_pack.specs.declared.hops.Held.{Held}
use Rattle.transfer_pack.specs.declared.hops.Hops.{Hops}
use Rattle.transfer_pack.specs.declared.hops.Lent.{Lent}

-- the hop fits one word
pub record IsShortHop (h : Hop) : Type 0 where
  pub trip : h.trip < 4194304
  pub at : h.at < 1024

-- the hop in a word
abbrev pub hop_in : ℕ → Hop
hop_in word = record { trip = word / 1024; at = word % 1024 }

-- what holds hops has words that are wide enough for this one
abbrev pub Takes : Held → Hop → Type 0
Takes (Held.Short words) h = IsShortHop h
Takes (Held.Long hops) h = ⊤

-- the hops that are lent
abbrev pub hops_lent : Lent → List Hop
hops_lent (Lent.Short words) = map hop_in words.now
hops_lent (Lent.Long hops) = hops.now

-- the hops, in order
abbrev pub lent : Hops → List Hop
lent h = hops_lent h.hops

-- the hops that a set holds
abbrev pub hops_held : Held → List Hop
hops_held (Held.Short words) = map hop_in words.items
hops_held (Held.Long hops) = hops.items
