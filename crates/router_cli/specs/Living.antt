-- What the program's status says of a process that lives.
use Rattle.std.specs.Prelude.{ℕ, List, [], map, Option}
use Rattle.tb_io.specs.Files.{FileList}
use Rattle.footpaths.specs.declared.paths.Options.{Options}
use Rattle.command_line.specs.Plans.{LiveRequestData}
use Rattle.live_turns.specs.Live.{HasFailed, HasLived}
use Rattle.edition_build.specs.Plans.{ItemData}
use Rattle.live_turns.specs.declared.live.lived.LiveFault.TheVariants as fault
use Rattle.live_turns.specs.declared.live.saying.LiveMode.{LiveMode}
use Rattle.router_cli.specs.Serving.{item_of}
use Rattle.router_cli.specs.declared.status.Status.{Status}
use Rattle.router_cli.specs.declared.status.Status.TheVariants as status

-- the items that the words name, with which the plan begins
abbrev pub first_items : LiveRequestData → List ItemData
first_items r = map item_of r.plan

-- how lines are read, and what is written of them
abbrev pub mode_of : LiveRequestData → LiveMode
mode_of r = record { json = r.json; mirrored = r.mirror }

-- What a status says of a folder's count of faults before and now, of the bytes of a source before
-- and now, where it tells them, and of the bytes that a sink held before and holds now. Done: each
-- line of the source was answered, and all was written. FeedRefused: the first day is refused, and
-- nothing was read or written. Any other one: it ended early, and what was written is that of some
-- first lines, or a first part of it.
abbrev pub IsLiveOutcome : Option FileList → Options → LiveMode → List ItemData → ℕ → ℕ →
    Option (List ℕ) → Option (List ℕ) → Status → Option (List ℕ) → Option (List ℕ) → Type 0
IsLiveOutcome files options mode plan faults risen left rest status.Done before now =
    HasLived files options mode plan [] faults risen left before now
IsLiveOutcome files options mode plan faults risen left rest (status.FeedRefused f) before now =
    HasFailed files options mode plan left rest before now (fault.Feed f)
IsLiveOutcome files options mode plan faults risen left rest status.ReadFault before now =
    HasFailed files options mode plan left rest before now fault.ReadFault
IsLiveOutcome files options mode plan faults risen left rest status.WriteFault before now =
    HasFailed files options mode plan left rest before now fault.WriteFault
IsLiveOutcome files options mode plan faults risen left rest status.Memory before now =
    HasFailed files options mode plan left rest before now fault.Memory
IsLiveOutcome files options mode plan faults risen left rest s before now = ⊥
