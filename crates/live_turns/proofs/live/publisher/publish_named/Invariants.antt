use Rattle.std.proofs.Common.{◌≡◌, ◌<◌, ◌≤◌, ℕ, length}
use Rattle.live_turns.specs.Live.{ReadFaultsRose}
use Rattle.live_turns.specs.LivePublisher.{HavePublished, items_taken}
use Rattle.live_turns.proofs.live.publisher.publish_named.Given as goal

abbrev pub invariant-loop-turn : goal.invariant-loop-turn
invariant-loop-turn g l =
    HavePublished (g.F.Folder.files l.fn.folder) l.building.options l.building.mirrored (items_taken l.words l.items) l.news (g.P.Issues.list l.publisher) l.day
    × (0 < length l.items)
    × (g.F.Folder.files l.folder ≡ g.F.Folder.files l.fn.folder)
    × (g.F.Folder.faults l.fn.folder ≤ g.F.Folder.faults l.folder)
    × ((start : ℕ) → start ≤ g.F.Folder.faults l.fn.folder → ReadFaultsRose start (g.F.Folder.faults l.fn.folder) l.fn.news → ReadFaultsRose start (g.F.Folder.faults l.folder) l.news)
