use Rattle.std.proofs.Common.{◌≡◌, ◌≤◌, take}
use Rattle.live_turns.specs.Live.{ReadFaultsRose}
use Rattle.live_turns.specs.LivePublisher.{HavePublished}
use Rattle.live_turns.proofs.live.publisher.publish_words.Given as goal

abbrev pub invariant-loop-i : goal.invariant-loop-i
invariant-loop-i g l =
    HavePublished (g.F.Folder.files l.fn.folder) l.building.options l.building.mirrored (take l.i l.words) l.news (g.P.Issues.list l.publisher) l.day
    × (g.F.Folder.files l.folder ≡ g.F.Folder.files l.fn.folder)
    × (g.F.Folder.faults l.fn.folder ≤ g.F.Folder.faults l.folder)
    × ReadFaultsRose (g.F.Folder.faults l.fn.folder) (g.F.Folder.faults l.folder) l.news
