use Rattle.std.proofs.Common.{◌≡◌, ◌≤◌, length, map, drop}
use Rattle.std.specs.Prelude.{All, IfSome, IsSome, option_map}
use Rattle.gtfs_rows.specs.Steps.{prepend}
use Rattle.trip_table.specs.Answers.{feed_of}
use Rattle.trip_table.specs.LeftFeed.{sized_all}
use Rattle.trip_table.proofs.left_day.take_all.Given as goal

abbrev pub invariant-loop-file : goal.invariant-loop-file
invariant-loop-file g l = record {
  told : IsSome (g.F.Folder.files l.fn.folder) → sized_all (feed_of (g.F.Folder.files l.fn.folder) l.dir) l.files
      ≡ prepend (map (option_map (λ v. v.items)) l.texts.items) (sized_all (feed_of (g.F.Folder.files l.fn.folder) l.dir) (drop l.file-index l.files));
  within : All (λ text. IfSome text (λ v. length v.items ≤ 1073741824)) l.texts.items;
  files : g.F.Folder.files l.folder ≡ g.F.Folder.files l.fn.folder;
  faults : g.F.Folder.faults l.folder ≡ g.F.Folder.faults l.fn.folder;
}
