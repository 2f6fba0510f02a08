use Rattle.std.proofs.Common.{rules, ◌≡◌, true}
use Rattle.std.specs.Prelude.{is_some}
use Rattle.gtfs_rows.specs.LeftOut.{bearer}
use Rattle.trip_table.specs.Answers.{feed_of}
use Rattle.trip_table.proofs.LeftDaySteps.{lenient_given}
use Rattle.trip_table.proofs.left_day.read_lenient_day.Goals as goal

pub returns-clause-told : goal.returns-clause-told
returns-clause-told g c = λ there.
    let feed = feed_of (g.F.Folder.files c.args.folder.now) c.args.dir.now in
    let strict = rw c.in-Err-Feed.field-0-is at c.in-Err-Feed.ensures.told there in
    let borne : is_some (bearer c.in-Err-Feed.fault) ≡ true = search rules in
    let left = rw (c.in-Err-Feed.ensures.leaves.files, c.requires.none) at c.read_left_day.ensures.told in
    lenient_given feed c.args.day.now c.args.options.now c.read_left_day.new.told.items c.in-Err-Feed.fault c.read_left_day.result strict borne (left there)
