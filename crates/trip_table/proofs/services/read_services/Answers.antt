use Rattle.std.proofs.Common.{◌≡◌, sym, subst, ℕ, List, Option}
use Rattle.std.specs.Prelude.{Result, Ok, IsSome}
use Rattle.tb_io.specs.Files.{FileList}
use Rattle.gtfs_rows.specs.Steps.{and_then}
use Rattle.gtfs_rows.specs.CalendarFile.{CalendarData}
use Rattle.gtfs_rows.specs.DatesFile.{date_row}
use Rattle.gtfs_rows.specs.declared.fault.FeedFile.TheVariants as file
use Rattle.gtfs_rows.specs.declared.fault.FeedFault.{FeedFault}
use Rattle.trip_table.specs.Answers.{IsDayRefused, feed_of}
use Rattle.trip_table.specs.Feed.{file_rows}
use Rattle.trip_table.specs.References.{calendar_of, check_services, services_of}
use Rattle.trip_table.specs.declared.day_fault.DayFault.{DayFault}
use Rattle.trip_table.proofs.Told.{refused}
use Rattle.trip_table.proofs.services.read_services.Goals as goal

-- after a good calendar.txt, what calendar_dates.txt refuses is refused
dates_refused : (before now : Option FileList) (dir : List ℕ) (calendar : Option (List CalendarData)) (fault : DayFault) → now ≡ before → (IsSome before → calendar_of (feed_of before dir) ≡ Ok calendar)
    → (IsSome now → IsDayRefused (file_rows (feed_of now dir) file.CalendarDates date_row) fault) → IsSome before → IsDayRefused (services_of (feed_of before dir)) fault
dates_refused before now dir calendar fault same good told there =
    let dates = file_rows (feed_of before dir) file.CalendarDates date_row in
    let here = subst (λ (files : Option FileList). IsSome files → IsDayRefused (file_rows (feed_of files dir) file.CalendarDates date_row) fault) same told in
    subst (λ (m : Result (Option (List CalendarData)) FeedFault). IsDayRefused (and_then m (λ calendar. and_then dates (check_services calendar))) fault) (sym (good there))
    (refused dates (check_services calendar) fault (here there))

pub returns-in-Err-file_rows-clause-told : goal.returns-in-Err-file_rows-clause-told
returns-in-Err-file_rows-clause-told g c =
    dates_refused (g.F.Folder.files c.args.folder.now) _ c.args.dir.now _ c.in-Err-file_rows.fault c.in-Ok.ensures.leaves.files c.in-Ok.ensures.told c.in-Err-file_rows.ensures.told
