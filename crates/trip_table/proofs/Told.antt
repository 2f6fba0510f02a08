-- What a step refuses is what all that begins with it refuses.
use Rattle.std.proofs.Common.{◌≡◌, refl, ℕ, ◌<◌, List, length, Option, Some, None, true, false, arith}
use Rattle.std.specs.Prelude.{Result, Err, nat_le, IsSome, IfSome}
use Rattle.std.proofs.lemmas.Bool.Decides.{nat_tests}
use Rattle.tb_io.specs.Files.{FileList, file_at}
use Rattle.gtfs_rows.specs.Steps.{and_then}
use Rattle.gtfs_rows.specs.Refused.{AreRowsRefused}
use Rattle.gtfs_rows.specs.declared.fault.FeedFile.{FeedFile}
use Rattle.gtfs_rows.specs.declared.fault.FeedFault.{FeedFault}
use Rattle.gtfs_rows.specs.declared.fault.FeedFault.TheVariants as fault
use Rattle.gtfs_rows.specs.declared.fault.RowsFault.{RowsFault}
use Rattle.gtfs_rows.specs.declared.fault.RowsFault.TheVariants as rows_why
use Rattle.trip_table.specs.Feed.{sized, path_in}
use Rattle.trip_table.specs.Answers.{IsDayRefused, feed_of}
use Rattle.trip_table.specs.declared.day_fault.DayFault.{DayFault}
use Rattle.trip_table.specs.declared.day_fault.DayFault.TheVariants as why

pub rows_refused : {A B : Type 0} (m : Result A FeedFault) (next : A → Result B FeedFault) (f : RowsFault) → AreRowsRefused m f → AreRowsRefused (and_then m next) f
rows_refused m next (rows_why.Feed f) h = rw h refl
rows_refused m next rows_why.Memory h = tt

pub refused : {A B : Type 0} (m : Result A FeedFault) (next : A → Result B FeedFault) (f : DayFault) → IsDayRefused m f → IsDayRefused (and_then m next) f
refused m next (why.Feed f) h = rw h refl
refused m next why.ReadFault h = tt
refused m next why.Memory h = tt

sized_too_large : (file : FeedFile) (o : Option (List ℕ)) → IfSome o (λ bytes. 1073741824 < length bytes) → IsSome o → sized file o ≡ Err (fault.FileTooLarge file)
sized_too_large file None h s = absurd (let e : false ≡ true = s in cc)
sized_too_large file (Some bytes) h s = let t : nat_le (length bytes) 1073741824 ≡ false = grind (arith, nat_tests, h) in rw t refl

pub too_large : (files : Option FileList) (dir path : List ℕ) (file : FeedFile) → path ≡ path_in dir file → IfSome files (λ fs. IfSome (file_at fs path) (λ bytes. 1073741824 < length bytes)) → IfSome files (λ fs. IsSome (file_at fs path)) → IsSome files
    → sized file (feed_of files dir file) ≡ Err (fault.FileTooLarge file)
too_large None dir path file e h there s = absurd (let e : false ≡ true = s in cc)
too_large (Some fs) dir path file e h there s = rw (← e) (sized_too_large file (file_at fs path) h there)
