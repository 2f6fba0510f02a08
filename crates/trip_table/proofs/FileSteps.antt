-- What a file gives, and then those after it, is what all of them give.
use Rattle.std.proofs.Common.{◌≡◌, sym, subst, List, ℕ, Option}
use Rattle.std.specs.Prelude.{Result, Ok, IsSome}
use Rattle.tb_io.specs.Files.{FileList}
use Rattle.gtfs_rows.specs.Steps.{and_then}
use Rattle.gtfs_rows.specs.Refused.{Yields}
use Rattle.gtfs_rows.specs.declared.fault.FeedFault.{FeedFault}
use Rattle.trip_table.specs.Feed.{Feed}
use Rattle.trip_table.specs.References.{Rows}
use Rattle.trip_table.specs.Answers.{IsDayRefused, feed_of}
use Rattle.trip_table.specs.declared.day_fault.DayFault.{DayFault}

pub then_yields : {A : Type 0} (first second : Option FileList) (dir : List ℕ) (this : Feed → Result A FeedFault) (next : Feed → A → Result Rows FeedFault) (x : A) (result : Result Rows DayFault) → second ≡ first
    → (IsSome first → this (feed_of first dir) ≡ Ok x) → (IsSome second → Yields IsDayRefused result (λ rows. rows) (next (feed_of second dir) x)) → IsSome first
    → Yields IsDayRefused result (λ rows. rows) (and_then (this (feed_of first dir)) (next (feed_of first dir)))
then_yields {A} first second dir this next x result same are told there =
    let feed = feed_of first dir in
    let h : Yields IsDayRefused result (λ rows. rows) (next feed x) = subst (λ (o : Option FileList). IsSome o → Yields IsDayRefused result (λ rows. rows) (next (feed_of o dir) x)) same told there in
    subst (λ (m : Result A FeedFault). Yields IsDayRefused result (λ rows. rows) (and_then m (next feed))) (sym (are there)) h
