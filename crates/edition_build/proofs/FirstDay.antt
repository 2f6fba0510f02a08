-- The day with which a plan begins.
use Rattle.std.proofs.Common.{◌≡◌, inl, inr, ℕ, Bool, List, [], ◌∷◌, Option, Some, None, Ok, refl, sym, subst}
use Rattle.tb_base.specs.TimetableData.{TimetableData}
use Rattle.footpaths.specs.declared.paths.Options.{Options}
use Rattle.tb_io.specs.Files.{FileList}
use Rattle.edition_store.specs.Editions.{EditionData}
use Rattle.edition_build.specs.declared.plan.ItemSource.{ItemSource}
use Rattle.edition_build.specs.declared.plan.ItemSource.TheVariants as source
use Rattle.edition_build.specs.declared.plan.Outcome.{Outcome}
use Rattle.edition_build.specs.FeedDays.{FeedDayData}
use Rattle.edition_build.specs.Plans.{AreOutcomes, BeginsPublished, DayGives, HasSourceOutcome, IsEditionOfDay, IsPublished, ItemData, OfDay, day_after, outcome_of}
use Rattle.edition_build.specs.Plans.{FirstGives}

pub of_day : (s : ItemSource) (d : FeedDayData) (Holds : FeedDayData → Type 0) → s ≡ source.Day d → Holds d → OfDay s Holds
of_day s d Holds is h = subst (λ t. OfDay t Holds) (sym is) h

-- the first day is published
pub source_first : (files : Option FileList) (options : Options) (mirrored : Bool) (s : ItemSource) (e : EditionData) → OfDay s (λ d. IsEditionOfDay files options mirrored d e) →
    HasSourceOutcome files options mirrored None 0 s (outcome_of 1 e) (e ∷ []) × (day_after None s (e ∷ []) ≡ Some e)
source_first files options mirrored (source.Day d) e h = (inl (e, refl, h, refl), refl)
source_first files options mirrored (source.Late path) e h = absurd h

-- a day that was published has a timetable
pub source_table : (files : Option FileList) (options : Options) (mirrored : Bool) (n : ℕ) (s : ItemSource) (o : Outcome) (es : List EditionData) →
    HasSourceOutcome files options mirrored None n s o es → IsPublished o → (T : TimetableData) × OfDay s (λ d. DayGives files options d (Ok T))
source_table files options mirrored n (source.Day d) o es (inl h) p = (h.0.table, h.2.0)
source_table files options mirrored n (source.Day d) o es (inr h) p = absurd (subst (λ q. IsPublished q) h.2 p)
source_table files options mirrored n (source.Late path) o es h p = absurd h

-- a plan whose first item was published gives its timetable
pub published_table : (files : Option FileList) (options : Options) (mirrored : Bool) (plan : List ItemData) (os : List Outcome) (es : List EditionData) →
    AreOutcomes files options mirrored plan os es → BeginsPublished os → (T : TimetableData) × FirstGives files options plan (Ok T)
published_table files options mirrored [] [] es h begins = absurd begins
published_table files options mirrored [] (o ∷ os) es h begins = absurd h
published_table files options mirrored (item ∷ items) [] es h begins = absurd begins
published_table files options mirrored (item ∷ items) (o ∷ os) es h begins = source_table files options mirrored 0 item.source o h.0 h.3 begins
