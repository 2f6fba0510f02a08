-- The first item of a process that lives.
use Rattle.std.proofs.Common.{ℕ, Bool, List, [], ◌∷◌, ◌++◌, Option, None, Result, Ok}
use Rattle.tb_base.specs.TimetableData.{TimetableData}
use Rattle.footpaths.specs.declared.paths.Options.{Options}
use Rattle.gtfs_rows.specs.declared.fault.FeedFault.{FeedFault}
use Rattle.tb_io.specs.Files.{FileList}
use Rattle.edition_store.specs.Editions.{EditionData}
use Rattle.live_turns.specs.Live.{AreNews, BeginsWithEdition, HasAnEdition, HasBecome}
use Rattle.live_turns.specs.LiveTexts.{NewsData}
use Rattle.edition_build.specs.Plans.{DayGives, ItemData, OfDay}
use Rattle.edition_build.specs.Plans.{FirstGives}
use Rattle.live_turns.specs.declared.live.news.Became.{Became}
use Rattle.live_turns.specs.declared.live.news.Became.TheVariants as became
use Rattle.edition_build.proofs.FirstDay.{source_table}

-- a day that was published has a timetable
has_table : (files : Option FileList) (options : Options) (mirrored : Bool) (n : ℕ) (item : ItemData) (b : Became) (es : List EditionData) →
    HasBecome files options mirrored None n item b es → HasAnEdition b → (T : TimetableData) × OfDay item.source (λ d. DayGives files options d (Ok T))
has_table files options mirrored n item (became.Outcome o) es h is = source_table files options mirrored n item.source o es h is
has_table files options mirrored n item became.ReadFault es h is = absurd is
has_table files options mirrored n item became.Memory es h is = absurd is

begins_with : (files : Option FileList) (options : Options) (mirrored : Bool) (item : ItemData) (items : List ItemData) (news : List NewsData) (es : List EditionData) →
    AreNews files options mirrored (item ∷ items) news es → BeginsWithEdition news → (T : TimetableData) × OfDay item.source (λ d. DayGives files options d (Ok T))
begins_with files options mirrored item items [] es h begins = absurd begins
begins_with files options mirrored item items (x ∷ news) es h begins = has_table files options mirrored 0 item x.became h.0 h.3.1 begins

-- where the first of some items was published, and they give something, they give its timetable
pub first_table : (files : Option FileList) (options : Options) (mirrored : Bool) (words more : List ItemData) (news : List NewsData) (es : List EditionData) →
    AreNews files options mirrored (words ++ more) news es → BeginsWithEdition news → (day : Result TimetableData FeedFault) → FirstGives files options words day →
    (T : TimetableData) × FirstGives files options words (Ok T)
first_table files options mirrored [] more news es h begins day is = absurd is
first_table files options mirrored (item ∷ items) more news es h begins day is = begins_with files options mirrored item (items ++ more) news es h begins
