-- A run has one outcome for each item of its plan. A plan whose first item is refused has no answer
-- but its fault, where nothing fails outside.
use Rattle.std.proofs.Common.{◌≡◌, inl, inr, ℕ, Bool, length, List, [], ◌∷◌, Option, None, Result, Ok, Err, arith, refl, subst}
use Rattle.std.specs.Prelude.{IfErr, IfOk, IsSome}
use Rattle.tb_base.specs.TimetableData.{TimetableData}
use Rattle.tb_io.specs.Files.{FileList}
use Rattle.gtfs_rows.specs.declared.fault.FeedFault.{FeedFault}
use Rattle.footpaths.specs.declared.paths.Options.{Options}
use Rattle.trip_table.specs.Answers.{feed_of}
use Rattle.trip_table.specs.AskedDay.{IsAskedDay}
use Rattle.trip_table.specs.Feed.{Feed}
use Rattle.edition_store.specs.Editions.{EditionData}
use Rattle.edition_build.specs.declared.plan.Outcome.{Outcome}
use Rattle.edition_build.specs.declared.plan.ItemSource.{ItemSource}
use Rattle.edition_build.specs.declared.plan.ItemSource.TheVariants as source
use Rattle.edition_build.specs.declared.plan.Outcome.TheVariants.{Refused}
use Rattle.lane_serve.specs.declared.run.ServeFault.{ServeFault}
use Rattle.lane_serve.specs.declared.run.ServeFault.TheVariants as fault
use Rattle.edition_build.specs.Plans.{AreOutcomes, BeginsPublished, DayGives, HasSourceOutcome, IsPublished, ItemData, OfDay}
use Rattle.lane_serve.specs.Script.{LaneData, needs_mirrors}
use Rattle.lane_serve.proofs.Plans.{outcome_count}
use Rattle.edition_build.specs.Plans.{FirstGives}
use Rattle.lane_serve.specs.Served.{IsServeFault, IsServed, ServedData, TellsFault}

-- there is one outcome for each item
pub outcome_each : (files : Option FileList) (options : Options) (plan : List ItemData) (script : List LaneData) (result : Result ServedData ServeFault)
    → IfOk result (IsServed files options plan script) → IfOk result (λ (s : ServedData). length s.outcomes ≡ length plan)
outcome_each files options plan script (Ok s) run = outcome_count files options (needs_mirrors script) plan s.outcomes run.editions run.outcomes
outcome_each files options plan script (Err f) none = tt

-- a day has one timetable or first fault
abbrev pub IsDetermined : Type 0
IsDetermined = (feed : Feed) (day : ℕ) (options : Options) (a b : Result TimetableData FeedFault) → IsAskedDay feed day options a → IsAskedDay feed day options b → a ≡ b

not_both : (T : TimetableData) (f : FeedFault) → Ok T ≡ Err f → ⊥
not_both T f e = cc

same_fault : (f g : FeedFault) (a b : Result TimetableData FeedFault) → a ≡ Err f → b ≡ Err g → a ≡ b → f ≡ g
same_fault f g a b h k e = cc

not_published : (o : Outcome) (f : FeedFault) → o ≡ Refused f → IsPublished o → ⊥
not_published o f is h = subst (λ p. IsPublished p) is h

-- a day that was published has no fault
not_refused_source : IsDetermined → (files : Option FileList) (options : Options) (mirrored : Bool) (n : ℕ) (s : ItemSource) (o : Outcome) (es : List EditionData) (f : FeedFault) → IsSome files
    → HasSourceOutcome files options mirrored None n s o es → IsPublished o → OfDay s (λ d. DayGives files options d (Err f)) → ⊥
not_refused_source one files options mirrored n (source.Late path) o es f there h p k = k
not_refused_source one files options mirrored n (source.Day d) o es f there (inr h) p k = not_published o h.0 h.2 p
not_refused_source one files options mirrored n (source.Day d) o es f there (inl h) p k =
    not_both h.0.table f (one (feed_of files d.dir) d.day options (Ok h.0.table) (Err f) (h.2.0 there) (k there))

not_refused : IsDetermined → (files : Option FileList) (options : Options) (mirrored : Bool) (plan : List ItemData) (os : List Outcome) (es : List EditionData) (f : FeedFault) → IsSome files
    → AreOutcomes files options mirrored plan os es → BeginsPublished os → FirstGives files options plan (Err f) → ⊥
not_refused one files options mirrored [] os es f there h b k = k
not_refused one files options mirrored (x ∷ xs) [] es f there h b k = b
not_refused one files options mirrored (x ∷ xs) (o ∷ os) es f there h b k = not_refused_source one files options mirrored 0 x.source o h.0 f there h.3 b k

same_source : IsDetermined → (files : Option FileList) (options : Options) (s : ItemSource) (f g : FeedFault) → IsSome files →
    OfDay s (λ d. DayGives files options d (Err f)) → OfDay s (λ d. DayGives files options d (Err g)) → f ≡ g
same_source one files options (source.Late path) f g there h k = absurd h
same_source one files options (source.Day d) f g there h k = same_fault f g (Err f) (Err g) refl refl (one (feed_of files d.dir) d.day options (Err f) (Err g) (h there) (k there))

same_first : IsDetermined → (files : Option FileList) (options : Options) (plan : List ItemData) (f g : FeedFault) → IsSome files → FirstGives files options plan (Err f) → FirstGives files options plan (Err g) → f ≡ g
same_first one files options [] f g there h k = absurd h
same_first one files options (x ∷ xs) f g there h k = same_source one files options x.source f g there h k

pub told_fault : IsDetermined → (files : Option FileList) (options : Options) (plan : List ItemData) (script : List LaneData) (before now : ℕ) (result : Result ServedData ServeFault)
    → IfOk result (IsServed files options plan script) → IfErr result (IsServeFault files options plan before now)
    → IsSome files → now ≡ before → (f : FeedFault) → FirstGives files options plan (Err f) → TellsFault f result
told_fault one files options plan script before now (Ok s) ok err there stands f k = not_refused one files options (needs_mirrors script) plan s.outcomes ok.editions f there ok.outcomes ok.first k
told_fault one files options plan script before now (Err (fault.Feed g)) ok err there stands f k = same_first one files options plan g f there err.0 k
told_fault one files options plan script before now (Err fault.ReadFault) ok err there stands f k = absurd (omega (arith, err, stands))
told_fault one files options plan script before now (Err fault.Memory) ok err there stands f k = tt
