-- A plan grows by one item.
use Rattle.std.proofs.Common.{◌≡◌, ◌⊎◌, inl, inr, ℕ, ◌+◌, ◌<◌, ◌≤◌, List, [], ◌∷◌, ◌++◌, take, length, get_or, sym, ap, subst, ◌∙◌, Bool, Option, Some, None, Result, Ok, Err, arith}
use Rattle.std.specs.Prelude.{IfOk, OnOk, option_to_list}
use Rattle.std.proofs.lemmas.List.{take_more, length-take}
use Rattle.tb_io.specs.Files.{FileList}
use Rattle.footpaths.specs.declared.paths.Options.{Options}
use Rattle.edition_store.specs.Editions.{EditionData, IsEdition}
use Rattle.edition_build.specs.declared.finding.Building.{Building}
use Rattle.edition_build.specs.declared.finding.PlanEnd.{PlanEnd}
use Rattle.edition_build.specs.declared.plan.ItemSource.{ItemSource}
use Rattle.edition_build.specs.declared.plan.ItemSource.TheVariants as source
use Rattle.edition_build.specs.declared.plan.Outcome.{Outcome}
use Rattle.edition_build.specs.declared.plan.Outcome.TheVariants.{Published}
use Rattle.edition_build.specs.FeedDays.{FeedDayData}
use Rattle.edition_build.specs.Plans.{AreOutcomes, AreSoFar, BeginsPublished, BeginsWithFeed, HasOutcome, HasSourceOutcome, IsEditionOfDay, ItemData, Takes, day_after, outcome_of}
use Rattle.lane_serve.specs.Sides.{HasTakenSoFar}
use Rattle.edition_build.proofs.FirstDay.{of_day, source_first}
use Rattle.edition_build.proofs.Told.{so_far_all, so_far_first, so_far_more, told_count, told_few}

-- an item adds one edition at most
source_few : (files : Option FileList) (options : Options) (mirrored : Bool) (day : Option EditionData) (n : ℕ) (s : ItemSource) (o : Outcome) (es : List EditionData) →
    HasSourceOutcome files options mirrored day n s o es → length es ≤ 1
source_few files options mirrored day n (source.Day d) o es (inl h) = omega (arith, ap (λ (l : List EditionData). length l) h.1)
source_few files options mirrored day n (source.Day d) o es (inr h) = omega (arith, ap (λ (l : List EditionData). length l) h.1)
source_few files options mirrored (Some day) n (source.Late path) o es (inl h) = omega (arith, ap (λ (l : List EditionData). length l) h.1)
source_few files options mirrored (Some day) n (source.Late path) o es (inr h) = omega (arith, ap (λ (l : List EditionData). length l) h.1)
source_few files options mirrored None n (source.Late path) o es h = absurd h

-- the first day is published
pub first_taken : (files : Option FileList) (building : Building) (plan : List ItemData) (d : FeedDayData) (e : EditionData) → BeginsWithFeed plan d →
    IsEditionOfDay files building.options building.mirrored d e → HasTakenSoFar files building (take 1 plan) (outcome_of 1 e ∷ []) (e ∷ []) e
first_taken files building [] d e is h = absurd is
first_taken files building (item ∷ items) d e is h =
    let first = source_first files building.options building.mirrored item.source e (of_day item.source d (λ f. IsEditionOfDay files building.options building.mirrored f e) is h) in
    record { outcomes_are = so_far_first (HasOutcome files building.options building.mirrored) item (outcome_of 1 e) e first.0 first.1; first = tt }

-- there is one outcome for each item
pub outcome_count : (files : Option FileList) (options : Options) (mirrored : Bool) (xs : List ItemData) (os : List Outcome) (es : List EditionData) →
    AreOutcomes files options mirrored xs os es → length os ≡ length xs
outcome_count files options mirrored xs os es h = told_count (HasOutcome files options mirrored) None 0 xs os es h

-- there is room for one more edition
pub has_room : (files : Option FileList) (building : Building) (plan : List ItemData) (i : ℕ) (os : List Outcome) (es : List EditionData) (day : EditionData) →
    HasTakenSoFar files building (take i plan) os es day → i < length plan → length plan ≤ 100 → length es < 100
has_room files building plan i os es day h lt le =
    let all = so_far_all (HasOutcome files building.options building.mirrored) (take i plan) os es day h.outcomes_are in
    let few = told_few (HasOutcome files building.options building.mirrored) (λ d n item o gs t. source_few files building.options building.mirrored d n item.source o gs t) None 0 (take i plan) os es all in
    omega (arith, few, length-take i plan)

still_published : (os ps : List Outcome) → BeginsPublished os → BeginsPublished (os ++ ps)
still_published [] ps h = absurd h
still_published (o ∷ os) ps h = h

-- the outcomes with those of the next item
pub taken_more : (files now : Option FileList) (building : Building) (plan : List ItemData) (i : ℕ) (d : ItemData) (os told : List Outcome) (es gone : List EditionData) (day next : EditionData) →
    now ≡ files → HasTakenSoFar files building (take i plan) os es day → i < length plan → Takes now building.options building.mirrored (get_or plan i d) es gone os told day next →
    HasTakenSoFar files building (take (i + 1) plan) told gone next
taken_more files now building plan i d os told es gone day next same h lt t =
    let item = get_or plan i d in
    let Tells = HasOutcome files building.options building.mirrored in
    let one = subst (λ f. HasOutcome f building.options building.mirrored (Some day) (length es) item t.1 t.0) same t.4 in
    let grown = so_far_more Tells (take i plan) os es day item t.1 t.0 next h.outcomes_are one t.5 in
    record {
      outcomes_are = subst (λ xs. AreSoFar Tells xs told gone next) (sym (take_more plan i d lt))
          (subst (λ l. AreSoFar Tells (take i plan ++ item ∷ []) l gone next) (sym t.3)
          (subst (λ l. AreSoFar Tells (take i plan ++ item ∷ []) (os ++ t.1 ∷ []) l next) (sym t.2) grown));
      first = subst (λ l. BeginsPublished l) (sym t.3) (still_published os (t.1 ∷ []) h.first);
    }

-- all items were taken
pub taken_all : (files : Option FileList) (building : Building) (items plan : List ItemData) (os : List Outcome) (es : List EditionData) (day : EditionData) → items ≡ plan →
    HasTakenSoFar files building items os es day → AreOutcomes files building.options building.mirrored plan os es
taken_all files building items plan os es day is h =
    subst (λ l. AreOutcomes files building.options building.mirrored l os es) is (so_far_all (HasOutcome files building.options building.mirrored) items os es day h.outcomes_are)

pub begins_taken : (files : Option FileList) (building : Building) (items : List ItemData) (os : List Outcome) (es : List EditionData) (day : EditionData) →
    HasTakenSoFar files building items os es day → BeginsPublished os
begins_taken files building items os es day h = h.first

-- an item is taken
pub takes_found : {P : Type 0} (list : P → List EditionData) (files : Option FileList) (options : Options) (mirrored : Bool) (item : ItemData) (n : ℕ) (es : List EditionData) (os told : List Outcome)
    (o : Outcome) (edition : Option EditionData) (day next : EditionData) (result : Result P PlanEnd) → n ≡ length es →
    HasOutcome files options mirrored (Some day) n item o (option_to_list edition) → IfOk result (λ p. list p ≡ es ++ option_to_list edition) → OnOk result (told ≡ os ++ o ∷ []) →
    OnOk result (day_after (Some day) item.source (option_to_list edition) ≡ Some next) → IfOk result (λ p. Takes files options mirrored item es (list p) os told day next)
takes_found list files options mirrored item n es os told o edition day next (Ok p) count h more is then =
    (option_to_list edition, o, more, is, subst (λ m. HasOutcome files options mirrored (Some day) m item o (option_to_list edition)) count h, then)
takes_found list files options mirrored item n es os told o edition day next (Err e) count h more is then = tt
