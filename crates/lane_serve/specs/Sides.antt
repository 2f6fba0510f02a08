-- The publisher's side of a run.
use Rattle.std.specs.Prelude.{List, Option}
use Rattle.tb_io.specs.Files.{FileList}
use Rattle.edition_store.specs.Editions.{EditionData}
use Rattle.edition_build.specs.declared.finding.Building.{Building}
use Rattle.edition_build.specs.declared.plan.Outcome.{Outcome}
use Rattle.edition_build.specs.Plans.{AreOutcomes, AreSoFar, BeginsPublished, HasOutcome, ItemData}

-- a plan, how its items are read and built, what became of them so far, and the edition of the last
-- day among these
pub record PublisherSideData : Type 0 where
  pub building : Building
  pub plan : List ItemData
  pub outcomes : List Outcome
  pub day : EditionData

-- these items were taken, the first of which was published, and what became of each is told; this
-- is the edition of the last day among them
pub record HasTakenSoFar (files : Option FileList) (building : Building) (items : List ItemData)
    (outcomes : List Outcome) (es : List EditionData) (day : EditionData) : Type 0 where
  pub outcomes_are :
      AreSoFar (HasOutcome files building.options building.mirrored) items outcomes es day
  pub first : BeginsPublished outcomes

-- these items were taken, and what became of each is told: the list has the editions of the lawful
-- ones, of which the first item is one
abbrev pub HasTaken :
    Option FileList → Building → List ItemData → List Outcome → List EditionData → Type 0
HasTaken files building items outcomes es =
    AreOutcomes files building.options building.mirrored items outcomes es
    × BeginsPublished outcomes
