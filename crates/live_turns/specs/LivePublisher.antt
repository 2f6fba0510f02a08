-- The publisher of a process that lives, item by item.
use Rattle.std.specs.Prelude.{◌≡◌, ◌⊎◌, ℕ, ◌+◌, List, [], ◌∷◌, ◌++◌, drop, length, Bool, Option, Some, option_to_list}
use Rattle.tb_io.specs.Causes.{Rose}
use Rattle.tb_io.specs.Files.{FileList}
use Rattle.footpaths.specs.declared.paths.Options.{Options}
use Rattle.edition_store.specs.Editions.{EditionData}
use Rattle.history.specs.Lists.{StartsWith}
use Rattle.live_turns.specs.declared.live.news.Became.{Became}
use Rattle.live_turns.specs.declared.live.news.Became.TheVariants as became
use Rattle.live_turns.specs.Live.{ArePublished, BeginsWithEdition, HasBecome, IsNewsOf}
use Rattle.live_turns.specs.LiveTexts.{NewsData}
use Rattle.edition_build.specs.Plans.{AreSoFar, ItemData, day_after}

-- these items were taken so far, the first of which was published, with this news and these
-- editions; the last day among them has this one
pub record HavePublished (files : Option FileList) (options : Options) (mirrored : Bool)
    (items : List ItemData) (news : List NewsData) (editions : List EditionData)
    (day : EditionData) : Type 0 where
  pub outcomes : AreSoFar (IsNewsOf files options mirrored) items news editions day
  pub first : BeginsWithEdition news

-- What became of an item is so, where this is the edition of the last day and then that one; and a
-- read failed only where the folder's count rose, or stands at its last value; else it is the same.
abbrev pub IsNextItem : Option FileList → Options → Bool → ItemData → ℕ → ℕ →
    List EditionData → List EditionData → EditionData → EditionData → Became → Type 0
IsNextItem files options mirrored item before after es now day next b =
    (added : List EditionData) × (now ≡ es ++ added)
    × HasBecome files options mirrored (Some day) (length es) item b added
    × (day_after (Some day) item.source added ≡ Some next)
    × (b ≡ became.ReadFault → Rose before after)
    × ((b ≡ became.ReadFault) ⊎ (after ≡ before))

-- an item was taken, and news given of it
abbrev pub TakesItem : Option FileList → Options → Bool → ItemData → ℕ → ℕ →
    List EditionData → List EditionData → EditionData → EditionData → List NewsData →
    List NewsData → Type 0
TakesItem files options mirrored item before after es now day next told news =
    (b : Became) × IsNextItem files options mirrored item before after es now day next b
    × (news ≡ told ++ record { word = item.word; became = b } ∷ [])

-- the items that a publisher takes: those of the words, and those that were handed over behind the
-- first one, which is the first word's
abbrev pub items_taken : List ItemData → List ItemData → List ItemData
items_taken words handed = words ++ drop 1 handed

-- Where an item was not taken to its end: it added nothing, or its edition was published; and there
-- is no news of it, or there is.
abbrev pub StopsAt : Option FileList → Options → Bool → ItemData → List EditionData →
    List EditionData → EditionData → List NewsData → List NewsData → Type 0
StopsAt files options mirrored item es now day told news =
    ((now ≡ es) × (news ≡ told))
    ⊎ ((b : Became) × (added : List EditionData) × (now ≡ es ++ added)
    × HasBecome files options mirrored (Some day) (length es) item b added
    × ((news ≡ told) ⊎ (news ≡ told ++ record { word = item.word; became = b } ∷ [])))

-- the editions are those of some first ones of these items, and these are first news of them
pub record ArePublishedSoFar (files : Option FileList) (options : Options) (mirrored : Bool)
    (all : List ItemData) (told : List NewsData) (editions : List EditionData) : Type 0 where
  pub items : List ItemData
  pub news : List NewsData
  pub first : StartsWith all items
  pub tells : StartsWith news told
  pub published : ArePublished files options mirrored items news editions
