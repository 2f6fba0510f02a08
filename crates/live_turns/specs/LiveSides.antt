-- The two sides of a process that lives, and how they end.
use Rattle.std.specs.Prelude.{◌≡◌, ◌<◌, ℕ, List, length, take, Bool, Option, IfSome}
use Rattle.std.specs.Io.KnownBytes.{Appends}
use Rattle.tb_io.specs.Files.{FileList}
use Rattle.footpaths.specs.declared.paths.Options.{Options}
use Rattle.edition_store.specs.Editions.{EditionData}
use Rattle.history.specs.Lists.{Extends, Shown, StartsWith}
use Rattle.live_turns.specs.Runs.{Tells}
use Rattle.live_turns.specs.Turns.{IsWholeRun}
use Rattle.live_turns.specs.declared.live.lived.LiveFault.{LiveFault}
use Rattle.live_turns.specs.declared.live.lived.LiveFault.TheVariants as fault
use Rattle.live_turns.specs.declared.live.running.LinesFault.{LinesFault}
use Rattle.live_turns.specs.declared.live.running.LinesFault.TheVariants as lines
use Rattle.live_turns.specs.declared.live.saying.LiveMode.{LiveMode}
use Rattle.edition_build.specs.Plans.{BeginsWithFirst}
use Rattle.live_turns.specs.LivePublisher.{HavePublished}
use Rattle.live_turns.specs.LiveTexts.{NewsData, news_shown}
use Rattle.live_turns.specs.LiveTurns.{IsCutBy, IsLiveTurn, LineSideData, side_of}
use Rattle.edition_build.specs.Plans.{ItemData}

-- the lines of a source are all answered, by a side that ends with these editions known, these
-- items given and these news told
pub record HasRunLines (mode : LiveMode) (left before now : Option (List ℕ)) (a : LineSideData)
    (kept : Shown EditionData) (given : List ItemData) (told : List NewsData) : Type 0 where
  pub end : LineSideData
  pub run : IsWholeRun (IsLiveTurn mode) 1026 left before now a end
  pub later : Extends kept a.live.kept
  pub kept_is : end.live.kept ≡ kept
  pub given_is : end.given ≡ given
  pub told_is : end.live.told ≡ told

-- the same up to a fault
pub record HasCutLines (cause : LinesFault) (mode : LiveMode)
    (left rest before now : Option (List ℕ)) (a : LineSideData) (kept : Shown EditionData)
    (given : List ItemData) (told : List NewsData) : Type 0 where
  pub end : LineSideData
  pub run : IsCutBy cause mode 1026 left rest before now a end
  pub later : Extends kept a.live.kept
  pub kept_is : end.live.kept ≡ kept
  pub given_is : end.given ≡ given
  pub told_is : end.live.told ≡ told

-- what holds of the side that parts make, and of what it ends with, where all these are there
abbrev pub OfParts : LiveMode → ℕ → ℕ → Option (Shown EditionData) → Option (List ItemData) →
    Option (List NewsData) → Option (Shown EditionData) → Option (List ItemData) →
    Option (List NewsData) →
    (LineSideData → Shown EditionData → List ItemData → List NewsData → Type 0) → Type 0
OfParts mode lanes next seat giver news seated given told P =
    IfSome seat (λ k. IfSome giver (λ g. IfSome news (λ t.
    IfSome seated (λ e. IfSome given (λ h. IfSome told (λ n.
    P (side_of mode lanes next k g t) e h n))))))

-- the fault that a cause is told as
abbrev pub told_as : LinesFault → LiveFault
told_as lines.ReadFault = fault.ReadFault
told_as lines.WriteFault = fault.WriteFault
told_as lines.Memory = fault.Memory

-- both sides are at their ends: the list of editions begins with what was known to the other side,
-- and what was taken is a first part of what was given
pub record HaveMet (es : List EditionData) (known : Shown EditionData)
    (taken given : List ItemData) (news told : List NewsData) : Type 0 where
  pub starts : StartsWith es known.list
  pub items : StartsWith given taken
  pub tells : StartsWith news told

-- what was given was taken, and the text tells the rest of the news
pub record HaveClosed (json : Bool) (taken given : List ItemData) (news told : List NewsData)
    (note : List ℕ) : Type 0 where
  pub items : taken ≡ given
  pub tells : Tells (news_shown json) told news note

-- Before the first line: the list has the first item's edition, which was published; the first item
-- was handed over, and the first news; and the last day's edition is that one.
pub record BeginsLive (files : Option FileList) (options : Options) (mode : LiveMode)
    (words : List ItemData) (es : List EditionData) (day : EditionData) (items : List ItemData)
    (news : List NewsData) (side : LineSideData) : Type 0 where
  pub one : length es ≡ 1
  pub good : BeginsWithFirst files options mode.mirrored words es
  pub published : HavePublished files options mode.mirrored (take 1 words) news es day
  pub items_are : items ≡ take 1 words
  pub some : 0 < side.lanes
  pub mode_is : side.mode ≡ mode
  pub kept_is : side.live.kept.list ≡ es
  pub next_is : side.live.next ≡ 1
  pub told_is : side.live.told ≡ news
  pub given_is : side.given ≡ items

-- how the first news fail to be told: the sink failed, or memory was wanting and nothing is written
abbrev pub FailsToTellFirst : List ℕ → Option (List ℕ) → Option (List ℕ) → LiveFault → Type 0
FailsToTellFirst line before now (fault.Feed f) = ⊥
FailsToTellFirst line before now fault.ReadFault = ⊥
FailsToTellFirst line before now fault.WriteFault = (n : ℕ) × Appends before now (take n line)
FailsToTellFirst line before now fault.Memory = now ≡ before

-- all was taken, and the rest of the news was written
abbrev pub TellsRest : Bool → List ItemData → List ItemData → List NewsData → List NewsData →
    Option (List ℕ) → Option (List ℕ) → Type 0
TellsRest json taken given news told before now =
    (note : List ℕ) × HaveClosed json taken given news told note × Appends before now note

-- how the rest of the news fails to be told: the sink failed, or memory was wanting and nothing is
-- written
abbrev pub FailsToTellRest : Bool → List ItemData → List ItemData → List NewsData →
    List NewsData → Option (List ℕ) → Option (List ℕ) → LiveFault → Type 0
FailsToTellRest json taken given news told before now (fault.Feed f) = ⊥
FailsToTellRest json taken given news told before now fault.ReadFault = ⊥
FailsToTellRest json taken given news told before now fault.WriteFault =
    (note : List ℕ) × (n : ℕ) × HaveClosed json taken given news told note
    × Appends before now (take n note)
FailsToTellRest json taken given news told before now fault.Memory = now ≡ before
