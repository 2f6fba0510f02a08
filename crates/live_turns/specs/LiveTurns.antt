-- The turns of a process that lives.
use Rattle.std.specs.Prelude.{◌≡◌, ◌⊎◌, ℕ, List, [], ◌++◌, Bool, Option, IfSome, length, map, take, flat_map}
use Rattle.std.specs.Io.KnownBytes.{Appends, Consumes}
use Rattle.edition_store.specs.Editions.{EditionData}
use Rattle.history.specs.Lists.{Extends, Shown, StartsWith}
use Rattle.live_turns.specs.Runs.{Gives, IsTurn, LiveData, TextRunsFrom}
use Rattle.live_turns.specs.Intakes.{ComeNext, IntakeData}
use Rattle.live_turns.specs.Coming.{ended, kept_lines}
use Rattle.live_turns.specs.Turns.{Fails, IsCutRun, IsWholeRun, lines_in}
use Rattle.text_lines.specs.LineWords.{line_words}
use Rattle.text_lines.specs.Lines.{lines_of}
use Rattle.live_turns.specs.declared.live.saying.LiveMode.{LiveMode}
use Rattle.live_turns.specs.declared.live.running.LinesFault.{LinesFault}
use Rattle.live_turns.specs.declared.live.running.LinesFault.TheVariants as fault
use Rattle.live_turns.specs.LiveLines.{live_counts, live_gives}
use Rattle.live_turns.specs.LiveReplies.{LiveReplies}
use Rattle.live_turns.specs.LiveTexts.{NewsData, news_shown}
use Rattle.edition_build.specs.Plans.{ItemData}

-- how lines are read and replies shown; how many lanes there are; which editions are known, the
-- number of the next line, and the news that were told; and which items were given to the publisher
pub record LineSideData : Type 0 where
  pub mode : LiveMode
  pub lanes : ℕ
  pub live : LiveData EditionData NewsData
  pub given : List ItemData

-- a side before its first line
abbrev pub before_lines : LiveMode → ℕ → Shown EditionData → List ItemData → List NewsData →
    LineSideData
before_lines mode lanes kept given told = record {
  mode = mode;
  lanes = lanes;
  live = record { kept = kept; next = 1; told = told };
  given = given;
}

-- the side that these parts make: the number of the next line stands behind that of the lanes
abbrev pub side_of : LiveMode → ℕ → ℕ → Shown EditionData → List ItemData → List NewsData →
    LineSideData
side_of mode lanes next kept given told = record {
  mode = mode;
  lanes = lanes;
  live = record { kept = kept; next = next; told = told };
  given = given;
}

-- One turn: news are told; then each line has its right reply by the last edition that is known
-- then, the same for all; and the items that lines name are given to the publisher.
pub record IsLiveTurn (mode : LiveMode) (a : LineSideData) (lines : List (List ℕ))
    (text : List ℕ) (b : LineSideData) : Type 0 where
  pub turn :
      IsTurn (LiveReplies mode) (live_counts mode) (news_shown mode.json) a.live lines text b.live
  pub gives : Gives LineSideData.given (live_gives mode) a lines text b

-- a turn of these lines, whose text was written
pub record IsToldTurn (mode : LiveMode) (before now : Option (List ℕ)) (a b : LineSideData)
    (lines : List (List ℕ)) : Type 0 where
  pub text : List ℕ
  pub turn : IsLiveTurn mode a lines text b
  pub written : Appends before now text

-- a turn of these lines, of whose text a first part was written
pub record IsPartlyTold (mode : LiveMode) (before now : Option (List ℕ)) (a b : LineSideData)
    (lines : List (List ℕ)) : Type 0 where
  pub text : List ℕ
  pub count : ℕ
  pub turn : IsLiveTurn mode a lines text b
  pub written : Appends before now (take count text)

-- some first ones of these lines were heard: the items that they name were given; and no news that
-- were told are lost
pub record HearsSome (mode : LiveMode) (a b : LineSideData) (lines : List (List ℕ)) : Type 0 where
  pub count : ℕ
  pub given : b.given ≡ a.given ++ flat_map (live_gives mode) (take count lines)
  pub told : StartsWith b.live.told a.live.told

-- How a turn of these lines fails: with a fault of the sink a first part of its text was written;
-- with want of memory nothing, the editions that are known only grew, and some lines were heard. No
-- source is read.
abbrev pub FailsToTell : LinesFault → LiveMode → Option (List ℕ) → Option (List ℕ) →
    LineSideData → LineSideData → List (List ℕ) → Type 0
FailsToTell fault.WriteFault mode before now a b lines = IsPartlyTold mode before now a b lines
FailsToTell fault.ReadFault mode before now a b lines = ⊥
FailsToTell fault.Memory mode before now a b lines =
    (now ≡ before) × Extends b.live.kept a.live.kept × HearsSome mode a b lines

-- some first ones of the lines that come next were heard, or there are none
pub record HearsNext (mode : LiveMode) (left rest : Option (List ℕ)) (old new : IntakeData)
    (a b : LineSideData) : Type 0 where
  pub lines : List (List ℕ)
  pub more : Bool
  pub come : (lines ≡ []) ⊎ ComeNext left rest old new lines more
  pub hears : HearsSome mode a b lines

-- how the next turn fails: with a fault of the source nothing was taken of it, and nothing is done
abbrev pub FailsToGoOn : LinesFault → LiveMode → Option (List ℕ) → Option (List ℕ) →
    IntakeData → IntakeData → Option (List ℕ) → Option (List ℕ) → LineSideData →
    LineSideData → Type 0
FailsToGoOn fault.WriteFault mode left rest old new before now a b =
    (f : Fails (IsLiveTurn mode) left rest old new before now a) × (f.by ≡ b)
FailsToGoOn fault.ReadFault mode left rest old new before now a b =
    (now ≡ before) × (b ≡ a) × Consumes left rest []
FailsToGoOn fault.Memory mode left rest old new before now a b =
    (now ≡ before) × Extends b.live.kept a.live.kept × HearsNext mode left rest old new a b

-- What was written before a fault: with one of the sink a first part of the text of some turns, else
-- all of it; with one of the source these are all turns whose lines ended before. No edition of them
-- is later than those that are known; but for want of memory nothing was done behind them, else some
-- lines were heard.
pub record IsCutBy (cause : LinesFault) (mode : LiveMode) (most : ℕ)
    (left rest before now : Option (List ℕ)) (a b : LineSideData) : Type 0 where
  pub cut : IsCutRun (IsLiveTurn mode) most left before now a
  pub whole : (cause ≡ fault.WriteFault) ⊎ (cut.count ≡ length cut.text)
  pub came : cause ≡ fault.ReadFault → (bytes : List ℕ) × Consumes left rest bytes
      × (lines_in cut.turns ≡ ended most [] bytes)
  pub later : Extends b.live.kept cut.by.live.kept
  pub same : (cause ≡ fault.Memory) ⊎ (cut.by ≡ b)
  pub heard : List (List ℕ)
  pub lines : IfSome left (λ bytes. (more : List (List ℕ))
      × (kept_lines most bytes ≡ (lines_in cut.turns ++ heard) ++ more))
  pub given : b.given ≡ cut.by.given ++ flat_map (live_gives mode) heard
  pub told : StartsWith b.live.told cut.by.live.told
  pub none : (cause ≡ fault.Memory) ⊎ (heard ≡ [])

-- The text has for each line in order its right reply by an edition of the list, and the editions
-- never go back; news are told in between, and in the end.
abbrev pub IsLiveText : LiveMode → List EditionData → LineSideData → List (List ℕ) → List ℕ →
    List NewsData → Type 0
IsLiveText mode es a lines text told =
    TextRunsFrom (LiveReplies mode) (live_counts mode) (news_shown mode.json) es a.live.next
    (length a.live.kept.list) a.live.told lines text told

-- the text for all lines of a source was written, and the items that they name were given
pub record IsLiveRun (mode : LiveMode) (es : List EditionData)
    (left before now : Option (List ℕ)) (a b : LineSideData) : Type 0 where
  pub lines : List (List ℕ)
  pub text : List ℕ
  pub all : IfSome left (λ bytes. lines ≡ lines_of bytes)
  pub right : IsLiveText mode es a lines text b.live.told
  pub given : b.given ≡ a.given ++ flat_map (live_gives mode) lines
  pub written : Appends before now text

-- The text for some first lines of a source was written, or with a fault of the sink a first part
-- of it; with a fault of the source these are the lines that ended before, by their words. The items
-- that they name were given; for want of memory also those of some lines behind them.
pub record IsCutLiveRun (cause : LinesFault) (mode : LiveMode) (es : List EditionData)
    (left rest before now : Option (List ℕ)) (a b : LineSideData) : Type 0 where
  pub lines : List (List ℕ)
  pub text : List ℕ
  pub told : List NewsData
  pub count : ℕ
  pub heard : List (List ℕ)
  pub first : IfSome left (λ bytes. (more : List (List ℕ))
      × (lines_of bytes ≡ (lines ++ heard) ++ more))
  pub came : cause ≡ fault.ReadFault → (bytes : List ℕ) × Consumes left rest bytes
      × (map line_words lines ≡ map line_words (ended 1026 [] bytes))
  pub right : IsLiveText mode es a lines text told
  pub given : b.given ≡ a.given ++ flat_map (live_gives mode) (lines ++ heard)
  pub none : (cause ≡ fault.Memory) ⊎ (heard ≡ [])
  pub news : StartsWith b.live.told told
  pub whole : (cause ≡ fault.WriteFault) ⊎ (count ≡ length text)
  pub written : Appends before now (take count text)

-- over any list that begins with the editions that are known in the end, turns are one such run
abbrev pub TurnsAreOneRun : LiveMode → Type 0
TurnsAreOneRun mode = (es : List EditionData) (left before now : Option (List ℕ))
    (a b : LineSideData) → IsWholeRun (IsLiveTurn mode) 1026 left before now a b →
    StartsWith es b.live.kept.list → IsLiveRun mode es left before now a b

-- the same of turns that are cut off
abbrev pub CutTurnsAreOneRun : LiveMode → Type 0
CutTurnsAreOneRun mode = (cause : LinesFault) (es : List EditionData)
    (left rest before now : Option (List ℕ)) (a b : LineSideData) →
    IsCutBy cause mode 1026 left rest before now a b → StartsWith es b.live.kept.list →
    IsCutLiveRun cause mode es left rest before now a b
