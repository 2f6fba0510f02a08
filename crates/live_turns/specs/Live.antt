-- What a process that lives has published and written.
use Rattle.std.specs.Prelude.{◌≡◌, ◌⊎◌, ℕ, ◌+◌, List, [], ◌∷◌, ◌++◌, length, map, take, flat_map, Bool, Option, None, IfSome, Err, ⊤}
use Rattle.std.specs.Io.KnownBytes.{Appends, Consumes}
use Rattle.tb_io.specs.Causes.{Rose}
use Rattle.tb_io.specs.Files.{FileList}
use Rattle.footpaths.specs.declared.paths.Options.{Options}
use Rattle.edition_store.specs.Editions.{EditionData}
use Rattle.history.specs.Lists.{StartsWith}
use Rattle.live_turns.specs.Coming.{ended}
use Rattle.live_turns.specs.Runs.{TextRunsFrom}
use Rattle.text_lines.specs.LineWords.{line_words}
use Rattle.text_lines.specs.Lines.{lines_of}
use Rattle.live_turns.specs.declared.live.news.Became.{Became}
use Rattle.live_turns.specs.declared.live.news.Became.TheVariants as became
use Rattle.live_turns.specs.declared.live.lived.LiveFault.{LiveFault}
use Rattle.live_turns.specs.declared.live.lived.LiveFault.TheVariants as fault
use Rattle.live_turns.specs.declared.live.saying.LiveMode.{LiveMode}
use Rattle.live_turns.specs.LiveLines.{live_counts, live_gives}
use Rattle.live_turns.specs.LiveReplies.{LiveReplies}
use Rattle.live_turns.specs.LiveTexts.{NewsData, news_shown}
use Rattle.edition_build.specs.Plans.{AreTold, BeginsWithFirst, FirstGives, HasOutcome, IsPublished, ItemData}

-- What became of an item, where n editions were published before, and this is the edition of the
-- last day among them, and the editions that it added: its outcome; or it couldn't be read, or there
-- was no memory for it, and it added none.
abbrev pub HasBecome : Option FileList → Options → Bool → Option EditionData → ℕ → ItemData →
    Became → List EditionData → Type 0
HasBecome files options mirrored day n item (became.Outcome o) es =
    HasOutcome files options mirrored day n item o es
HasBecome files options mirrored day n item became.ReadFault es = es ≡ []
HasBecome files options mirrored day n item became.Memory es = es ≡ []

-- the news of an item: its word, and what became of it
abbrev pub IsNewsOf : Option FileList → Options → Bool → Option EditionData → ℕ → ItemData →
    NewsData → List EditionData → Type 0
IsNewsOf files options mirrored day n item x es =
    (x.word ≡ item.word) × HasBecome files options mirrored day n item x.became es

-- one piece of news for each item in order; the editions are those that the items added, in order
abbrev pub AreNews : Option FileList → Options → Bool → List ItemData → List NewsData →
    List EditionData → Type 0
AreNews files options mirrored items news es =
    AreTold (IsNewsOf files options mirrored) None 0 items news es

-- a day was published
abbrev pub HasAnEdition : Became → Type 0
HasAnEdition (became.Outcome o) = IsPublished o
HasAnEdition became.ReadFault = ⊥
HasAnEdition became.Memory = ⊥

-- the first item was published
abbrev pub BeginsWithEdition : List NewsData → Type 0
BeginsWithEdition [] = ⊥
BeginsWithEdition (x ∷ news) = HasAnEdition x.became

-- the news of the first item, which was published
pub record IsFirstNews (words : List ItemData) (news : NewsData) : Type 0 where
  pub word : map (λ (w : ItemData). w.word) (take 1 words) ≡ news.word ∷ []
  pub edition : HasAnEdition news.became

-- the news of the first item were written, and then some bytes
pub record HasToldFirst (json : Bool) (words : List ItemData) (before now : Option (List ℕ))
    : Type 0 where
  pub news : NewsData
  pub first : IsFirstNews words news
  pub behind : List ℕ
  pub written : Appends before now (news_shown json news ++ behind)

-- these items were taken, the first of which was published, with this news and these editions
pub record ArePublished (files : Option FileList) (options : Options) (mirrored : Bool)
    (items : List ItemData) (news : List NewsData) (editions : List EditionData) : Type 0 where
  pub outcomes : AreNews files options mirrored items news editions
  pub first : BeginsWithEdition news

-- The text has for each line in order, from number 1 on, its right reply by an edition of the list;
-- the editions never go back; and these news are told in between and in the end, in order, behind
-- those that were told before.
abbrev pub IsTextOf : LiveMode → List EditionData → List NewsData → List (List ℕ) → List ℕ →
    List NewsData → Type 0
IsTextOf mode es told lines text news =
    TextRunsFrom (LiveReplies mode) (live_counts mode) (news_shown mode.json) es 1 1 told lines text
    news

-- a read failed only where the folder's count rose, or stands at its last value
abbrev pub UnreadRose : ℕ → ℕ → List NewsData → Type 0
UnreadRose start end [] = ⊤
UnreadRose start end (x ∷ news) =
    (x.became ≡ became.ReadFault → Rose start end) × UnreadRose start end news

-- an item could not be read
abbrev pub HasUnread : List NewsData → Type 0
HasUnread [] = ⊥
HasUnread (x ∷ news) = (x.became ≡ became.ReadFault) ⊎ HasUnread news

-- a read failed only where the folder's count rose, or stands at its last value; and that count is
-- another one only where a read failed
abbrev pub ReadFaultsRose : ℕ → ℕ → List NewsData → Type 0
ReadFaultsRose start end news = UnreadRose start end news × ((end ≡ start) ⊎ HasUnread news)

-- The items of the words, then those that lines name, were taken in order, and the text for all
-- lines of the source was written, over the editions of the lawful ones, with all news but those
-- that were told before. The folder's count of faults went from start to end.
pub record HasLived (files : Option FileList) (options : Options) (mode : LiveMode)
    (words : List ItemData) (told : List NewsData) (start end : ℕ)
    (left before now : Option (List ℕ)) : Type 0 where
  pub lines : List (List ℕ)
  pub news : List NewsData
  pub editions : List EditionData
  pub text : List ℕ
  pub all : IfSome left (λ bytes. lines ≡ lines_of bytes)
  pub published : ArePublished files options mode.mirrored
      (words ++ flat_map (live_gives mode) lines) news editions
  pub rose : ReadFaultsRose start end news
  pub right : IsTextOf mode editions told lines text news
  pub written : Appends before now text

-- The text for some first lines of the source was written, with some news, or a first part of it,
-- where the sink failed; with a fault of the source these are the lines that ended before, by their
-- words. The editions are those of the lawful ones among some first items, of which news are told:
-- those of the words, then those that these lines name; for want of memory also lines behind them.
pub record HasLivedUntil (cause : LiveFault) (files : Option FileList) (options : Options)
    (mode : LiveMode) (words : List ItemData) (told : List NewsData)
    (left rest before now : Option (List ℕ)) : Type 0 where
  pub lines : List (List ℕ)
  pub news : List NewsData
  pub editions : List EditionData
  pub text : List ℕ
  pub count : ℕ
  pub heard : List (List ℕ)
  pub items : List ItemData
  pub became : List NewsData
  pub first : IfSome left (λ bytes. (more : List (List ℕ))
      × (lines_of bytes ≡ (lines ++ heard) ++ more))
  pub came : cause ≡ fault.ReadFault → (bytes : List ℕ) × Consumes left rest bytes
      × (map line_words lines ≡ map line_words (ended 1026 [] bytes))
  pub begins : BeginsWithFirst files options mode.mirrored words editions
  pub none : (cause ≡ fault.Memory) ⊎ (heard ≡ [])
  pub taken : StartsWith (words ++ flat_map (live_gives mode) (lines ++ heard)) items
  pub published : ArePublished files options mode.mirrored items became editions
  pub tells : StartsWith became news
  pub right : IsTextOf mode editions told lines text news
  pub whole : (cause ≡ fault.WriteFault) ⊎ (count ≡ length text)
  pub written : Appends before now (take count text)

-- Why a run ended early, and what was written then: the first item's first fault; or the folder or
-- memory failed before the first item's news were told: then nothing was written, and nothing read
-- of the source; or what was written before a fault.
abbrev pub HasFailed : Option FileList → Options → LiveMode → List ItemData →
    Option (List ℕ) → Option (List ℕ) → Option (List ℕ) → Option (List ℕ) → LiveFault → Type 0
HasFailed files options mode words left rest before now (fault.Feed f) =
    FirstGives files options words (Err f) × (now ≡ before) × (rest ≡ left)
HasFailed files options mode words left rest before now fault.ReadFault =
    ((now ≡ before) × (rest ≡ left))
    ⊎ HasLivedUntil fault.ReadFault files options mode words [] left rest before now
HasFailed files options mode words left rest before now fault.WriteFault =
    HasLivedUntil fault.WriteFault files options mode words [] left rest before now
HasFailed files options mode words left rest before now fault.Memory =
    ((now ≡ before) × (rest ≡ left))
    ⊎ HasLivedUntil fault.Memory files options mode words [] left rest before now

-- Why a run ends early behind its first edition, and what was written behind the first news.
abbrev pub HasFailedBehind : Option FileList → Options → LiveMode → List ItemData →
    List NewsData → Option (List ℕ) → Option (List ℕ) → Option (List ℕ) → Option (List ℕ) →
    LiveFault → Type 0
HasFailedBehind files options mode words told left rest before now (fault.Feed f) = ⊥
HasFailedBehind files options mode words told left rest before now fault.ReadFault =
    HasLivedUntil fault.ReadFault files options mode words told left rest before now
HasFailedBehind files options mode words told left rest before now fault.WriteFault =
    HasLivedUntil fault.WriteFault files options mode words told left rest before now
HasFailedBehind files options mode words told left rest before now fault.Memory =
    HasLivedUntil fault.Memory files options mode words told left rest before now
