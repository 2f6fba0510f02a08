-- What a line of a process that lives says.
use Rattle.std.specs.Prelude.{ℕ, ◌+◌, ◌==◌, ◌||◌, not, List, [], ◌∷◌, ◌++◌, length, codes, bytes_eq, Option, Some, None, ⊤, if◌then◌else◌}
use Rattle.std.specs.Option.{option_and_then, option_map}
use Rattle.std.specs.Path.{rsplit_once}
use Rattle.std.specs.Str.{is_utf8}
use Rattle.answer_text.specs.Questions.{needs_mirror}
use Rattle.gtfs_rows.specs.Dates.{date_of}
use Rattle.text_lines.specs.LineWords.{line_words}
use Rattle.live_turns.specs.declared.live.saying.Asked.{Asked}
use Rattle.live_turns.specs.declared.live.saying.LiveMode.{LiveMode}
use Rattle.live_turns.specs.declared.live.saying.Saying.{Saying}
use Rattle.live_turns.specs.declared.live.saying.Saying.TheVariants as say
use Rattle.live_turns.specs.declared.live.saying.Wanted.{Wanted}
use Rattle.live_turns.specs.declared.live.saying.Wanted.TheVariants as want
use Rattle.edition_build.specs.declared.plan.ItemSource.TheVariants as source
use Rattle.query_gate.specs.declared.said.Said.{Said}
use Rattle.query_gate.specs.declared.said.Said.TheVariants as said
use Rattle.query_gate.specs.declared.said.Line.{Line}
use Rattle.edition_build.specs.Plans.{ItemData}
use Rattle.query_gate.specs.Said.{IsAskable, said_of}

-- a request; where editions have no mirrors, one that is answered by a mirror is a bad line
abbrev pub requested_live : LiveMode → Line → Saying
requested_live mode request =
    if mode.mirrored || not (needs_mirror request.question) then say.Request request
    else say.BadLine

-- what a line of a script says here, where no line begins a lane
abbrev pub as_in_script : LiveMode → Option Said → Saying
as_in_script mode None = say.BadLine
as_in_script mode (Some said.Nothing) = say.Nothing
as_in_script mode (Some (said.Lane name)) = say.BadLine
as_in_script mode (Some (said.Request None)) = say.BadTime
as_in_script mode (Some (said.Request (Some request))) = requested_live mode request

-- the item of the word whose parts are DIR and DATE, where DIR isn't empty
abbrev pub item_between : List ℕ → List ℕ → List ℕ → Option ItemData
item_between word dir date =
    if length dir == 0 then None
    else option_map (λ day. record {
      word = word;
      source = source.Day (record { dir = dir; day = day });
    }) (date_of date)

-- the item that `DIR@DATE` names; the last `@`, which is the code 64, divides
abbrev pub item_of_word : List ℕ → Option ItemData
item_of_word word =
    if is_utf8 word
    then option_and_then (λ parts. item_between word parts.0 parts.1) (rsplit_once 64 word)
    else None

-- an item that is to be published, where the word names one
abbrev pub publishing : Option ItemData → Saying
publishing None = say.BadLine
publishing (Some item) = say.Publish item

-- DIR@DATE
abbrev pub publish_of : List (List ℕ) → Saying
publish_of (word ∷ []) = publishing (item_of_word word)
publish_of words = say.BadLine

-- the item of a file that amends the last day, where its path isn't empty
abbrev pub late_item_of_text : List ℕ → Option ItemData
late_item_of_text path =
    if length path == 0 then None
    else Some (record { word = codes "late:" ++ path; source = source.Late path })

-- the same of a path that is text
abbrev pub late_item : List ℕ → Option ItemData
late_item path = if is_utf8 path then late_item_of_text path else None

-- FILE
abbrev pub late_of : List (List ℕ) → Saying
late_of (path ∷ []) = publishing (late_item path)
late_of words = say.BadLine

-- what words say: `publish DIR@DATE`, `late FILE`, or a line of a script
abbrev pub words_say : LiveMode → List (List ℕ) → Saying
words_say mode [] = say.Nothing
words_say mode (word ∷ words) =
    if bytes_eq word (codes "publish") then publish_of words
    else if bytes_eq word (codes "late") then late_of words
    else as_in_script mode (said_of mode.json (word ∷ words))

-- what the words of a line say, where it has words
abbrev pub line_says : LiveMode → Option (List (List ℕ)) → Saying
line_says mode None = say.BadLine
line_says mode (Some words) = words_say mode words

-- What a line says: nothing, a request, an item that is to be published, or that it is bad, or that
-- a time of it is.
abbrev pub live_said : LiveMode → List ℕ → Saying
live_said mode line = line_says mode (line_words line)

-- a line counts, unless it says nothing
abbrev pub counted : Saying → ℕ
counted say.Nothing = 0
counted (say.Request request) = 1
counted (say.Publish item) = 1
counted say.BadLine = 1
counted say.BadTime = 1

-- by how much a line moves the number of the next one on
abbrev pub live_counts : LiveMode → List ℕ → ℕ
live_counts mode line = counted (live_said mode line)

-- the item that is to be published
abbrev pub item_said : Saying → List ItemData
item_said say.Nothing = []
item_said (say.Request request) = []
item_said (say.Publish item) = item ∷ []
item_said say.BadLine = []
item_said say.BadTime = []

-- the item that a line gives to the publisher
abbrev pub live_gives : LiveMode → List ℕ → List ItemData
live_gives mode line = item_said (live_said mode line)

-- what is wanted by a line, once its item was given away
abbrev pub wanted : Saying → Wanted
wanted say.Nothing = want.Nothing
wanted (say.Request request) = want.Reply request
wanted (say.Publish item) = want.Queued item.word
wanted say.BadLine = want.BadLine
wanted say.BadTime = want.BadTime

-- what is wanted by each line in order, numbered from k on
abbrev pub asked_from : LiveMode → ℕ → List (List ℕ) → List Asked
asked_from mode k [] = []
asked_from mode k (line ∷ lines) =
    record { number = k; wanted = wanted (live_said mode line) }
    ∷ asked_from mode (k + live_counts mode line) lines

-- the times of a request that a line says are those that can be asked for
abbrev pub HasSaidTimes : Saying → Type 0
HasSaidTimes say.Nothing = ⊤
HasSaidTimes (say.Request request) = IsAskable request
HasSaidTimes (say.Publish item) = ⊤
HasSaidTimes say.BadLine = ⊤
HasSaidTimes say.BadTime = ⊤

-- the same of a request that is wanted
abbrev pub HasWantedTimes : Wanted → Type 0
HasWantedTimes want.Nothing = ⊤
HasWantedTimes (want.Reply request) = IsAskable request
HasWantedTimes (want.Queued word) = ⊤
HasWantedTimes want.BadLine = ⊤
HasWantedTimes want.BadTime = ⊤
