-- What a process that lives writes: replies, and news.
use Rattle.std.specs.Prelude.{ℕ, List, ◌++◌, codes, Bool, None, if◌then◌else◌}
use Rattle.std.specs.Fmt.{decimal}
use Rattle.answer_json.specs.Faults.{line_fault_json}
use Rattle.answer_json.specs.Frames.{count_json, member_json, string_json}
use Rattle.live_turns.specs.declared.live.news.Became.{Became}
use Rattle.live_turns.specs.declared.live.news.Became.TheVariants as became
use Rattle.edition_build.specs.OutcomeJson.{outcome_json}
use Rattle.edition_build.specs.OutcomeTexts.{outcome_text}

-- `K edition N`, the lines of the reply, and an empty line
abbrev pub answered_lines : ℕ → ℕ → List ℕ → List ℕ
answered_lines k n body =
    decimal k ++ codes " edition " ++ decimal n ++ codes "\n" ++ body ++ codes "\n"

-- `{"request":K`
abbrev pub request_json : ℕ → List ℕ
request_json k = codes "{\"request\":" ++ decimal k

-- `{"request":K,"edition":N,MEMBER}`
unfoldable pub answered_member : ℕ → ℕ → List ℕ → List ℕ
answered_member k n member =
    request_json k ++ count_json (codes "edition") n ++ codes "," ++ member ++ codes "}\n"

-- the reply to line k, by edition n
abbrev pub answered_live : Bool → ℕ → ℕ → List ℕ → List ℕ
answered_live json k n body = if json then answered_member k n body else answered_lines k n body

-- `{"request":K,"queued":WORD}`
unfoldable pub queued_json : ℕ → List ℕ → List ℕ
queued_json k word = request_json k ++ member_json (codes "queued") word ++ codes "}\n"

-- `K queued`, and an empty line
abbrev pub queued_live : Bool → ℕ → List ℕ → List ℕ
queued_live json k word =
    if json then queued_json k word else decimal k ++ codes " queued\n\n"

-- `{"request":K,"fault":{"number":N,"name":NAME}}`
unfoldable pub bad_json : ℕ → ℕ → List ℕ → List ℕ
bad_json k number name =
    request_json k ++ codes ",\"fault\":" ++ line_fault_json number name None ++ codes "}\n"

-- `K bad line`, and an empty line
abbrev pub bad_line_live : Bool → ℕ → List ℕ
bad_line_live json k =
    if json then bad_json k 1 (codes "BadLine") else decimal k ++ codes " bad line\n\n"

-- `K bad time`, and an empty line
abbrev pub bad_time_live : Bool → ℕ → List ℕ
bad_time_live json k =
    if json then bad_json k 4 (codes "BadTime") else decimal k ++ codes " bad time\n\n"

-- the word of an item, and what became of it
pub record NewsData : Type 0 where
  pub word : List ℕ
  pub became : Became

-- `refused WORD REASON`
abbrev pub failed_text : List ℕ → List ℕ → List ℕ
failed_text word reason =
    codes "refused " ++ word ++ codes " " ++ reason ++ codes "\n"

abbrev pub became_text : List ℕ → Became → List ℕ
became_text word (became.Outcome o) = outcome_text word o
became_text word became.ReadFault = failed_text word (codes "read fault")
became_text word became.Memory = failed_text word (codes "out of memory")

-- `{"day":WORD,"message":REASON}`
unfoldable pub failed_json : List ℕ → List ℕ → List ℕ
failed_json word reason =
    codes "{\"day\":" ++ string_json word ++ member_json (codes "message") reason ++ codes "}\n"

abbrev pub became_json : List ℕ → Became → List ℕ
became_json word (became.Outcome o) = outcome_json word o
became_json word became.ReadFault = failed_json word (codes "read fault")
became_json word became.Memory = failed_json word (codes "out of memory")

-- the line of what became of an item
abbrev pub news_shown : Bool → NewsData → List ℕ
news_shown json news =
    if json then became_json news.word news.became else became_text news.word news.became
