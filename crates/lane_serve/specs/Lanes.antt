-- What a lane is answered, over a list of published editions.
use Rattle.std.specs.Prelude.{◌≡◌, ℕ, ◌+◌, ◌≤◌, ◌==◌, ◌||◌, List, [], ◌∷◌, Bool, length, nat_lt, ⊤, if◌then◌else◌}
use Rattle.edition_store.specs.Editions.{EditionData}
use Rattle.query_gate.specs.Callers.{Answers, IsAnsweredBy, IsEditionOf}
use Rattle.query_gate.specs.Json.{shown_reply}
use Rattle.query_gate.specs.declared.reply.Reply.{Reply}
use Rattle.answer_json.specs.declared.frame.Frame.TheVariants as frame
use Rattle.query_gate.specs.declared.said.Line.{Line}
use Rattle.lane_serve.specs.declared.lane.ReplyText.{ReplyText}

-- a lane's name, and replies to requests of it
pub record ReportData : Type 0 where
  pub name : List ℕ
  pub replies : List ReplyText

-- the right reply of edition n of a list to a request
abbrev pub IsReplyOf : List EditionData → ℕ → Line → Reply → Type 0
IsReplyOf es n request reply = IsAnsweredBy es n request.since request.question reply

-- a reply's text is that of the right reply of the edition of a list that the reply names: as
-- lines, or where that is wanted, as a member of a JSON object
pub record IsRequestAnswered (es : List EditionData) (request : Line) (r : ReplyText) : Type 0 where
  pub by : EditionData
  pub edition : IsEditionOf es r.edition by
  pub reply : Reply
  pub right : Answers r.edition by request.since request.question reply
  pub text : r.text ≡ shown_reply request.json frame.Array by.table reply

-- One reply for each request in order, numbered from k on; the editions never go back, and the
-- first is no earlier than `least`.
abbrev pub RunsFrom : List EditionData → ℕ → ℕ → List Line → List ReplyText → Type 0
RunsFrom es k least [] [] = ⊤
RunsFrom es k least [] (r ∷ rs) = ⊥
RunsFrom es k least (q ∷ qs) [] = ⊥
RunsFrom es k least (q ∷ qs) (r ∷ rs) =
    (r.line ≡ k) × (least ≤ r.edition) × IsRequestAnswered es q r × RunsFrom es (k + 1) r.edition qs rs

-- the replies to a lane's requests, as a run over a list of editions gives them
abbrev pub IsLaneRun : List EditionData → List Line → List ReplyText → Type 0
IsLaneRun es requests replies = RunsFrom es 1 0 requests replies

-- a request, with its number in its lane
pub record Due : Type 0 where
  pub line : ℕ
  pub request : Line

-- the first request, and each that was deferred: whose edition is before the one that is wanted
abbrev pub is_due : ℕ → Line → ReplyText → Bool
is_due k request r = (k == 1) || nat_lt r.edition request.since

-- those of a lane's requests that are answered once more, numbered from k on
abbrev pub to_close : ℕ → List Line → List ReplyText → List Due
to_close k [] rs = []
to_close k (q ∷ qs) [] = []
to_close k (q ∷ qs) (r ∷ rs) =
    if is_due k q r then record { line = k; request = q } ∷ to_close (k + 1) qs rs
    else to_close (k + 1) qs rs

-- one reply for each of them in order, by the last edition
abbrev pub IsClosing : List EditionData → List Due → List ReplyText → Type 0
IsClosing es [] [] = ⊤
IsClosing es [] (c ∷ cs) = ⊥
IsClosing es (d ∷ ds) [] = ⊥
IsClosing es (d ∷ ds) (c ∷ cs) =
    (c.line ≡ d.line) × (c.edition ≡ length es) × IsRequestAnswered es d.request c × IsClosing es ds cs
