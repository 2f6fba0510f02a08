-- Which texts are right replies to the lines of a process that lives.
use Rattle.std.specs.Prelude.{◌≡◌, ℕ, List, [], Bool}
use Rattle.answer_json.specs.declared.frame.Frame.TheVariants as frame
use Rattle.edition_store.specs.Editions.{EditionData}
use Rattle.query_gate.specs.Callers.{Answers, IsEditionOf}
use Rattle.query_gate.specs.Json.{shown_reply}
use Rattle.query_gate.specs.declared.reply.Reply.{Reply}
use Rattle.live_turns.specs.declared.live.saying.LiveMode.{LiveMode}
use Rattle.live_turns.specs.declared.live.saying.Wanted.{Wanted}
use Rattle.live_turns.specs.declared.live.saying.Wanted.TheVariants as want
use Rattle.query_gate.specs.declared.said.Line.{Line}
use Rattle.live_turns.specs.LiveLines.{live_said, wanted}
use Rattle.live_turns.specs.LiveTexts.{answered_live, bad_line_live, bad_time_live, queued_live}

-- the text of the right reply of edition n, which is e, to a request in line k
pub record IsReplyTo (json : Bool) (n : ℕ) (e : EditionData) (k : ℕ) (request : Line)
    (text : List ℕ) : Type 0 where
  pub reply : Reply
  pub right : Answers n e request.since request.question reply
  pub shown : text ≡ answered_live json k n (shown_reply json frame.Array e.table reply)

-- by edition n, which is e, this text is the right reply to line k, by which this is wanted
abbrev pub IsWantedBy : Bool → ℕ → EditionData → ℕ → Wanted → List ℕ → Type 0
IsWantedBy json n e k want.Nothing text = text ≡ []
IsWantedBy json n e k (want.Reply request) text = IsReplyTo json n e k request text
IsWantedBy json n e k (want.Queued word) text = text ≡ queued_live json k word
IsWantedBy json n e k want.BadLine text = text ≡ bad_line_live json k
IsWantedBy json n e k want.BadTime text = text ≡ bad_time_live json k

-- by edition n of a list this text is the right reply to line k
abbrev pub LiveReplies : LiveMode → List EditionData → ℕ → ℕ → List ℕ → List ℕ → Type 0
LiveReplies mode es n k line text =
    (e : EditionData) × IsEditionOf es n e
    × IsWantedBy mode.json n e k (wanted (live_said mode line)) text
