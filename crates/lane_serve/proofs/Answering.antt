-- A reply by the last edition of a list, and its text.
use Rattle.std.proofs.Common.{◌≡◌, ◌∙◌, sym, ap, subst, ℕ, ◌-◌, List, length, Some}
use Rattle.std.specs.Prelude.{slice_get}
use Rattle.edition_store.specs.Editions.{EditionData}
use Rattle.query_gate.specs.Callers.{IsEditionOf}
use Rattle.query_gate.specs.declared.reply.Reply.{Reply}
use Rattle.query_gate.specs.declared.said.Line.{Line}
use Rattle.lane_serve.specs.declared.lane.ReplyText.{ReplyText}
use Rattle.query_gate.specs.Json.{shown_reply}
use Rattle.answer_json.specs.declared.frame.Frame.TheVariants as frame
use Rattle.lane_serve.specs.Lanes.{IsRequestAnswered, IsReplyOf}

-- at a place of a list stands one edition
pub same_edition : (o : List EditionData) (n : ℕ) (e f : EditionData) → slice_get o n ≡ Some e → slice_get o n ≡ Some f → f ≡ e
same_edition o n e f h k = let s : Some f ≡ Some e = sym k ∙ h in cc

-- the number, the edition and the text are those of the reply
pub answered : (es : List EditionData) (q : Line) (e : EditionData) (reply : Reply) (r : ReplyText) → IsReplyOf es (length es) q reply →
    slice_get es (length es - 1) ≡ Some e → r.edition ≡ length es → r.text ≡ shown_reply q.json frame.Array e.table reply → IsRequestAnswered es q r
answered es q e reply r h is n t =
    let same = same_edition es (length es - 1) h.0 e h.1.1 is in
    record {
      by = h.0;
      edition = subst (λ k. IsEditionOf es k h.0) (sym n) h.1;
      reply = reply;
      right = rw n h.2;
      text = t ∙ ap (λ (f : EditionData). shown_reply q.json frame.Array f.table reply) same;
    }

-- the last edition of a list that has answered has a number
pub last_edition_is : (es : List EditionData) (q : Line) (e : EditionData) (reply : Reply) → IsReplyOf es (length es) q reply →
    slice_get es (length es - 1) ≡ Some e → IsEditionOf es (length es) e
last_edition_is es q e reply h is = (h.1.0, is)
