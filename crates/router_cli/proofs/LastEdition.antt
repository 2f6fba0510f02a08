-- What a caller that keeps a whole list is answered: by its last edition.
use Rattle.std.proofs.Common.{◌≡◌, ◌∙◌, ◌-◌, List, Some, false, true, subst, sym, length}
use Rattle.std.specs.Prelude.{slice_get}
use Rattle.history.specs.Lists.{Shown}
use Rattle.edition_store.specs.Editions.{EditionData, net_of, network_of}
use Rattle.answer_text.specs.Questions.{needs_mirror}
use Rattle.answer_text.specs.declared.question.Question.{Question}
use Rattle.query_gate.specs.Callers.{Answers, IsAnsweredBy}
use Rattle.query_gate.specs.Replies.{IsReply}
use Rattle.query_gate.specs.declared.reply.Reply.{Reply}
use Rattle.lane_serve.proofs.Answering.{same_edition}
use Rattle.router_cli.proofs.AnswerLemmas.{by_answer}

-- it pins the whole list
pub pinned_whole : (old new p : Shown EditionData) → old.closed ≡ true → (old.closed ≡ true → new ≡ old) → new ≡ p → p ≡ old
pinned_whole old new p whole stays pinned = sym pinned ∙ stays whole

-- the edition that it looks at is the last one
pub last_looked_at : (old p : Shown EditionData) (e x : EditionData) → p ≡ old → slice_get old.list (length old.list - 1) ≡ Some e → slice_get p.list (length p.list - 1) ≡ Some x → x ≡ e
last_looked_at old p e x same is looked =
    same_edition old.list (length old.list - 1) e x is (subst (λ (s : Shown EditionData). slice_get s.list (length s.list - 1) ≡ Some x) same looked)

-- the reply is its reply
pub answered_last : (es : List EditionData) (e : EditionData) (q : Question) (r : Reply) → needs_mirror q ≡ false → slice_get es (length es - 1) ≡ Some e →
    IsAnsweredBy es (length es) 0 q r → IsReply (net_of (network_of e)) q r
answered_last es e q r own is h =
    by_answer (length es) e q r own (subst (λ (x : EditionData). Answers (length es) x 0 q r) (same_edition es (length es - 1) e h.0 is h.1.1) h.2)
