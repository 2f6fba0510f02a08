use Rattle.std.proofs.Common.{◌≡◌, ◌∙◌, List, ℕ, ℤ, to_z, of_z, w32, subst, rules}
use Rattle.std.proofs.lemmas.Int.{to_z-of_z}
use Rattle.std.proofs.lemmas.Result.{IfOk-weaker}
use Rattle.tb_base.specs.Network.{NetData}
use Rattle.answer_text.specs.declared.question.Question.TheVariants as question
use Rattle.query_gate.specs.Replies.{IsReply, over}
use Rattle.lane_serve.specs.Rows.{IsOriginReply}
use Rattle.lane_serve.proofs.rows.origin_reply.Goals as goal

pub returns-clause-reply : goal.returns-clause-reply
returns-clause-reply c =
    let a = c.args.asked.now in
    let from : List ℕ = c.in_ok-from.from in
    let N : NetData = over c.table.result.now c.network.result.now in
    let first : to_z w32 (of_z w32 a.first) ≡ a.first = to_z-of_z w32 a.first (search rules) in
    let last : to_z w32 (of_z w32 a.last) ≡ a.last = to_z-of_z w32 a.last (search rules) in
    let origin : from ≡ c.args.origin.now = c.in_ok-from.ensures ∙ c.bytes.ensures in
    IfOk-weaker c.answer-reply.result _ _
    (λ r h. subst (λ T. IsOriginReply T a c.args.origin.now r) c.table.ensures
    (subst (λ name. IsOriginReply c.table.result.now a name r) origin
    (subst (λ z. IsReply N (question.Times from a.first z a.step a.rides) r) last
    (subst (λ z. IsReply N (question.Times from z (to_z w32 (of_z w32 a.last)) a.step a.rides) r) first h))))
    c.answer-reply.ensures.reply
