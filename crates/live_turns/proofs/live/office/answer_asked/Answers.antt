use mir.Syntax.{erased}
use Rattle.std.proofs.Common.{subst, Vec, ℕ, Global}
use Rattle.query_gate.specs.Dealing.{AreReplies}
use Rattle.live_turns.specs.declared.live.saying.Asked.{Asked}
use Rattle.live_turns.specs.LiveReplies.{IsWantedBy}
use Rattle.live_turns.proofs.LiveRuns.{some_number}
use Rattle.live_turns.proofs.LiveSent.{bureau_sync}
use Rattle.live_turns.proofs.live.office.answer_asked.Goals as goal

pub answer_all-requires-sync-O : goal.answer_all-requires-sync-O
answer_all-requires-sync-O g c κs within = record { shared = λ x b o. (bureau_sync (record { mir = erased; lft = _ }) _ c.type_bounds.sync-G).shared x b o }

pub returns-in-Ok-clause-replies : goal.returns-in-Ok-clause-replies
returns-in-Ok-clause-replies g c =
    let e = c.edition.result.now in (
      e,
      some_number c.args.pinned.now.list e c.edition.ensures,
      subst (λ n. AreReplies (λ (a : Asked) (v : Vec ℕ Global). IsWantedBy c.args.json n e a.number a.wanted v.items) c.args.asked.now c.in-Ok.texts.items) c.number.ensures c.in-Ok.ensures.replies,
    )
