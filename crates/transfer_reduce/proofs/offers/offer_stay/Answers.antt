use Rattle.std.proofs.Common.{◌≡◌, ◌∙◌, ◌<◌, ◌≤◌, ap, sym, subst, arith, length}
use Rattle.tb_base.specs.TimetableData.{TimetableData, event_at, events_of}
use Rattle.transfer_pack.specs.declared.calls.Call.{Call}
use Rattle.transfer_pack.specs.CallsOf.{IsSoundCall, call_of}
use Rattle.transfer_reduce.proofs.Alighting.{lowered_more, none_lowered}
use Rattle.transfer_reduce.proofs.Steps.{sound_call}
use Rattle.transfer_reduce.proofs.offers.offer_stay.Goals as goal

pub call-requires : goal.call-requires
call-requires g c = subst (λ (U : TimetableData). c.args.at < length (events_of U c.args.trip)) (sym c.requires.table) c.requires.inside

pub lower_at-requires : goal.lower_at-requires
lower_at-requires g c =
    let T = c.args.table.now in
    let same : c.call.result ≡ call_of (event_at c.args.table.now c.args.trip c.args.at)
    = c.call.ensures ∙ ap (λ (U : TimetableData). call_of (event_at U c.args.trip c.args.at)) c.requires.table in
    subst (λ (U : TimetableData). IsSoundCall (length U.stops) c.call.result) (sym c.requires.labels)
    (subst (λ (x : Call). IsSoundCall (length T.stops) x) (sym same) (sound_call T c.soundness.ensures c.args.trip c.args.at c.requires.inside))

pub returns-clause-times : goal.returns-clause-times
returns-clause-times g c = λ h.
    let T = c.args.table.now in
    let old = c.args.labels.now.times in
    let at = c.args.at in
    let same : c.call.result ≡ call_of (event_at c.args.table.now c.args.trip c.args.at)
    = c.call.ensures ∙ ap (λ (U : TimetableData). call_of (event_at U c.args.trip c.args.at)) c.requires.table in
    let order : c.args.at ≤ c.args.at = omega arith in
    lowered_more T c.args.trip at at old old c.lower_at.new.labels.times c.call.result order same (none_lowered T c.args.trip at old) c.lower_at.ensures.times
