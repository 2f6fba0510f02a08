use Rattle.std.proofs.Common.{◌≡◌, ◌∙◌, ◌<◌, ap, sym, subst, arith, length}
use Rattle.tb_base.specs.TimetableData.{TimetableData, event_at, events_of}
use Rattle.transfer_pack.specs.declared.calls.Call.{Call}
use Rattle.transfer_pack.specs.CallsOf.{IsSoundCall, call_of}
use Rattle.transfer_reduce.proofs.Steps.{sound_call}
use Rattle.transfer_reduce.proofs.offers.first_sooner.Goals as goal

pub call-requires : goal.call-requires
call-requires g c =
    let inside : c.loop-at.at < length (events_of c.args.table.now c.args.trip) = omega (arith, c.loop-at-test.true, c.requires.inside) in
    subst (λ (U : TimetableData). c.loop-at.at < length (events_of U c.args.trip)) (sym c.requires.table) inside

pub is_sooner_at-requires : goal.is_sooner_at-requires
is_sooner_at-requires g c =
    let T = c.args.table.now in
    let inside : c.loop-at.at < length (events_of c.args.table.now c.args.trip) = omega (arith, c.loop-at-test.true, c.requires.inside) in
    let same : c.call.result ≡ call_of (event_at c.args.table.now c.args.trip c.loop-at.at)
    = c.call.ensures ∙ ap (λ (U : TimetableData). call_of (event_at U c.args.trip c.loop-at.at)) c.requires.table in
    subst (λ (U : TimetableData). IsSoundCall (length U.stops) c.call.result) (sym c.requires.labels)
    (subst (λ (x : Call). IsSoundCall (length T.stops) x) (sym same) (sound_call T c.soundness.ensures c.args.trip c.loop-at.at inside))
