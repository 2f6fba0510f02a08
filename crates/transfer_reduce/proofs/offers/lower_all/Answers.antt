use Rattle.std.proofs.Common.{◌≡◌, ◌∙◌, ◌<◌, ◌≤◌, ◌+◌, inl, inr, ap, sym, subst, refl, arith, length}
use Rattle.tb_base.specs.TimetableData.{TimetableData, event_at, events_of}
use Rattle.transfer_pack.specs.declared.calls.Call.{Call}
use Rattle.transfer_pack.specs.CallsOf.{IsSoundCall, call_of}
use Rattle.transfer_reduce.proofs.Alighting.{lowered_more, lowered_until, none_lowered}
use Rattle.transfer_reduce.proofs.Steps.{sound_call}
use Rattle.transfer_reduce.proofs.offers.lower_all.Goals as goal

pub loop-at-init : goal.loop-at-init
loop-at-init g c = record { labels = c.requires.labels; until = inr refl; times = none_lowered c.args.table.now c.args.trip c.args.from c.args.labels.now.times }

pub call-requires : goal.call-requires
call-requires g c =
    let inside : c.loop-at.at < length (events_of c.args.table.now c.args.trip) = omega (arith, c.loop-at-test.true, c.requires.inside) in
    subst (λ (U : TimetableData). c.loop-at.at < length (events_of U c.args.trip)) (sym c.requires.table) inside

pub lower_at-requires : goal.lower_at-requires
lower_at-requires g c =
    let T = c.args.table.now in
    let inside : c.loop-at.at < length (events_of c.args.table.now c.args.trip) = omega (arith, c.loop-at-test.true, c.requires.inside) in
    let same : c.call.result ≡ call_of (event_at c.args.table.now c.args.trip c.loop-at.at)
    = c.call.ensures ∙ ap (λ (U : TimetableData). call_of (event_at U c.args.trip c.loop-at.at)) c.requires.table in
    subst (λ (U : TimetableData). IsSoundCall (length U.stops) c.call.result) (sym c.loop-at.invariant.labels)
    (subst (λ (x : Call). IsSoundCall (length T.stops) x) (sym same) (sound_call T c.soundness.ensures c.args.trip c.loop-at.at inside))

pub loop-at-preserved : goal.loop-at-preserved
loop-at-preserved g c =
    let T = c.args.table.now in
    let inv = c.loop-at.invariant in
    let at = c.loop-at.at in
    let order : c.args.from ≤ c.loop-at.at = c.loop-at.auto.at in
    let last : c.loop-at.at + 1 ≤ c.args.to = omega (arith, c.loop-at-test.true) in
    let same : c.call.result ≡ call_of (event_at c.args.table.now c.args.trip c.loop-at.at)
    = c.call.ensures ∙ ap (λ (U : TimetableData). call_of (event_at U c.args.trip c.loop-at.at)) c.requires.table in
    record {
      labels = c.lower_at.ensures.table ∙ inv.labels;
      until = inl last;
      times = lowered_more T c.args.trip c.args.from at c.args.labels.now.times c.loop-at.labels.times c.lower_at.new.labels.times c.call.result order same inv.times c.lower_at.ensures.times;
    }

pub returns-clause-times : goal.returns-clause-times
returns-clause-times g c =
    lowered_until c.args.table.now c.args.trip c.args.from c.loop-at.at c.args.to c.args.labels.now.times c.loop-at.labels.times c.loop-at-test.false c.loop-at.invariant.until c.loop-at.invariant.times
