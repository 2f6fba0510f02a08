use Rattle.std.proofs.Common.{◌≡◌, ◌∙◌, ℕ, suc, ◌<◌, ◌+◌, ◌++◌, length, take, sym, ap, subst, arith}
use Rattle.std.specs.Prelude.{sum_by}
use Rattle.std.proofs.lemmas.List.{take-append-le}
use Rattle.tb_base.specs.Network.{NetData}
use Rattle.tb_base.specs.BestValues.{QueryData}
use Rattle.segment_queue.specs.Queue.{DeskData, covered_indices}
use Rattle.segment_queue.proofs.InStep.{segments_le_events}
use Rattle.earliest_query.specs.Choices.{hits_of}
use Rattle.earliest_query.specs.UnderWay.{Covers, IsImproved, room_of}
use Rattle.earliest_query.specs.Meeting.{IsMetUnlessHit}
use Rattle.earliest_query.specs.Ridden.{IsRidden}
use Rattle.earliest_query.proofs.Growing.{extends-long}
use Rattle.earliest_query.proofs.Keeping.{met_next, ridden_next}
use Rattle.earliest_query.proofs.search.Search.ride_next.Goals as goal

pub keep-requires : goal.keep-requires
keep-requires g c =
    let D : DeskData = c.args.desk.now in
    let E : DeskData = c.ride_round-best.new.desk in
    omega (
      arith,
      ap length c.ride_round-best.ensures.extends.hits,
      c.requires.ridden.few_hits,
      c.requires.ridden.few_rounds,
      c.requires.from,
      extends-long D E (suc c.args.round) c.ride_round-best.ensures.extends,
      segments_le_events (g.S.Scan.net c.args.self.now.scan.now) E c.ride_round-best.ensures.queue.step,
      c.ride_round-best.ensures.queue.step.fits.hits,
    )

pub returns-clause-ridden : goal.returns-clause-ridden
returns-clause-ridden g c =
    let N : NetData = g.S.Scan.net c.args.self.now.scan.now in
    let Q : QueryData = c.args.self.now.query.now in
    let D : DeskData = c.args.desk.now in
    let E : DeskData = c.ride_round-best.new.desk in
    let more = c.ride_round-best.ensures in
    let improved = subst (λ o. IsImproved N.table Q E c.args.round o c.ride_round-best.result) c.last_hit-last.ensures more.improved in
    let next : IsRidden N Q (record E { hits = D.hits ++ hits_of c.args.round c.ride_round-best.result }) c.count-to.result (c.args.round + 1)
    = ridden_next N Q D E c.ride_round-best.result c.args.from c.count-to.result c.args.round c.requires.ridden c.count-to.ensures.result c.requires.from more.queue more.extends more.ridden improved in
    subst (λ d. IsRidden N Q d c.count-to.result (c.args.round + 1))
    (ap (λ hs. record E { hits = hs ++ hits_of c.args.round c.ride_round-best.result }) (sym more.extends.hits) ∙ sym c.keep.ensures) next

pub returns-clause-met : goal.returns-clause-met
returns-clause-met g c =
    let N : NetData = g.S.Scan.net c.args.self.now.scan.now in
    let Q : QueryData = c.args.self.now.query.now in
    let D : DeskData = c.args.desk.now in
    let E : DeskData = c.ride_round-best.new.desk in
    let more = c.ride_round-best.ensures in
    let improved = subst (λ o. IsImproved N.table Q E c.args.round o c.ride_round-best.result) c.last_hit-last.ensures more.improved in
    let next = met_next N Q D E c.ride_round-best.result c.args.from c.count-to.result c.args.round c.requires.ridden c.count-to.ensures.result c.requires.from more.queue more.extends more.ridden improved
    (g.A.AtEvent.has_met c.args.also.now N) (g.A.AtEvent.has_met c.ride_round-best.new.also N) more.still_met c.requires.met more.met in
    subst (λ (d : DeskData). (n i : ℕ) → n < c.count-to.result → Covers d n i → IsMetUnlessHit N (g.A.AtEvent.has_met c.ride_round-best.new.also N) d n i)
    (ap (λ hs. record E { hits = hs ++ hits_of c.args.round c.ride_round-best.result }) (sym more.extends.hits) ∙ sym c.keep.ensures) next

pub returns-clause-steps : goal.returns-clause-steps
returns-clause-steps g c =
    let D : DeskData = c.args.desk.now in
    let E : DeskData = c.ride_round-best.new.desk in
    let kept : DeskData.segments c.keep.new.desk ≡ E.segments = ap (λ (d : DeskData). d.segments) c.keep.ensures in
    let same : take c.count-to.result (DeskData.segments c.keep.new.desk) ≡ take c.count-to.result D.segments
    = ap (λ xs. take c.count-to.result xs) (kept ∙ c.ride_round-best.ensures.extends.segments) ∙ take-append-le c.count-to.result D.segments c.ride_round-best.ensures.extends.more (omega (arith, c.count-to.ensures.result)) in
    omega (arith, c.ride_round-best.ensures.steps, ap (λ xs. sum_by covered_indices xs) same)

pub returns-clause-room : goal.returns-clause-room
returns-clause-room g c = ap room_of c.keep.ensures ∙ c.ride_round-best.ensures.room
