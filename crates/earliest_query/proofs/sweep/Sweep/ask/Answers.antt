use Rattle.std.proofs.Common.{◌≡◌, ◌∙◌, List, ◌++◌, length, sym, ap, subst, ℤ}
use Rattle.std.specs.Prelude.{All, Contains}
use Rattle.tb_base.specs.Network.{NetData}
use Rattle.tb_base.specs.declared.query.Value.{Value}
use Rattle.tb_base.specs.BestValues.{QueryData}
use Rattle.tb_laws.specs.Pruning.{AreCoveredBy, IsLate}
use Rattle.segment_queue.specs.Queue.{DeskData}
use Rattle.earliest_query.specs.Choices.{hits_of}
use Rattle.earliest_query.specs.Sweeping.{IsKeptBeside, IsSweptQueue, IsSweptRound, SweepData, values_with}
use Rattle.earliest_query.proofs.Growing.{keeps_same, keeps_trans}
use Rattle.earliest_query.proofs.SweptDown.{first_round, gone_on-same, late_among, queue_earlier, rode, round_found, swept_taken}
use Rattle.earliest_query.proofs.SweptRounds.{swept_queue-on}
use Rattle.earliest_query.proofs.sweep.Sweep.ask.Goals as goal

pub start_level-requires-clause-queue : goal.start_level-requires-clause-queue
start_level-requires-clause-queue g c =
    let N : NetData = g.S.Scan.net c.args.scan.now in
    let Q : QueryData = c.args.query.now in
    let D : DeskData = c.args.desk.now in
    let later : ℤ = c.requires.later.0 in
    let same = ap (λ (d : DeskData). d.segments) c.keep.ensures ∙ ap (λ (d : DeskData). d.segments) c.clear_hits.ensures in
    let queue = subst (λ (s : SweepData). IsSweptQueue N (record Q { leave = later }) D s.levels) (sym c.self.view_is) c.requires.later.2.queue in
    swept_queue-on N Q D c.keep.new.desk c.self.inside.levels same (queue_earlier N Q later c.requires.later.1 D c.self.inside.levels queue)

pub ride_levels-requires-clause-ridden : goal.ride_levels-requires-clause-ridden
ride_levels-requires-clause-ridden g c =
    let N : NetData = g.S.Scan.net c.args.scan.now in
    let Q : QueryData = c.args.query.now in
    let D : DeskData = c.args.desk.now in
    let C : DeskData = c.keep.new.desk in
    let E : DeskData = c.start_level.new.desk in
    let later : ℤ = c.requires.later.0 in
    let values : List Value = c.args.self.now.values in
    let same = ap (λ (d : DeskData). d.segments) c.keep.ensures ∙ ap (λ (d : DeskData). d.segments) c.clear_hits.ensures in
    let hits = ap (λ (d : DeskData). d.hits) c.keep.ensures ∙ ap (λ (d : DeskData). d.hits ++ hits_of 0 c.walk_hit-walk.result) c.clear_hits.ensures in
    let are : c.as_slice.result.now ≡ rode values = c.as_slice.ensures.value ∙ c.drop_walks.ensures ∙ ap (λ (s : SweepData). rode s.values) c.self.view_is in
    let count : length C.segments ≡ c.in_ok-from.from = ap length same ∙ sym c.in_ok-from.ensures.count in
    let more = c.in_ok-start_level.ensures in
    subst (λ (vs : List Value). IsSweptRound N Q E c.start_level.new.levels vs c.in_ok-from.from 1) (sym are)
    (subst (λ n. IsSweptRound N Q E c.start_level.new.levels (rode values) n 1) count
    (first_round N Q later c.requires.later.1 C E c.start_level.new.levels values c.walk_hit-walk.result (gone_on-same N (record Q { leave = later }) D C values same c.requires.later.2.gone_on) hits
    c.walk_hit-walk.ensures.traced c.walk_hit-walk.ensures.bounded more.queue more.extends more.starts))

pub returns-clause-swept : goal.returns-clause-swept
returns-clause-swept g c =
    let F : DeskData = c.ride_levels.new.desk in
    let ridden = c.in_ok-ride_levels.ensures.ridden in
    let vs : List Value = c.as_slice.result.now in
    let taken = c.in_ok-take_hits.ensures in
    let new : List Value = c.take_hits.new.values.items in
    let values : values_with c.hits.result.now c.drop_walks.new.values.items ≡ values_with F.hits vs
    = ap (λ hs. values_with hs c.drop_walks.new.values.items) c.hits.ensures ∙ ap (λ (xs : List Value). values_with F.hits xs) (sym c.as_slice.ensures.value) in
    swept_taken (g.S.Scan.net c.args.scan.now) c.args.query.now F c.ride_levels.new.levels vs ridden.0 ridden.1 new
    (subst (λ (xs : List Value). All (Contains xs) new) values taken.from) (subst (λ (xs : List Value). AreCoveredBy xs new) values taken.covers)

pub returns-clause-found : goal.returns-clause-found
returns-clause-found g c = λ w has.
    let F : DeskData = c.ride_levels.new.desk in
    let ridden = c.in_ok-ride_levels.ensures.ridden in
    let values : List Value = c.args.self.now.values in
    let are : c.as_slice.result.now ≡ rode values = c.as_slice.ensures.value ∙ c.drop_walks.ensures ∙ ap (λ (s : SweepData). rode s.values) c.self.view_is in
    late_among F.hits values w.arrive w.rides (subst (λ (vs : List Value). IsLate (values_with F.hits vs) w.arrive w.rides) are
    (round_found (g.S.Scan.net c.args.scan.now) c.args.query.now F c.ride_levels.new.levels c.as_slice.result.now ridden.0 ridden.1 c.soundness.ensures.sound c.requires.sufficient w has))

pub returns-clause-let_go : goal.returns-clause-let_go
returns-clause-let_go g c = subst (λ hs. All (IsKeptBeside hs) c.take_hits.new.values.items) c.hits.ensures c.in_ok-take_hits.ensures.let_go

pub returns-clause-kept : goal.returns-clause-kept
returns-clause-kept g c =
    let C : DeskData = c.keep.new.desk in
    let E : DeskData = c.start_level.new.desk in
    let same = ap (λ (d : DeskData). d.segments) c.keep.ensures ∙ ap (λ (d : DeskData). d.segments) c.clear_hits.ensures in
    let more = c.in_ok-start_level.ensures.extends in
    keeps_trans c.args.desk.now E c.ride_levels.new.desk (keeps_trans c.args.desk.now C E (keeps_same c.args.desk.now C same) (more.more, more.segments)) c.in_ok-ride_levels.ensures.kept
