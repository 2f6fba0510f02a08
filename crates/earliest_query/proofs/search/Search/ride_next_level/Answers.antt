use Rattle.std.proofs.Common.{◌≡◌, ◌∙◌, ◌++◌, ap}
use Rattle.tb_base.specs.Network.{NetData}
use Rattle.tb_base.specs.BestValues.{QueryData}
use Rattle.segment_queue.specs.Queue.{DeskData}
use Rattle.earliest_query.specs.Choices.{hits_of}
use Rattle.earliest_query.proofs.SweptRounds.{level_there, swept_next, swept_queue-made}
use Rattle.earliest_query.proofs.search.Search.ride_next_level.Goals as goal

pub have_level-requires-clause-levels : goal.have_level-requires-clause-levels
have_level-requires-clause-levels g c =
    level_there (g.S.Scan.net c.args.self.now.scan.now) c.args.self.now.query.now c.args.desk.now c.args.levels.now c.args.values.now c.args.from c.args.round
    c.requires.ridden c.requires.from

pub ride_level_round-requires-clause-queue : goal.ride_level_round-requires-clause-queue
ride_level_round-requires-clause-queue g c =
    let N : NetData = g.S.Scan.net c.args.self.now.scan.now in
    let Q : QueryData = c.args.self.now.query.now in
    let D : DeskData = c.args.desk.now in
    swept_queue-made N Q D c.args.levels.now c.have_level.new.levels c.requires.ridden.queue.some_level c.in_ok-have_level.ensures.made c.requires.ridden.queue

pub returns-clause-ridden : goal.returns-clause-ridden
returns-clause-ridden g c =
    let N : NetData = g.S.Scan.net c.args.self.now.scan.now in
    let Q : QueryData = c.args.self.now.query.now in
    let D : DeskData = c.args.desk.now in
    let E : DeskData = c.ride_level_round.new.desk in
    let F : DeskData = c.keep_hit.new.desk in
    let ridden = c.in_ok-best.ensures in
    let hits : F.hits ≡ D.hits ++ hits_of c.args.round c.in_ok-best.best = c.in_ok-keep_hit.ensures.hits ∙ ap (λ hs. hs ++ hits_of c.args.round c.in_ok-best.best) ridden.extends.hits in
    swept_next N Q D E F c.args.levels.now c.ride_level_round.new.levels c.args.values.now c.best_before-before.result c.in_ok-best.best c.args.from c.in_ok-to.to c.args.round c.requires.ridden c.in_ok-to.ensures.count
    ridden.queue ridden.extends ridden.followed ridden.bounded c.best_before-before.ensures ridden.improved c.keep_hit.ensures.segments hits

pub returns-clause-kept : goal.returns-clause-kept
returns-clause-kept g c = let ridden = c.in_ok-best.ensures in (ridden.extends.more, c.keep_hit.ensures.segments ∙ ridden.extends.segments)
