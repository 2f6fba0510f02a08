use Rattle.std.proofs.Common.{◌≡◌, ◌∙◌, ◌<◌, ◌++◌, ◌∷◌, [], ap, arith}
use Rattle.segment_queue.specs.Levels.{level_mark}
use Rattle.earliest_query.proofs.SweptOnto.{swept-entered, swept-extends, swept-reached, swept_before}
use Rattle.earliest_query.proofs.search.Search.enter_level.Goals as goal
use Rattle.tb_base.specs.Network.{NetData}

pub returns-then-end-hop-clause-reached : goal.returns-then-end-hop-clause-reached
returns-then-end-hop-clause-reached g c =
    swept_before (g.S.Scan.net c.args.self.now.scan.now) c.args.self.now.query.now c.args.desk.now c.args.levels.now c.args.level c.args.hop.trip c.args.hop.at c.args.parent
    c.soundness.ensures.divided c.requires.trip c.requires.level c.requires.queue (omega (arith, c.if-end-hop.true, c.mark-end.ensures)) c.requires.not_last

pub returns-clause-queue : goal.returns-clause-queue
returns-clause-queue g c =
    let N : NetData = g.S.Scan.net c.args.self.now.scan.now in
    let below : c.args.hop.at < level_mark N.table c.args.levels.now c.args.level c.args.hop.trip = omega (arith, c.if-end-hop.false, c.mark-end.ensures) in
    let is : c.add_segment.new.self.segments ≡ c.args.desk.now.segments ++ record { trip = c.args.hop.trip; board = c.args.hop.at; end = level_mark N.table c.args.levels.now c.args.level c.args.hop.trip; parent = c.args.parent } ∷ []
    = c.in_ok-add_segment.ensures.segments ∙ ap (λ e. c.args.desk.now.segments ++ record { trip = c.args.hop.trip; board = c.args.hop.at; end = e; parent = c.args.parent } ∷ []) c.mark-end.ensures in
    swept-entered N c.args.self.now.query.now c.args.desk.now c.args.levels.now c.args.level c.args.hop.trip c.args.hop.at c.args.parent c.soundness.ensures.divided c.requires.trip c.requires.level c.requires.queue
    c.add_segment.new.self c.lower.new.self c.lower.ensures.lowered below c.requires.round c.requires.boards c.requires.in_set c.lower.ensures.room c.lower.ensures.falling is c.in_ok-add_segment.ensures.hits

pub returns-clause-reached : goal.returns-clause-reached
returns-clause-reached g c =
    let N : NetData = g.S.Scan.net c.args.self.now.scan.now in
    let below : c.args.hop.at < level_mark N.table c.args.levels.now c.args.level c.args.hop.trip = omega (arith, c.if-end-hop.false, c.mark-end.ensures) in
    let is : c.add_segment.new.self.segments ≡ c.args.desk.now.segments ++ record { trip = c.args.hop.trip; board = c.args.hop.at; end = level_mark N.table c.args.levels.now c.args.level c.args.hop.trip; parent = c.args.parent } ∷ []
    = c.in_ok-add_segment.ensures.segments ∙ ap (λ e. c.args.desk.now.segments ++ record { trip = c.args.hop.trip; board = c.args.hop.at; end = e; parent = c.args.parent } ∷ []) c.mark-end.ensures in
    swept-reached N c.args.self.now.query.now c.args.desk.now c.args.levels.now c.args.level c.args.hop.trip c.args.hop.at c.args.parent c.soundness.ensures.divided c.requires.trip c.requires.level c.requires.queue
    c.add_segment.new.self c.lower.new.self c.lower.ensures.lowered below c.requires.round c.requires.boards c.requires.in_set c.lower.ensures.room c.lower.ensures.falling is c.in_ok-add_segment.ensures.hits

pub returns-clause-extends : goal.returns-clause-extends
returns-clause-extends g c =
    let N : NetData = g.S.Scan.net c.args.self.now.scan.now in
    let below : c.args.hop.at < level_mark N.table c.args.levels.now c.args.level c.args.hop.trip = omega (arith, c.if-end-hop.false, c.mark-end.ensures) in
    let is : c.add_segment.new.self.segments ≡ c.args.desk.now.segments ++ record { trip = c.args.hop.trip; board = c.args.hop.at; end = level_mark N.table c.args.levels.now c.args.level c.args.hop.trip; parent = c.args.parent } ∷ []
    = c.in_ok-add_segment.ensures.segments ∙ ap (λ e. c.args.desk.now.segments ++ record { trip = c.args.hop.trip; board = c.args.hop.at; end = e; parent = c.args.parent } ∷ []) c.mark-end.ensures in
    swept-extends N c.args.self.now.query.now c.args.desk.now c.args.levels.now c.args.level c.args.hop.trip c.args.hop.at c.args.parent c.soundness.ensures.divided c.requires.trip c.requires.level c.requires.queue
    c.add_segment.new.self c.lower.new.self c.lower.ensures.lowered below c.requires.round c.requires.boards c.requires.in_set c.lower.ensures.room c.lower.ensures.falling is c.in_ok-add_segment.ensures.hits
