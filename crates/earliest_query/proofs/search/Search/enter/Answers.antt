use Rattle.std.proofs.Common.{refl}
use Rattle.segment_queue.specs.Traced.{round_after, round_segments}
use Rattle.earliest_query.proofs.OneMore.{queue-reached, room-reached}
use Rattle.earliest_query.proofs.search.Search.enter.Goals as goal

pub returns-clause-queue : goal.returns-clause-queue
returns-clause-queue g c =
    (queue-reached (g.S.Scan.net c.args.self.now.scan.now) c.args.self.now.query.now c.args.desk.now
    (round_after (round_segments c.args.desk.now.segments) c.args.parent) c.args.hop.trip c.args.hop.at c.args.parent c.soundness.ensures.divided c.requires.trip c.requires.queue
    c.reach-entered.result c.reach-entered.new.self c.reach-entered.ensures.step c.reach-entered.ensures.told c.reach-entered.ensures.entered refl c.requires.boards c.requires.in_set c.requires.not_last).0

pub returns-clause-reached : goal.returns-clause-reached
returns-clause-reached g c =
    (queue-reached (g.S.Scan.net c.args.self.now.scan.now) c.args.self.now.query.now c.args.desk.now
    (round_after (round_segments c.args.desk.now.segments) c.args.parent) c.args.hop.trip c.args.hop.at c.args.parent c.soundness.ensures.divided c.requires.trip c.requires.queue
    c.reach-entered.result c.reach-entered.new.self c.reach-entered.ensures.step c.reach-entered.ensures.told c.reach-entered.ensures.entered refl c.requires.boards c.requires.in_set c.requires.not_last).1

pub returns-clause-extends : goal.returns-clause-extends
returns-clause-extends g c =
    (queue-reached (g.S.Scan.net c.args.self.now.scan.now) c.args.self.now.query.now c.args.desk.now
    (round_after (round_segments c.args.desk.now.segments) c.args.parent) c.args.hop.trip c.args.hop.at c.args.parent c.soundness.ensures.divided c.requires.trip c.requires.queue
    c.reach-entered.result c.reach-entered.new.self c.reach-entered.ensures.step c.reach-entered.ensures.told c.reach-entered.ensures.entered refl c.requires.boards c.requires.in_set c.requires.not_last).2

pub returns-clause-room : goal.returns-clause-room
returns-clause-room g c = room-reached (g.S.Scan.net c.args.self.now.scan.now) c.args.hop.trip c.args.hop.at c.args.parent c.args.desk.now c.reach-entered.new.self c.reach-entered.result c.reach-entered.ensures.entered
