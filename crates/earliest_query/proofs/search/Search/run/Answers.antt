use Rattle.std.proofs.Common.{◌∙◌, [], ◌∷◌, length, ap, arith, None}
use Rattle.std.proofs.lemmas.List.{length-replicate}
use Rattle.segment_queue.specs.Queue.{DeskData}
use Rattle.earliest_query.proofs.Answering.{covered_all, first_ridden}
use Rattle.earliest_query.specs.UnderWay.{room_of}
use Rattle.earliest_query.proofs.search.Search.run.Goals as goal

pub ride_all-requires-clause-ridden : goal.ride_all-requires-clause-ridden
ride_all-requires-clause-ridden g c =
    first_ridden (g.S.Scan.net c.args.self.now.scan.now) c.args.self.now.query.now c.begin.new.self c.keep.new.desk c.board_all.new.desk c.walk_hit-walk.result
    (ap (λ (d : DeskData). d.segments) c.begin.ensures.emptied) (ap (λ (d : DeskData). d.hits) c.begin.ensures.emptied) c.keep.ensures c.board_all.ensures.queue c.board_all.ensures.extends c.board_all.ensures.boarded c.walk_hit-walk.ensures.traced c.walk_hit-walk.ensures.bounded

pub returns-clause-step : goal.returns-clause-step
returns-clause-step g c = c.ride_all.ensures.ridden.1.queue.step

pub returns-clause-steps : goal.returns-clause-steps
returns-clause-steps g c =
    omega (arith, c.ride_all.ensures.steps, c.board_all.ensures.steps, covered_all (g.S.Scan.net c.args.self.now.scan.now) c.ride_all.new.desk c.ride_all.ensures.ridden.1.queue.step)

pub returns-clause-room : goal.returns-clause-room
returns-clause-room g c =
    c.ride_all.ensures.room ∙ c.board_all.ensures.room ∙ ap room_of c.keep.ensures ∙ ap room_of c.begin.ensures.emptied ∙ ap (λ n. n ∷ c.args.desk.now.segment_room ∷ c.args.desk.now.hit_room ∷ c.args.desk.now.note_room ∷ []) (length-replicate (length c.args.desk.now.marks) None)
