use Rattle.std.proofs.Common.{ℕ, suc, inl, inr, refl}
use Rattle.tb_base.specs.Network.{NetData}
use Rattle.tb_base.specs.BestValues.{QueryData}
use Rattle.segment_queue.specs.Queue.{DeskData}
use Rattle.earliest_query.proofs.BestSoFar.{new_hit-kept}
use Rattle.earliest_query.proofs.Lateness.{done-kept}
use Rattle.earliest_query.proofs.search.Search.ride_level.Goals as goal

pub weigh_level-best-requires-clause-sound : goal.weigh_level-best-requires-clause-sound
weigh_level-best-requires-clause-sound g c = c.requires.queue.sound

pub follow_seen-requires-clause-notes : goal.follow_seen-requires-clause-notes
follow_seen-requires-clause-notes g c = c.weigh_level-best.ensures.seen

pub returns : goal.returns
returns g c =
    let N : NetData = g.S.Scan.net c.args.self.now.scan.now in
    let Q : QueryData = c.args.self.now.query.now in
    let D : DeskData = c.args.desk.now in
    let F : DeskData = c.follow_seen.new.desk in
    let top : ℕ = suc c.args.round in
    let best = c.weigh_level-best.result.0 in
    let told = c.weigh_level-best.ensures in
    let on = c.in_ok-follow_seen.ensures in
    record {
      queue = on.queue;
      levels = on.levels;
      places = on.places;
      extends = on.extends;
      followed = λ i covers. elim (told.weighed i covers).left [
        | inl done ↦ done-kept N Q D F top c.args.round c.args.n i best best on.extends c.requires.segment (inl refl) done
        | inr noted ↦ inl (on.followed i noted)
      ];
      bounded = λ i covers. (told.weighed i covers).bounded;
      improved = new_hit-kept N.table Q D F top c.args.round c.args.so_far best on.extends told.improved;
      still = c.follow_seen.ensures.still;
    }
