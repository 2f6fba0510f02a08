use Rattle.std.proofs.Common.{◌≡◌, ◌∙◌, ◌∷◌, [], ◌+ℤ◌, sym, subst, arith}
use Rattle.std.specs.Prelude.{IsSome}
use Rattle.tb_base.specs.Search.{IsFound, segment_at}
use Rattle.tb_base.specs.TimetableData.{arrival_at, stop_at, MayAlight}
use Rattle.tb_base.specs.Journeys.{walk_secs}
use Rattle.tb_base.specs.Walking.{walk}
use Rattle.tb_laws.proofs.SearchLaws.{best_value_found, whole_search}
use Rattle.segment_queue.specs.Traced.{round_segments}
use Rattle.earliest_query.specs.Parts.{IsPartOf}
use Rattle.earliest_query.proofs.Following.{get_or-inside}
use Rattle.earliest_query.proofs.laws.best_values_at_every_stop.Goals as goal

pub returns : goal.returns
returns c = λ N from leave segments parts are searched sufficient stop v best some_ride.
    let found : IsFound N.table (stop ∷ []) parts v
    = best_value_found N.table N.hops (record { from = from; to = stop ∷ []; leave = leave }) parts
    (whole_search N.table N.hops from leave parts searched) v best sufficient some_ride in
    let p : IsPartOf (round_segments segments) (segment_at parts found.segment) = are (segment_at parts found.segment) (found.segment, found.inside, get_or-inside parts found.segment (segment_at parts found.segment) (record { trip = 0; board = 0; end = 0; round = 0 }) found.inside) in
    record {
      segment = p.of;
      inside = p.inside;
      round = sym p.round ∙ found.round;
      at = found.at;
      onward = omega (arith, found.onward, p.board);
      within = omega (arith, found.within, p.end);
      alights = subst (λ t. MayAlight N.table t found.at) p.trip found.alights;
      target = found.target;
      to = found.to;
      walks = subst (λ t. IsSome (walk N.table (stop_at N.table t found.at) found.target)) p.trip found.walks;
      arrives = subst (λ t. (arrival_at N.table t found.at +ℤ walk_secs N.table (stop_at N.table t found.at) found.target) ≡ v.arrive) p.trip found.arrives;
    }
