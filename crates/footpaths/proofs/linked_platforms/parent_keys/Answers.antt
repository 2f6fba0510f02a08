use Rattle.std.proofs.Common.{◌∙◌, ap, sym, length, ◌++◌, ◌∷◌, [], ℕ, List, map, arith}
use Rattle.std.specs.Prelude.{unwrap_or}
use Rattle.std.proofs.lemmas.List.FromFn.{map-range_with_len_more}
use Rattle.footpaths.specs.Stops.{station_of}
use Rattle.footpaths.specs.Footpaths.{numbers}
use Rattle.footpaths.proofs.linked_platforms.parent_keys.Goals as goal

pub loop-stop-preserved : goal.loop-stop-preserved
loop-stop-preserved c =
    let stops = c.args.stops.now in
    let f = λ (p : ℕ). unwrap_or (station_of stops p) (length stops) in
    let key = rw (c.station_of.ensures, c.row_count-none.ensures) at c.unwrap_or.ensures in
    c.in_ok-push.ensures.items ∙ ap (λ (ys : List ℕ). ys ++ c.unwrap_or.result ∷ []) c.loop-stop.invariant ∙ ap (λ (x : ℕ). map f (numbers c.loop-stop.stop) ++ x ∷ []) key
    ∙ sym (map-range_with_len_more f 0 c.loop-stop.stop c.loop-stop.stop (omega arith))
