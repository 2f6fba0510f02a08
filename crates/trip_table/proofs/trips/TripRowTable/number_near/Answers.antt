use Rattle.std.proofs.Common.{◌≡◌, ◌∙◌, ap, List, ℕ, length, map, arith}
use Rattle.std.proofs.lemmas.Grind.{common_steps}
use Rattle.std.specs.Vec.{vec_len}
use Rattle.std.specs.Prelude.{bytes_eq, position, Option, unwrap_or}
use Rattle.tb_base.proofs.Lists.{position-map}
use Rattle.gtfs_rows.specs.TripsFile.{TripData}
use Rattle.trip_table.specs.References.{trip_id, trip_number}
use Rattle.trip_table.proofs.trips.TripRowTable.number_near.Goals as goal

number_is : (o : Option ℕ) (id : List ℕ) (ids : List (List ℕ)) (rows : List TripData) → o ≡ position (bytes_eq id) ids → ids ≡ map trip_id rows → unwrap_or o (length rows) ≡ trip_number rows id
number_is o id ids rows e n = ap (λ (p : Option ℕ). unwrap_or p (length rows)) (e ∙ ap (position (bytes_eq id)) n ∙ position-map (bytes_eq id) trip_id rows)

pub returns-in-Some : goal.returns-in-Some
returns-in-Some c = rw (← c.self.view_is) (number_is _ c.args.id.now _ _ c.in-Some.ensures c.self.invariant.0)

pub returns-in-None : goal.returns-in-None
returns-in-None c =
    let same : vec_len c.self.inside.rows ≡ length c.self.inside.rows.items = grind (arith, common_steps) in
    rw (← c.self.view_is) (c.len.ensures ∙ same ∙ number_is _ c.args.id.now _ _ c.in-None.ensures c.self.invariant.0)
