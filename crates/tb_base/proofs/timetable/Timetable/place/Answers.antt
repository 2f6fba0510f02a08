use Rattle.std.proofs.Common.{refl}
use Rattle.tb_base.proofs.Placed.{place_named-is}
use Rattle.tb_base.proofs.timetable.Timetable.place.Goals as goal

pub returns-in-Some-clause-place : goal.returns-in-Some-clause-place
returns-in-Some-clause-place c =
    let named = place_named-is c.self.inside.parts c.args.name.now c.self.inside.stop_names c.self.inside.station_names c.self.invariant.stop_names c.self.invariant.station_names in
    rw (← c.self.view_is, named, ← c.in-Some.ensures) refl

pub returns-in-Some-find-clause-place : goal.returns-in-Some-find-clause-place
returns-in-Some-find-clause-place c =
    let named = place_named-is c.self.inside.parts c.args.name.now c.self.inside.stop_names c.self.inside.station_names c.self.invariant.stop_names c.self.invariant.station_names in
    rw (← c.self.view_is, named, ← c.in-None.ensures, ← c.in-Some-find.ensures) refl

pub returns-in-None-find-clause-place : goal.returns-in-None-find-clause-place
returns-in-None-find-clause-place c =
    let named = place_named-is c.self.inside.parts c.args.name.now c.self.inside.stop_names c.self.inside.station_names c.self.invariant.stop_names c.self.invariant.station_names in
    rw (← c.self.view_is, named, ← c.in-None.ensures, ← c.in-None-find.ensures) refl
