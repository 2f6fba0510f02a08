use Rattle.trip_table.proofs.paths.read_paths.Goals as goal

pub returns-clause-told : goal.returns-clause-told
returns-clause-told g c = λ yes.
    let good = rw c.as_slice.ensures.value at c.in_ok-given_footpaths.ensures.told in
    (c.in-Ok.rows.items, rw (c.in-Ok.ensures.told yes) good.0, good.1)
