use Rattle.std.proofs.Common.{arith, refl, ap}
use Rattle.router.proofs.main.Goals as goal

pub slice_bounds-end-end : goal.slice_bounds-end-end
slice_bounds-end-end g c = refl

pub status_of-status-requires-clause-none : goal.status_of-status-requires-clause-none
status_of-status-requires-clause-none g c κs = c.new-left_out.ensures.items

pub status_of-status-requires-clause-folder : goal.status_of-status-requires-clause-folder
status_of-status-requires-clause-folder g c κs = omega (arith, c.new-folder.ensures)

pub status_of-status-requires-clause-script : goal.status_of-status-requires-clause-script
status_of-status-requires-clause-script g c κs = omega (arith, ap (λ it. it.1) c.new-script.ensures)

pub status_of-status-requires-clause-out : goal.status_of-status-requires-clause-out
status_of-status-requires-clause-out g c κs = omega (arith, ap (λ it. it.1) c.new-out.ensures)
