use Rattle.router.proofs.status_of.Goals as goal

pub route-requires-clause-none : goal.route-requires-clause-none
route-requires-clause-none g c κs within = c.requires.none

pub route-requires-clause-folder : goal.route-requires-clause-folder
route-requires-clause-folder g c κs within = c.requires.folder

pub route-requires-clause-script : goal.route-requires-clause-script
route-requires-clause-script g c κs within = c.requires.script

pub route-requires-clause-out : goal.route-requires-clause-out
route-requires-clause-out g c κs within = c.requires.out
