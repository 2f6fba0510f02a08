use Rattle.std.proofs.Common.{◌≡◌, ◌≤◌, ◌-◌, ◌++◌, length, take, replicate, ap, ◌∙◌, arith}
use Rattle.std.proofs.lemmas.Grind.{common_steps}
use Rattle.segment_queue.proofs.MarkWords.{grown_marked}
use Rattle.segment_queue.proofs.marks.Marks.make_room.Goals as goal

pub returns-clause-room : goal.returns-clause-room
returns-clause-room c =
    let all : length c.self.inside.words.items ≤ c.args.trips = grind (arith, common_steps) in
    let grown : c.resize.new.self.items ≡ take c.args.trips c.self.inside.words.items ++ replicate (c.args.trips - length c.self.inside.words.items) 4294967295
    = c.in_ok-resize.ensures.items ∙ ap (λ n. take c.args.trips c.self.inside.words.items ++ replicate (c.args.trips - n) 4294967295) c.self.inside.words.ok.0 in
    rw (← c.self.view_is) (grown_marked c.self.inside.floor c.args.trips c.self.inside.words.items c.resize.new.self.items c.self.invariant.0 all grown)
