use Rattle.std.proofs.Common.{◌≡◌, length, rules}
use Rattle.std.proofs.Math.Seq.{take-append_seam}
use Rattle.lane_serve.proofs.run.serve_open.Goals as goal

pub served_of-requires-clause-run : goal.served_of-requires-clause-run
served_of-requires-clause-run g c =
    let n : c.args.seats.len ≡ length c.sides-published.new.seats = let r = c.in-Ok.ensures.run.len in search rules in
    rw (n, take-append_seam) c.in-Ok.ensures.run
