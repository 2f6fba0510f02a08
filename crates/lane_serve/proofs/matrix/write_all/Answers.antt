use Rattle.lane_serve.proofs.Matrices.{cut_at_head, headed, headed_cut}
use Rattle.lane_serve.proofs.matrix.write_all.Goals as goal

pub returns-in-Ok-write_rows-clause-written : goal.returns-in-Ok-write_rows-clause-written
returns-in-Ok-write_rows-clause-written g c =
    let k = c.args.clerk.now in
    let written = g.K.Sink.written in
    headed k.form k.edition.now.table k.asked c.args.origins.now (written c.args.sink.now) (written c.write_head.new.sink) (written c.write_rows.new.sink) c.in-Ok.ensures.written c.in-Ok-write_rows.ensures.written

pub returns-in-Err-write_rows-clause-cut : goal.returns-in-Err-write_rows-clause-cut
returns-in-Err-write_rows-clause-cut g c =
    let k = c.args.clerk.now in
    let written = g.K.Sink.written in
    headed_cut k.form k.edition.now.table k.asked c.in-Err-write_rows.cause c.args.origins.now (written c.args.sink.now) (written c.write_head.new.sink) (written c.write_rows.new.sink) c.in-Ok.ensures.written c.in-Err-write_rows.ensures.cut

pub returns-in-Err-clause-cut : goal.returns-in-Err-clause-cut
returns-in-Err-clause-cut g c =
    let k = c.args.clerk.now in
    let written = g.K.Sink.written in
    cut_at_head k.form k.edition.now.table k.asked c.in-Err.cause c.args.origins.now (written c.args.sink.now) (written c.write_head.new.sink) c.in-Err.ensures.cut
