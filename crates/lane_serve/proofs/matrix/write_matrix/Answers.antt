use Rattle.lane_serve.proofs.Matrices.{cut_before}
use Rattle.lane_serve.proofs.matrix.write_matrix.Goals as goal

pub returns-in-Err-clause-cut : goal.returns-in-Err-clause-cut
returns-in-Err-clause-cut g c = cut_before c.args.form c.args.edition.now.table c.args.asked.now c.args.origins.now (g.K.Sink.written c.args.sink.now)
