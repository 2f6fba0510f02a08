use Rattle.std.proofs.Common.{◌∙◌, subst, take}
use Rattle.std.specs.Io.KnownBytes.{Appends}
use Rattle.lane_serve.proofs.matrix.write_head.Goals as goal

pub returns-in-Ok-put_all-clause-written : goal.returns-in-Ok-put_all-clause-written
returns-in-Ok-put_all-clause-written g c =
    let written = g.K.Sink.written in
    subst (λ text. Appends (written c.args.sink.now) (written c.put_all.new.sink) text) (c.as_slice.ensures.value ∙ c.in-Ok.ensures) c.in-Ok-put_all.ensures.written

pub returns-clause-cut : goal.returns-clause-cut
returns-clause-cut g c =
    let written = g.K.Sink.written in
    let p = c.in-Err-WriteFault.ensures.prefix in
    (p.0, subst (λ text. Appends (written c.args.sink.now) (written c.put_all.new.sink) (take p.0 text)) (c.as_slice.ensures.value ∙ c.in-Ok.ensures) p.2)
