use Rattle.std.proofs.Common.{◌≡◌, ◌∙◌, ◌≤◌, List, ℕ, ap, length, refl, subst, take}
use Rattle.std.specs.Io.KnownBytes.{Appends}
use Rattle.lane_serve.proofs.Matrices.{appends_none, part_of, text_more}
use Rattle.lane_serve.proofs.matrix.write_texts.Goals as goal

pub loop-text-init : goal.loop-text-init
loop-text-init g c = (appends_none (g.K.Sink.written c.args.sink.now), refl)

pub loop-text-preserved : goal.loop-text-preserved
loop-text-preserved g c =
    let l = c.loop-text in
    let written = g.K.Sink.written in
    let now = written c.put_all.new.sink in (
      text_more c.args.texts.now l.text-index c.text-item.result (written c.args.sink.now) (written l.sink) now c.loop-text-test.true c.text-item.is l.invariant.0
          (subst (λ t. Appends (written l.sink) now t) c.as_slice.ensures.value c.in-Ok.ensures.written),
      c.in-Ok.ensures.kept ∙ l.invariant.1,
    )

pub returns-in-Err-clause-prefix : goal.returns-in-Err-clause-prefix
returns-in-Err-clause-prefix g c =
    let l = c.loop-text in
    let written = g.K.Sink.written in
    let now = written c.put_all.new.sink in
    let p = c.in-Err.ensures.prefix in
    part_of c.args.texts.now l.text-index p.0 c.text-item.result (written c.args.sink.now) (written l.sink) now c.loop-text-test.true c.text-item.is
    (subst (λ (t : List ℕ). p.0 ≤ length t) c.as_slice.ensures.value p.1) l.invariant.0 (subst (λ t. Appends (written l.sink) now (take p.0 t)) c.as_slice.ensures.value p.2)
