use Rattle.std.proofs.Common.{◌≡◌, ◌∙◌, ◌<◌, ◌≤◌, ℕ, List, length, refl, subst, take, arith, rules}
use Rattle.std.proofs.lemmas.List.{take_all}
use Rattle.lane_serve.specs.Matrix.{HasCutRun, HasRows}
use Rattle.lane_serve.proofs.Matrices.{rows_cut, rows_more, rows_none}
use Rattle.lane_serve.proofs.matrix.write_rows.Goals as goal

pub loop-from-init : goal.loop-from-init
loop-from-init g c =
    let k = c.args.clerk.now in
    (rows_none k.form k.edition.now.table k.asked c.args.origins.now (g.K.Sink.written c.args.sink.now), omega arith, refl, refl)

pub loop-from-preserved : goal.loop-from-preserved
loop-from-preserved g c =
    let k = c.args.clerk.now in
    let origins : List (List ℕ) = c.args.origins.now in
    let l = c.loop-from in
    let i = l.invariant in
    let n = c.write_run.new in
    let to : ℕ = c.run_end-to.result in
    let written = g.K.Sink.written in
    let low : l.from ≤ to = let on = c.run_end-to.ensures.on in omega (arith, on) in
    let run = subst (λ (xs : List (List ℕ)). HasRows k.form k.edition.now.table k.asked xs (written l.sink) (written n.sink)) c.run_of-run.ensures.run c.in-Ok.ensures.written in
    let kept : g.K.Sink.faults n.sink ≡ g.K.Sink.faults l.sink = search rules in (
      rows_more k.form k.edition.now.table k.asked origins l.from to (written c.args.sink.now) (written l.sink) (written n.sink) low c.run_end-to.ensures.most i.0 run,
      c.run_end-to.ensures.most,
      c.in-Ok.ensures.desks ∙ i.2,
      kept ∙ i.3,
    )

pub returns-in-Err-clause-cut : goal.returns-in-Err-clause-cut
returns-in-Err-clause-cut g c =
    let k = c.args.clerk.now in
    let origins : List (List ℕ) = c.args.origins.now in
    let l = c.loop-from in
    let n = c.write_run.new in
    let to : ℕ = c.run_end-to.result in
    let written = g.K.Sink.written in
    let low : l.from ≤ to = let on = c.run_end-to.ensures.on in omega (arith, on) in
    let run = subst (λ (xs : List (List ℕ)). HasCutRun c.in-Err.cause k.form k.edition.now.table k.asked xs (written l.sink) (written n.sink)) c.run_of-run.ensures.run c.in-Err.ensures.cut in
    rows_cut k.form k.edition.now.table k.asked c.in-Err.cause origins l.from to (written c.args.sink.now) (written l.sink) (written n.sink) low c.run_end-to.ensures.most l.invariant.0 run

pub returns-clause-written : goal.returns-clause-written
returns-clause-written g c =
    let k = c.args.clerk.now in
    let origins : List (List ℕ) = c.args.origins.now in
    let l = c.loop-from in
    let written = g.K.Sink.written in
    let all : take l.from origins ≡ origins = take_all l.from origins (let past = c.loop-from-test.false in omega (arith, past)) in
    subst (λ xs. HasRows k.form k.edition.now.table k.asked xs (written c.args.sink.now) (written l.sink)) all l.invariant.0
