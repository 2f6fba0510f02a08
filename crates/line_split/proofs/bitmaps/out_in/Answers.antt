use Rattle.line_split.proofs.BitmapLemmas.{out_step}
use Rattle.line_split.proofs.bitmaps.out_in.Goals as goal

pub returns-then-out : goal.returns-then-out
returns-then-out c =
    out_step c.args.bitmaps.now c.args.picked.now c.loop-n.n c.args.word c.loop-n.out c.word-out.result c.index-bitmaps-picked.result c.requires c.loop-n-test.true c.index-bitmaps-picked.is c.word-out.ensures c.loop-n.invariant

pub loop-n-preserved : goal.loop-n-preserved
loop-n-preserved c =
    out_step c.args.bitmaps.now c.args.picked.now c.loop-n.n c.args.word c.loop-n.out c.word-out.result c.index-bitmaps-picked.result c.requires c.loop-n-test.true c.index-bitmaps-picked.is c.word-out.ensures c.loop-n.invariant
