use Rattle.std.proofs.Common.{bit_or}
use Rattle.std.specs.Simd.Lanes.{zip2}
use Rattle.line_split.specs.Bitmaps.{IsOutBy}
use Rattle.line_split.proofs.BitmapLemmas.{all_out, words_more, zeros_out}
use Rattle.line_split.proofs.bitmaps.are_out.Goals as goal

pub loop-n-init : goal.loop-n-init
loop-n-init c = zeros_out (IsOutBy c.args.bitmaps.now c.args.picked.now) c.args.word

pub returns-then-out : goal.returns-then-out
returns-then-out c =
    all_out (IsOutBy c.args.bitmaps.now c.args.picked.now) c.args.word _ (zip2 bit_or c.loop-n.out c.eight_words-out.result)
    (words_more c.args.bitmaps.now c.args.picked.now c.loop-n.n c.args.word c.index-bitmaps-picked.result c.loop-n.out c.eight_words-out.result c.requires c.loop-n-test.true c.index-bitmaps-picked.is c.loop-n.invariant c.eight_words-out.ensures)
    c.if-out.true

pub loop-n-preserved : goal.loop-n-preserved
loop-n-preserved c =
    words_more c.args.bitmaps.now c.args.picked.now c.loop-n.n c.args.word c.index-bitmaps-picked.result c.loop-n.out c.eight_words-out.result c.requires c.loop-n-test.true c.index-bitmaps-picked.is c.loop-n.invariant c.eight_words-out.ensures
