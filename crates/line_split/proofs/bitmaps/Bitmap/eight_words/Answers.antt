use Rattle.std.proofs.Common.{◌∙◌, ap, arith}
use Rattle.line_split.specs.Bitmaps.{BitmapData, IsOut}
use Rattle.line_split.proofs.BitmapLemmas.{own_out, zeros_out}
use Rattle.line_split.proofs.bitmaps.Bitmap.eight_words.Goals as goal

pub returns-then-saturating_sub-lt-WORDS : goal.returns-then-saturating_sub-lt-WORDS
returns-then-saturating_sub-lt-WORDS c = zeros_out (IsOut c.args.self.now) c.args.word

pub returns : goal.returns
returns c =
    own_out c.args.self.now c.as_slice-bits.result.now c.args.word (c.as_slice-bits.ensures.value ∙ ap (λ (b : BitmapData). b.bits) c.self.view_is) (omega (arith, c.if-saturating_sub-lt-WORDS.false, c.saturating_sub.ensures))
