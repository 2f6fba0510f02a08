use Rattle.std.proofs.Common.{◌≡◌, ◌∙◌, ap, arith, ◌/◌, ◌%◌, ◌^◌, ◌*◌, ◌<◌, length, get_or, set, bit_or}
use Rattle.std.proofs.lemmas.Grind.{common_steps}
use Rattle.std.proofs.lemmas.List.{get_or_default}
use Rattle.std.specs.Vec.{vec_len}
use Rattle.line_split.specs.Bitmaps.{BitmapData}
use Rattle.line_split.proofs.BitmapLemmas.{marked_one}
use Rattle.line_split.proofs.bitmaps.Bitmap.mark.Goals as goal

pub returns : goal.returns
returns c =
    let word = c.args.place / 64 in
    let bit = 1 * 2 ^ (c.args.place % 64) % 2 ^ 64 in
    let same : vec_len c.self.inside.bits ≡ length c.self.inside.bits.items = grind (arith, common_steps) in
    let within : c.args.place / 64 < length c.self.inside.bits.items = omega (arith, c.if-word-len.false, c.len.ensures, same) in
    let inside : c.args.place / 64 < length c.args.self.now.bits = omega (arith, within, ap (λ (b : BitmapData). length b.bits) c.self.view_is) in
    let bits = ap (λ n. set c.self.inside.bits.items word (bit_or n bit)) (c.index-bits.ensures ∙ get_or_default c.self.inside.bits.items word c.index-bits.result.now 0 within) ∙ ap (λ (b : BitmapData). set b.bits word (bit_or (get_or b.bits word 0) bit)) c.self.view_is in
    marked_one c.args.place c.args.events.now c.args.self.now _ (ap (λ (b : BitmapData). b.event) c.self.view_is) (ap (λ (b : BitmapData). b.departs) c.self.view_is) (ap (λ (b : BitmapData). b.limit) c.self.view_is) inside c.if-not-is_late.ensures.late bits
