use Rattle.std.proofs.Common.{◌≡◌, length, arith, get_or}
use Rattle.std.specs.Prelude.{IsSomeAnd}
use Rattle.std.proofs.lemmas.List.Elements.{at_read}
use Rattle.tb_base.specs.Walking.{walk}
use Rattle.plain_rounds.specs.Labels.{Takes, later}
use Rattle.plain_rounds.proofs.TakesLemmas.{Takes-more, Takes-contained}
use Rattle.plain_rounds.proofs.labels.offer_origins.Goals as goal

pub loop-origin-preserved : goal.loop-origin-preserved
loop-origin-preserved c =
    Takes-more c.args.labels.now c.loop-origin.labels c.offer_walks.new.labels (λ k q x. IsSomeAnd (walk c.args.table.now (get_or c.args.origins.now k 0) q) (λ secs. x ≡ later c.args.start secs)) c.loop-origin.origin-index c.loop-origin.invariant
    (at_read c.args.origins.now (λ o. Takes c.loop-origin.labels c.offer_walks.new.labels (λ q x. IsSomeAnd (walk c.args.table.now o q) (λ secs. x ≡ later c.args.start secs))) c.loop-origin.origin-index c.origin-item.result c.loop-origin-test.true c.origin-item.is c.offer_walks.ensures 0)

pub returns : goal.returns
returns c =
    let all : c.loop-origin.origin-index ≡ length c.args.origins.now = omega arith in
    Takes-contained c.args.labels.now c.loop-origin.labels (λ o q x. IsSomeAnd (walk c.args.table.now o q) (λ secs. x ≡ later c.args.start secs)) c.args.origins.now c.loop-origin.origin-index all c.loop-origin.invariant
