use Rattle.std.proofs.Common.{◌≡◌, length, arith, get_or, subst}
use Rattle.std.proofs.lemmas.List.Elements.{at_read}
use Rattle.plain_rounds.specs.Labels.{Takes, later}
use Rattle.plain_rounds.proofs.FootpathLemmas.{no_path}
use Rattle.plain_rounds.proofs.OfferLemmas.{by_footpaths}
use Rattle.plain_rounds.proofs.TakesLemmas.{Takes-more}
use Rattle.plain_rounds.proofs.labels.offer_footpaths.Goals as goal

pub loop-path-preserved : goal.loop-path-preserved
loop-path-preserved c =
    Takes-more c.args.labels.now c.loop-path.labels c.offer.new.labels (λ k q x. (q ≡ (get_or c.paths-paths.result.now k no_path).to) × (x ≡ later c.args.label (get_or c.paths-paths.result.now k no_path).secs)) c.loop-path.path-index c.loop-path.invariant
    (at_read c.paths-paths.result.now (λ f. Takes c.loop-path.labels c.offer.new.labels (λ q x. (q ≡ f.to) × (x ≡ later c.args.label f.secs))) c.loop-path.path-index c.path-item.result c.loop-path-test.true c.path-item.is
    (subst (λ y. Takes c.loop-path.labels c.offer.new.labels (λ q x. (q ≡ c.path-item.result.to) × (x ≡ y))) c.later.ensures c.offer.ensures) no_path)

pub returns : goal.returns
returns c =
    let all : c.loop-path.path-index ≡ length c.paths-paths.result.now = omega arith in
    by_footpaths c.args.table.now c.soundness.ensures c.args.from c.requires.from c.args.label c.args.labels.now c.loop-path.labels c.paths-paths.result.now c.paths-paths.ensures.paths c.loop-path.path-index all c.loop-path.invariant
