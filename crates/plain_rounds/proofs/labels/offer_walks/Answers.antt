use Rattle.std.proofs.Common.{◌≡◌, Some}
use Rattle.tb_base.specs.Walking.{walk}
use Rattle.plain_rounds.proofs.OfferLemmas.{own_and_footpaths, walk-own, walk-other, later-zero, zero-later, IsOfferedIn}
use Rattle.plain_rounds.proofs.TakesLemmas.{Takes-same}
use Rattle.plain_rounds.proofs.labels.offer_walks.Goals as goal

pub returns : goal.returns
returns c =
    own_and_footpaths c.args.table.now c.soundness.ensures c.args.from c.requires.from c.args.label c.args.labels.now c.offer.new.labels c.offer_footpaths.new.labels (Some 0) (λ q. walk c.args.table.now c.args.from q)
    (walk-own c.args.table.now c.args.from) (λ q far. walk-other c.args.table.now c.args.from q far)
    (Takes-same c.args.labels.now c.offer.new.labels (λ p l. (p ≡ c.args.from) × (l ≡ c.args.label)) (λ p l. (p ≡ c.args.from) × IsOfferedIn (Some 0) c.args.label l)
    (λ p l h. (h.0, later-zero c.args.label l h.1)) (λ p l h. (h.0, zero-later c.args.label l h.1)) c.offer.ensures)
    c.offer_footpaths.ensures
