use Rattle.router_cli.proofs.Claims.{claim_given}
use Rattle.router_cli.proofs.verifying.claim_from.Goals as goal

pub returns-in-Ok-read_claim-clause-claim : goal.returns-in-Ok-read_claim-clause-claim
returns-in-Ok-read_claim-clause-claim g c =
    claim_given c.args.json c.args.table.now (g.S.Source.left c.args.source.now) c.in-Ok.bytes.items c.as_slice.result.now c.in-Ok-read_claim.claimed c.in-Ok.ensures.whole c.as_slice.ensures.value c.in-Ok-read_claim.ensures.claim

pub returns-in-Ok-read_claim-clause-count : goal.returns-in-Ok-read_claim-clause-count
returns-in-Ok-read_claim-clause-count g c = c.in-Ok-read_claim.ensures.count
