use Rattle.std.proofs.Common.{arith, subst, sym}
use Rattle.json.specs.Value.{value_view}
use Rattle.tb_base.specs.Refusals.{Yields}
use Rattle.journey_read.proofs.JsonReading.{claimed, is_json, no_claim, no_json}
use Rattle.journey_read.proofs.json_claim.read_json_journey.Goals as goal

pub returns-in-Ok-clause-claim : goal.returns-in-Ok-clause-claim
returns-in-Ok-clause-claim c =
    let bytes = c.args.bytes.now in
    let j = value_view c.in-Ok.claim in
    let told = is_json bytes j c.in-Ok.ensures.ok.0 c.in-Ok.ensures.ok.1 in
    subst (λ meant. Yields c.json_claim.result (λ claim. claim) meant) (sym (claimed c.args.table.now bytes (omega (arith, c.if-bytes-gt-MOST_BYTES.false)) j told)) c.json_claim.ensures.claim

pub returns-in-Err-Invalid-clause-claim : goal.returns-in-Err-Invalid-clause-claim
returns-in-Err-Invalid-clause-claim c =
    no_claim c.args.table.now c.args.bytes.now (omega (arith, c.if-bytes-gt-MOST_BYTES.false)) (no_json c.args.bytes.now (c.from_slice.ensures.invalid (rw c.in-Err-Invalid.field-0-is at c.in-Err-Invalid.is)))
