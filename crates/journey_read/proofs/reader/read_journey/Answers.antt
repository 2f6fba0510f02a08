use Rattle.std.proofs.Common.{arith}
use Rattle.journey_read.proofs.ClaimLegs.{few_claimed}
use Rattle.journey_read.proofs.reader.read_journey.Goals as goal

pub returns-clause-count : goal.returns-clause-count
returns-clause-count c = few_claimed c.in_ok-indexed.indexed c.args.bytes.now c.claim_in_lines.result _ (omega (arith, c.if-bytes-gt-MOST_BYTES.false)) c.claim_in_lines.ensures
