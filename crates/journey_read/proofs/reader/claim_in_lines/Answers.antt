use Rattle.journey_read.proofs.Reading.{refused_at}
use Rattle.journey_read.proofs.reader.claim_in_lines.Goals as goal

pub returns-in-Err : goal.returns-in-Err
returns-in-Err c =
    refused_at c.args.table.now c.args.bytes.now c.loop-cut.text.now c.in-Some.cut.line.now c.in-Some.cut.rest.now c.loop-cut.reader c.in-Err.refused c.loop-cut.invariant c.in-Some.ensures.lines c.in-Err.ensures.reads
