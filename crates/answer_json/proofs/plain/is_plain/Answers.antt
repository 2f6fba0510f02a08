use Rattle.json.proofs.Printed.Plain.{escape_on_plain}
use Rattle.answer_json.proofs.plain.is_plain.Goals as goal

pub returns-then-bytes-lt8 : goal.returns-then-bytes-lt8
returns-then-bytes-lt8 c = escape_on_plain c.plain_short.result c.args.bytes.now c.plain_short.ensures

pub returns-else-bytes-lt8 : goal.returns-else-bytes-lt8
returns-else-bytes-lt8 c = escape_on_plain c.plain_long.result c.args.bytes.now c.plain_long.ensures
