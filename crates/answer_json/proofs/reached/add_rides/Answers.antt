use Rattle.std.proofs.lemmas.Fmt.{decimal_digit}
use Rattle.answer_json.proofs.reached.add_rides.Goals as goal

pub returns-then-rides-lt10 : goal.returns-then-rides-lt10
returns-then-rides-lt10 c = rw (decimal_digit c.args.rides c.if-rides-lt10.true) c.add.ensures.added
