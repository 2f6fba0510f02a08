use Rattle.late_edit.proofs.Numbers.{nine_digits}
use Rattle.late_edit.proofs.words.nine_digits.Goals as goal

pub returns-clause-most : goal.returns-clause-most
returns-clause-most c = nine_digits c.args.text.now c.number_of.result c.number_of.ensures.number
