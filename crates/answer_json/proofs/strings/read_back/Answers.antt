use Rattle.answer_json.proofs.ReadBack.{alone, whatever_follows, within}
use Rattle.answer_json.proofs.strings.read_back.Goals as goal

pub returns-clause-alone : goal.returns-clause-alone
returns-clause-alone c bytes = alone bytes

pub returns-clause-within : goal.returns-clause-within
returns-clause-within c bytes rest = within bytes rest

pub returns-clause-content : goal.returns-clause-content
returns-clause-content c bytes rest = whatever_follows bytes rest
