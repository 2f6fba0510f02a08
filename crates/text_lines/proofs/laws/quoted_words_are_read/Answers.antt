use Rattle.text_lines.proofs.Quoted as law
use Rattle.text_lines.proofs.laws.quoted_words_are_read.Goals as goal

pub returns : goal.returns
returns c = law.are_read
