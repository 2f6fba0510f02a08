use Rattle.std.proofs.Common.{◌≡◌, drop, []}
use Rattle.text_lines.specs.LineWords.{Between, reading, words_from}
use Rattle.text_lines.proofs.words.line_words.Given as goal

abbrev pub invariant-loop-byte : goal.invariant-loop-byte
invariant-loop-byte l =
    words_from (record { words = []; within = Between }) l.fn.line
    ≡ words_from (reading l.reader) (drop l.byte-index l.fn.line)
