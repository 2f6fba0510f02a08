use Rattle.std.proofs.Common.{◌≡◌, [], ◌∷◌, drop, map, ◌++◌}
use Rattle.command_line.proofs.matrix.names_behind.Given as goal

abbrev pub invariant-loop-word : goal.invariant-loop-word
invariant-loop-word l = [] ∷ map (λ word. word.now) l.words ≡ l.names.items ++ map (λ word. word.now) (drop l.word-index l.words)
