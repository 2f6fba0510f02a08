-- A string is read back as it was, by the definitions of the kit's reader.
use Rattle.std.proofs.Common.{◌≡◌, ◌∙◌, ap, ℕ, List, ◌∷◌, ◌++◌, [], Some, sym, append_assoc, append-nil, arith}
use Rattle.json.specs.Json.{document, string}
use Rattle.json.specs.Print.{escape, print_from, quoted}
use Rattle.answer_json.specs.Frames.{string_json}
use Rattle.json.specs.Text.{content, plain}
use Rattle.json.proofs.Printed.Strings.{content-escape}
use Rattle.json.proofs.Printed.Trees.{document-print}

pub whatever_follows : (bytes rest : List ℕ) → content plain (escape bytes ++ 34 ∷ rest) ≡ Some bytes
whatever_follows bytes rest = content-escape bytes rest

pub alone : (bytes : List ℕ) → document (string_json bytes) ≡ Some (string bytes)
unfolding string_json print_from
alone bytes = ap document (sym (append-nil (quoted bytes))) ∙ document-print (string bytes) tt (omega arith)

pub within : (bytes rest : List ℕ) → string_json bytes ++ rest ≡ 34 ∷ escape bytes ++ 34 ∷ rest
unfolding string_json
within bytes rest = ap (λ l. 34 ∷ l) (append_assoc (escape bytes) (34 ∷ []) rest)
