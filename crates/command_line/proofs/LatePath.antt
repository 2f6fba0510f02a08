-- The path behind `late:`.
use Rattle.std.proofs.Common.{◌≡◌, ◌∙◌, ℕ, List, Option, Some, None, Bor, MatchOption, Bool, true, false, if◌then◌else◌, ap, sym, subst, drop, eqb, length}
use Rattle.std.specs.List.{starts_with}
use Rattle.std.specs.Option.{option_map}
use Rattle.std.specs.Prelude.{codes}
use Rattle.std.specs.Str.{IsCharBoundary}
use Rattle.std.specs.Str.Pattern.{FindsTextPrefix, StripsPrefix}
use Rattle.std.proofs.lemmas.Str.Pattern.{starts_text}
use Rattle.command_line.specs.Plans.{late_path}

-- what `strip_prefix` says of `late:`
pub path_behind : (word : List ℕ) (r : Option (Bor (List ℕ))) →
    MatchOption r (FindsTextPrefix (codes "late:") word None) (λ x. StripsPrefix (FindsTextPrefix (codes "late:")) word x.now) → option_map (λ path. path.now) r ≡ late_path word
path_behind word None h =
    ap (λ b. if b then Some (drop 5 word) else None) (starts_text false (codes "late:") word h)
path_behind word (Some x) h =
    ap (λ p. Some p) (h.2 ∙ ap (λ k. drop k word) h.1.0) ∙ ap (λ b. if b then Some (drop 5 word) else None) (starts_text true (codes "late:") word (h.0, h.1, subst (λ k. IsCharBoundary word k) (sym h.1.0) h.1.2))
