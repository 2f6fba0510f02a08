-- The lines of outcomes, one item after another.
use Rattle.std.proofs.Common.{◌≡◌, ◌∙◌, sym, ap, ℕ, ◌+◌, ◌<◌, List, [], ◌∷◌, ◌++◌, length, take, get_or, append_assoc, arith}
use Rattle.std.proofs.lemmas.List.{append-nil, length-take, take_more}
use Rattle.edition_build.specs.declared.plan.Outcome.{Outcome}
use Rattle.edition_build.specs.Plans.{ItemData}
use Rattle.edition_build.specs.OutcomeTexts.{outcome_lines}

module _ (line_of : List ℕ → Outcome → List ℕ) where
  outcomes_snoc : (xs : List ItemData) (os : List Outcome) (x : ItemData) (o : Outcome) → length os ≡ length xs
      → outcome_lines line_of (xs ++ x ∷ []) (os ++ o ∷ []) ≡ outcome_lines line_of xs os ++ line_of x.word o
  outcomes_snoc [] [] x o e = append-nil (line_of x.word o)
  outcomes_snoc [] (p ∷ os) x o e = absurd (omega arith)
  outcomes_snoc (y ∷ xs) [] x o e = absurd (omega arith)
  outcomes_snoc (y ∷ xs) (p ∷ os) x o e =
      ap (λ t. line_of y.word p ++ t) (outcomes_snoc xs os x o (omega arith)) ∙ sym (append_assoc (line_of y.word p) (outcome_lines line_of xs os) (line_of x.word o))

  -- one line more
  pub outcomes_told : (plan : List ItemData) (outcomes : List Outcome) (i : ℕ) (d : ItemData) (e : Outcome) (start mid end line : List ℕ) → length outcomes ≡ length plan → i < length plan
      → mid ≡ start ++ outcome_lines line_of (take i plan) (take i outcomes) → line ≡ line_of (ItemData.word (get_or plan i d)) (get_or outcomes i e) → end ≡ mid ++ line
      → end ≡ start ++ outcome_lines line_of (take (i + 1) plan) (take (i + 1) outcomes)
  outcomes_told plan outcomes i d e start mid end line long lt before is added =
      let short : length (take i outcomes) ≡ length (take i plan) = omega (arith, length-take i outcomes, length-take i plan) in
      let inside : i < length outcomes = omega arith in
      let more : outcome_lines line_of (take (i + 1) plan) (take (i + 1) outcomes) ≡ outcome_lines line_of (take i plan) (take i outcomes) ++ line
      = ap (λ xs. outcome_lines line_of xs (take (i + 1) outcomes)) (take_more plan i d lt)
      ∙ ap (outcome_lines line_of (take i plan ++ get_or plan i d ∷ [])) (take_more outcomes i e inside)
      ∙ outcomes_snoc (take i plan) (take i outcomes) (get_or plan i d) (get_or outcomes i e) short
      ∙ ap (λ t. outcome_lines line_of (take i plan) (take i outcomes) ++ t) (sym is) in
      added ∙ ap (λ t. t ++ line) before ∙ append_assoc start (outcome_lines line_of (take i plan) (take i outcomes)) line ∙ ap (λ t. start ++ t) (sym more)
