-- What is said of faults as JSON, where there are some.
use Rattle.std.proofs.Common.{◌≡◌, ◌≢◌, ◌∙◌, ap, ℕ, zero, suc, List, [], ◌∷◌, ◌++◌, refl, codes}
use Rattle.std.specs.Prelude.{OnOk, Result, length}
use Rattle.std.specs.Fmt.{decimal}
use Rattle.gtfs_rows.specs.declared.fault.FeedFault.{FeedFault}
use Rattle.answer_text.proofs.Joined.{joined, last_joined}
use Rattle.answer_text.specs.Checks.{all_files}
use Rattle.answer_json.specs.Checks.{left_members, left_out_json, more_json}
use Rattle.answer_json.specs.Frames.{count_json}

more_some : (number more : ℕ) → more ≢ 0 → more_json number more ≡ codes "{\"more\":" ++ decimal more ++ count_json (codes "number") number ++ codes "}\n"
more_some number zero some = absurd (some refl)
more_some number (suc n) some = refl

-- what was added in four steps, of which the last may refuse
pub more_joined : {A E : Type 0} (step : Result A E) (number more n : ℕ) (start a b c end : List ℕ) → more ≢ 0 → n ≡ number → a ≡ start ++ codes "{\"more\":" →
    b ≡ a ++ decimal more → c ≡ b ++ count_json (codes "number") n → OnOk step (end ≡ c ++ codes "}\n") → OnOk step (end ≡ start ++ more_json number more)
more_joined step number more n start a b c end some same p q r e =
    let first = codes "{\"more\":" in
    let count = count_json (codes "number") number in
    let two : b ≡ start ++ (first ++ decimal more) = joined start a b first (decimal more) p q in
    let three : c ≡ start ++ (first ++ decimal more ++ count) =
    joined start b c (first ++ decimal more) count two (r ∙ ap (λ k. b ++ count_json (codes "number") k) same) in
    rw (more_some number more some) (last_joined step start c end (first ++ decimal more ++ count) (codes "}\n") three e)

-- what was added in three steps to nothing
pub left_out_joined : (faults : List FeedFault) (start a b end : List ℕ) → length faults ≢ 0 → start ≡ [] → a ≡ start ++ codes "{\"message\":\"left out\"" →
    b ≡ a ++ left_members faults all_files → end ≡ b ++ codes "}\n" → end ≡ left_out_json faults
left_out_joined [] start a b end some none p q r = absurd (some refl)
left_out_joined (f ∷ faults) start a b end some none p q r =
    let first = codes "{\"message\":\"left out\"" in
    let members = left_members (f ∷ faults) all_files in
    r ∙ ap (λ bytes. bytes ++ codes "}\n") (q ∙ ap (λ bytes. bytes ++ members) (p ∙ ap (λ bytes. bytes ++ first) none))
