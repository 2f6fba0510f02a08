-- What is said of faults, where there are some.
use Rattle.std.proofs.Common.{◌≡◌, ◌≢◌, ◌∙◌, ap, ℕ, zero, suc, List, [], ◌∷◌, ◌++◌, refl, codes, false}
use Rattle.std.specs.Prelude.{OnOk, Result, length}
use Rattle.gtfs_rows.specs.declared.fault.FeedFault.{FeedFault}
use Rattle.answer_text.proofs.Joined.{joined, last_joined}
use Rattle.answer_text.specs.Builds.{labelled}
use Rattle.answer_text.specs.Checks.{all_files, left_out_text, left_parts, more_text}

pub more_some : (number more : ℕ) → more ≢ 0 → more_text number more ≡ labelled (codes "and ") more ++ labelled (codes " more of number ") number ++ codes "\n"
more_some number zero some = absurd (some refl)
more_some number (suc n) some = refl

-- what was added in three steps, of which the last may refuse
pub more_joined : {A E : Type 0} (step : Result A E) (number more n m : ℕ) (start a b c : List ℕ) → more ≢ 0 → n ≡ more → m ≡ number → a ≡ start ++ labelled (codes "and ") n →
    b ≡ a ++ labelled (codes " more of number ") m → OnOk step (c ≡ b ++ codes "\n") → OnOk step (c ≡ start ++ more_text number more)
more_joined step number more n m start a b c some e f p q r =
    let first = labelled (codes "and ") more in
    let second = labelled (codes " more of number ") number in
    let both : b ≡ start ++ (first ++ second) =
    joined start a b first second (p ∙ ap (λ k. start ++ labelled (codes "and ") k) e) (q ∙ ap (λ k. a ++ labelled (codes " more of number ") k) f) in
    rw (more_some number more some) (last_joined step start b c (first ++ second) (codes "\n") both r)

-- what was added in three steps to nothing
pub left_out_joined : (faults : List FeedFault) (start a b c : List ℕ) → length faults ≢ 0 → start ≡ [] → a ≡ start ++ codes "router: left out " →
    b ≡ a ++ left_parts false faults all_files → c ≡ b ++ codes " (see check)\n" → c ≡ left_out_text faults
left_out_joined [] start a b c some none p q r = absurd (some refl)
left_out_joined (f ∷ faults) start a b c some none p q r =
    let first = codes "router: left out " in
    let parts = left_parts false (f ∷ faults) all_files in
    r ∙ ap (λ bytes. bytes ++ codes " (see check)\n") (q ∙ ap (λ bytes. bytes ++ parts) (p ∙ ap (λ bytes. bytes ++ first) none))
