-- Words that name no day of a feed.
use Rattle.std.proofs.Common.{◌≡◌, ◌<◌, ◌≤◌, ℕ, List, [], ◌∷◌, length, map, drop, take, ◌-◌, get_or, None, ◌∙◌, ap, sym, refl, arith, Bor}
use Rattle.std.proofs.lemmas.List.{take_rest}
use Rattle.command_line.specs.DayCommands.{day_request_from}
use Rattle.command_line.specs.LateTrips.{late_request_from}
use Rattle.command_line.specs.Matrices.{matrix_request_from}
use Rattle.command_line.specs.Verifications.{verify_request_from}
use Rattle.command_line.specs.declared.settings.Settings.{Settings}

-- fewer than two words name none
pub too_few : (s : Settings) (name : List ℕ) (words : List (Bor (List ℕ))) → length words < 2 → None ≡ day_request_from s name (map (λ word. word.now) words)
too_few s name [] few = refl
too_few s name (dir ∷ []) few = refl
too_few s name (dir ∷ date ∷ words) few = absurd (omega arith)

-- two words or more are these two, and those behind them
first_two : (words : List (Bor (List ℕ))) (d e : Bor (List ℕ)) → 2 ≤ length words →
    map (λ word. word.now) words ≡ (get_or words 0 d).now ∷ (get_or words 1 e).now ∷ map (λ word. word.now) (drop 2 words)
first_two [] d e many = absurd (omega arith)
first_two (dir ∷ []) d e many = absurd (omega arith)
first_two (dir ∷ date ∷ words) d e many = refl

pub two_or_more : (words : List (Bor (List ℕ))) (d e : Bor (List ℕ)) → 2 ≤ length words →
    map (λ word. word.now) words ≡ (get_or words 0 d).now ∷ (get_or words 1 e).now ∷ map (λ word. word.now) (take (length words - 2) (drop 2 words))
two_or_more words d e many =
    first_two words d e many
    ∙ ap (λ rest. (get_or words 0 d).now ∷ (get_or words 1 e).now ∷ map (λ word. word.now) rest) (sym (take_rest words 2))

-- three words or more are these three, and those behind them
first_three : (words : List (Bor (List ℕ))) (d e f : Bor (List ℕ)) → 3 ≤ length words →
    map (λ word. word.now) words ≡ (get_or words 0 d).now ∷ (get_or words 1 e).now ∷ (get_or words 2 f).now ∷ map (λ word. word.now) (drop 3 words)
first_three [] d e f many = absurd (omega arith)
first_three (dir ∷ []) d e f many = absurd (omega arith)
first_three (dir ∷ date ∷ []) d e f many = absurd (omega arith)
first_three (dir ∷ date ∷ file ∷ words) d e f many = refl

pub three_or_more : (words : List (Bor (List ℕ))) (d e f : Bor (List ℕ)) → 3 ≤ length words →
    map (λ word. word.now) words ≡ (get_or words 0 d).now ∷ (get_or words 1 e).now ∷ (get_or words 2 f).now ∷ map (λ word. word.now) (take (length words - 3) (drop 3 words))
three_or_more words d e f many =
    first_three words d e f many
    ∙ ap (λ rest. (get_or words 0 d).now ∷ (get_or words 1 e).now ∷ (get_or words 2 f).now ∷ map (λ word. word.now) rest) (sym (take_rest words 3))

-- nor one over which a journey is judged
pub too_few_claimed : (s : Settings) (words : List (Bor (List ℕ))) → length words < 2 → None ≡ verify_request_from s (map (λ word. word.now) words)
too_few_claimed s [] few = refl
too_few_claimed s (dir ∷ []) few = refl
too_few_claimed s (dir ∷ date ∷ words) few = absurd (omega arith)

-- nor do fewer than three name one and a file of late trips
pub too_few_late : (s : Settings) (words : List (Bor (List ℕ))) → length words < 3 → None ≡ late_request_from s (map (λ word. word.now) words)
too_few_late s [] few = refl
too_few_late s (dir ∷ []) few = refl
too_few_late s (dir ∷ date ∷ []) few = refl
too_few_late s (dir ∷ date ∷ file ∷ words) few = absurd (omega arith)

-- nor one and a file of origins
pub too_few_asked : (s : Settings) (words : List (Bor (List ℕ))) → length words < 3 → None ≡ matrix_request_from s (map (λ word. word.now) words)
too_few_asked s [] few = refl
too_few_asked s (dir ∷ []) few = refl
too_few_asked s (dir ∷ date ∷ []) few = refl
too_few_asked s (dir ∷ date ∷ file ∷ words) few = absurd (omega arith)
