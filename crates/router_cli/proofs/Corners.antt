-- The best values between the corners of a made city.
use Rattle.std.proofs.Common.{◌≡◌, ◌∙◌, Bool, ℕ, ◌+◌, ◌*◌, ◌-◌, ◌<◌, ◌≤◌, zero, suc, List, [], ◌∷◌, ◌++◌, false, ap, length, subst, sym, arith}
use Rattle.std.specs.Prelude.{All}
use Rattle.std.proofs.lemmas.List.Elements.{All-cons, All-nil}
use Rattle.tb_base.specs.BestValues.{ChoiceData, QueryData}
use Rattle.tb_base.specs.TimetableData.{TimetableData}
use Rattle.answer_json.specs.Shown.{shown_choices}
use Rattle.edition_store.specs.Editions.{IsNetwork, NetworkData, net_of}
use Rattle.query_gate.specs.Replies.{AreBestChoices}
use Rattle.feed_maker.specs.City.{city, city_stop, stop_number}
use Rattle.feed_maker.proofs.Numbered.{length-made}
use Rattle.command_line.specs.Cities.{IsSide}
use Rattle.edition_build.specs.Reports.{IsReport}
use Rattle.router_cli.specs.Answers.{ShowsKept}
use Rattle.router_cli.specs.Cities.{IsCityText, corner_query}
use Rattle.router_cli.proofs.AnswerLemmas.{kept_choices}

-- the number of a stop of the grid
inside : (last : ℕ) → last * suc last + last < suc last * suc last
inside last = omega arith

first_inside : (n : ℕ) → 2 ≤ n → stop_number n 0 0 < n * n
first_inside zero some = omega arith
first_inside (suc last) some = omega (arith, inside last)

last_inside : (n : ℕ) → 2 ≤ n → stop_number n (n - 1) (n - 1) < n * n
last_inside zero some = omega arith
last_inside (suc last) some =
    let one_less : last ≡ suc last - 1 = omega arith in
    subst (λ k. k * suc last + k < suc last * suc last) one_less (inside last)

is_stop : (T : TimetableData) (n p : ℕ) → T ≡ city n → p < n * n → p < length T.stops
is_stop T n p same below =
    subst (λ (U : TimetableData). p < length U.stops) (sym same) (subst (λ count. p < count) (sym (length-made (city_stop n) (n * n))) below)

pub from_inside : (T : TimetableData) (n : ℕ) → T ≡ city n → IsSide n → All (λ p. p < length T.stops) (stop_number n 0 0 ∷ [])
from_inside T n same side =
    All-cons (λ p. p < length T.stops) (stop_number n 0 0) [] (is_stop T n (stop_number n 0 0) same (first_inside n side.some)) (All-nil (λ p. p < length T.stops))

pub to_inside : (T : TimetableData) (n : ℕ) → T ≡ city n → IsSide n → All (λ p. p < length T.stops) (stop_number n (n - 1) (n - 1) ∷ [])
to_inside T n same side =
    All-cons (λ p. p < length T.stops) (stop_number n (n - 1) (n - 1)) [] (is_stop T n (stop_number n (n - 1) (n - 1)) same (last_inside n side.some)) (All-nil (λ p. p < length T.stops))

-- the text of the best choices over a network
pub choices_shown : (json : Bool) (N : NetworkData) → IsNetwork N → (Q : QueryData) (choices : List ChoiceData) → AreBestChoices (net_of N) Q choices →
    (bytes : List ℕ) → bytes ≡ shown_choices json N.table choices → ShowsKept json N.table Q bytes
choices_shown json N sound Q choices best bytes text =
    record { lines = N.lines; are_lines = sound.lines; choices = choices; best = kept_choices N sound Q choices best; text = text }

-- a city's text from its two parts
pub city_shown : (json : Bool) (n : ℕ) (T : TimetableData) (report choices shown bytes : List ℕ) → T ≡ city n → IsReport json T false report →
    ShowsKept json (city n) (corner_query n) choices → shown ≡ choices → bytes ≡ report ++ shown → IsCityText json n bytes
city_shown json n T report choices shown bytes same reported kept is text = record {
  report = report;
  reported = subst (λ (U : TimetableData). IsReport json U false report) same reported;
  choices = choices;
  shown = kept;
  text = text ∙ ap (λ rest. report ++ rest) is;
}
