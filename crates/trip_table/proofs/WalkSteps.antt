-- Steps along a list that says for each place which one is next, and twice as many.
use Rattle.std.proofs.Common.{◌≡◌, ◌≢◌, ◌∙◌, refl, sym, ap, ℕ, zero, suc, ◌+◌, ◌-◌, ◌*◌, ◌<◌, ◌≤◌, ◌==◌, min, List, length, map, get_or, cond, true, false, arith, inl, inr}
use Rattle.std.proofs.lemmas.Bool.{cases_Bool, eqb-true, eq-eqb, ne_eqb}
use Rattle.std.specs.Prelude.{All}
use Rattle.std.proofs.lemmas.List.{get_or-map, get_or_default, length-map}
use Rattle.trip_table.specs.Turns.{place_after, steps_to}

pub steps_most : (bases : List ℕ) (last most place : ℕ) → steps_to bases last most place ≤ most
steps_most bases last zero place = omega arith
steps_most bases last (suc m) place =
    let h = steps_most bases last m (get_or bases place 0) in
    elim (cases_Bool (place == last)) [
      | inl t ↦ rw t (omega arith)
      | inr f ↦ rw f (omega (arith, h))
    ]

pub steps_last : (bases : List ℕ) (last most : ℕ) → steps_to bases last most last ≡ 0
steps_last bases last zero = refl
steps_last bases last (suc m) = let t : (last == last) ≡ true = eq-eqb last last refl in rw t refl

after_last : (bases : List ℕ) (last steps : ℕ) → get_or bases last 0 ≡ last → place_after bases steps last ≡ last
after_last bases last zero e = refl
after_last bases last (suc n) e = ap (place_after bases n) e ∙ after_last bases last n e

-- from a place that leads to itself the last one isn't reached
pub steps_held : (bases : List ℕ) (last held most : ℕ) → get_or bases held 0 ≡ held → held ≢ last → steps_to bases last most held ≡ most
steps_held bases last held zero e n = refl
steps_held bases last held (suc m) e n =
    let f : (held == last) ≡ false = ne_eqb held last n in
    rw f (ap (λ p. suc (steps_to bases last m p)) e ∙ ap suc (steps_held bases last held m e n))

after_more : (bases : List ℕ) (a b place : ℕ) → place_after bases (a + b) place ≡ place_after bases b (place_after bases a place)
after_more bases zero b place = let e : 0 + b ≡ b = omega arith in ap (λ n. place_after bases n place) e
after_more bases (suc a) b place =
    let e : suc a + b ≡ suc (a + b) = omega arith in
    ap (λ n. place_after bases n place) e ∙ after_more bases a b (get_or bases place 0)

steps_more : (bases : List ℕ) (last a b place : ℕ) → get_or bases last 0 ≡ last → steps_to bases last (a + b) place ≡ steps_to bases last a place + steps_to bases last b (place_after bases a place)
steps_more bases last zero b place e = let n : 0 + b ≡ b = omega arith in let z : steps_to bases last b place ≡ 0 + steps_to bases last b place = omega arith in ap (λ n. steps_to bases last n place) n ∙ z
steps_more bases last (suc a) b place e =
    let n : suc a + b ≡ suc (a + b) = omega arith in
    let next = get_or bases place 0 in
    let later = steps_more bases last a b next e in
    ap (λ n. steps_to bases last n place) n
    ∙ elim (cases_Bool (place == last)) [
      | inl t ↦
          let here : place ≡ last = eqb-true place last t in
          let stays : place_after bases a next ≡ last = ap (λ p. place_after bases a (get_or bases p 0)) here ∙ ap (place_after bases a) e ∙ after_last bases last a e in
          let none : steps_to bases last b (place_after bases a next) ≡ 0 = ap (steps_to bases last b) stays ∙ steps_last bases last b in
          rw t (omega (arith, none))
      | inr f ↦ rw f (omega (arith, later))
    ]

-- fewer steps are the same ones, cut
pub steps_min : (bases : List ℕ) (last m d place : ℕ) → steps_to bases last m place ≡ min m (steps_to bases last (m + d) place)
steps_min bases last zero d place = omega arith
steps_min bases last (suc m) d place =
    let n : suc m + d ≡ suc (m + d) = omega arith in
    let later = steps_min bases last m d (get_or bases place 0) in
    elim (cases_Bool (place == last)) [
      | inl t ↦ rw (n, t) (omega arith)
      | inr f ↦ rw (n, f) (omega (arith, later))
    ]

after_within : (bases : List ℕ) (steps place : ℕ) → ((i : ℕ) → i < length bases → get_or bases i 0 < length bases) → place < length bases → place_after bases steps place < length bases
after_within bases zero place h lt = lt
after_within bases (suc n) place h lt = after_within bases n (get_or bases place 0) h (h place lt)

-- so many steps from each place
pub record AreSteps (bases : List ℕ) (last reach : ℕ) (far steps : List ℕ) : Type 0 where
  pub long : length far ≡ length bases
  pub as_long : length steps ≡ length bases
  pub leads : (i : ℕ) → i < length bases → get_or far i 0 ≡ place_after bases reach i
  pub takes : (i : ℕ) → i < length bases → get_or steps i 0 ≡ steps_to bases last reach i

pub one_step : (bases steps : List ℕ) (last : ℕ) → length steps ≡ length bases → ((i : ℕ) → i < length bases → get_or steps i 0 ≡ cond (i == last) 0 1) → AreSteps bases last 1 bases steps
one_step bases steps last long is = record { long = refl; as_long = long; leads = λ i lt. refl; takes = λ i lt. is i lt }

pub twice_as_many : (bases far steps far_new steps_new : List ℕ) (last reach : ℕ) → get_or bases last 0 ≡ last → ((i : ℕ) → i < length bases → get_or bases i 0 < length bases) → AreSteps bases last reach far steps
    → far_new ≡ map (λ i. get_or far i 0) far → length steps_new ≡ length far → ((i : ℕ) → i < length far → get_or steps_new i 0 ≡ get_or steps i 0 + get_or steps (get_or far i 0) 0)
    → AreSteps bases last (reach * 2) far_new steps_new
twice_as_many bases far steps far_new steps_new last reach e within so_far is long each =
    let twice : reach * 2 ≡ reach + reach = omega arith in
    let far_long = so_far.long in
    record {
      long = ap length is ∙ length-map far (λ i. get_or far i 0) ∙ so_far.long;
      as_long = long ∙ so_far.long;
      leads = λ i lt.
          let below : i < length far = omega (arith, far_long) in
          let next = so_far.leads i lt in
          let there = after_within bases reach i within lt in
          ap (λ xs. get_or xs i 0) is ∙ get_or-map (λ i. get_or far i 0) far i 0 0 below ∙ ap (λ p. get_or far p 0) next ∙ so_far.leads (place_after bases reach i) there
          ∙ sym (ap (λ n. place_after bases n i) twice ∙ after_more bases reach reach i);
      takes = λ i lt.
          let below : i < length far = omega (arith, far_long) in
          let next = so_far.leads i lt in
          let there = after_within bases reach i within lt in
          let first = so_far.takes i lt in
          let second : get_or steps (get_or far i 0) 0 ≡ steps_to bases last reach (place_after bases reach i) = ap (λ p. get_or steps p 0) next ∙ so_far.takes (place_after bases reach i) there in
          each i below ∙ ap (λ n. n + get_or steps (get_or far i 0) 0) first ∙ ap (λ n. steps_to bases last reach i + n) second
          ∙ sym (ap (λ n. steps_to bases last n i) twice ∙ steps_more bases last reach reach i e);
    }

-- of enough steps
pub enough_steps : (bases far steps : List ℕ) (last reach most i : ℕ) → AreSteps bases last reach far steps → most ≤ reach → i < length bases → min most (get_or steps i 0) ≡ steps_to bases last most i
enough_steps bases far steps last reach most i h enough lt =
    let d = reach - most in
    let e : reach ≡ most + d = omega (arith, enough) in
    ap (min most) (h.takes i lt ∙ ap (λ n. steps_to bases last n i) e) ∙ sym (steps_min bases last most d i)

-- they lead to places
pub far_within : (bases far steps : List ℕ) (last reach : ℕ) → ((i : ℕ) → i < length bases → get_or bases i 0 < length bases) → AreSteps bases last reach far steps → All (λ place. place < length far) far
far_within bases far steps last reach within h k d lt =
    let long = h.long in
    let below : k < length bases = omega (arith, long) in
    let there = after_within bases reach k within below in
    let at = get_or_default far k d 0 lt ∙ h.leads k below in
    omega (arith, there, at, long)

-- and aren't many
pub steps_few : (bases far steps : List ℕ) (last reach most : ℕ) → AreSteps bases last reach far steps → reach ≤ most → All (λ steps. steps ≤ most) steps
steps_few bases far steps last reach most h few k d lt =
    let long = h.as_long in
    let below : k < length bases = omega (arith, long) in
    let bound = steps_most bases last reach k in
    let at = get_or_default steps k d 0 lt ∙ h.takes k below in
    omega (arith, bound, at)
