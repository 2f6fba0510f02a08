-- Steps that are traced back.
use Rattle.std.proofs.Common.{◌≡◌, ℕ, ◌+◌, ◌<◌, List, [], ◌∷◌, ◌++◌, map, reverse, refl, sym, ap, subst, ◌∙◌, arith, Option, None, Some}
use Rattle.std.specs.Prelude.{slice_get, IfSome}
use Rattle.std.proofs.lemmas.List.{map_push, map-append, append_assoc, append-nil, reverse-append}
use Rattle.tb_base.specs.Journeys.{Ride}
use Rattle.plain_rounds.specs.declared.arrivals.PlainRide.{PlainRide}
use Rattle.plain_rounds.specs.Rides.{IsTrace}
use Rattle.plain_rounds.specs.Rounds.{ride_of}

-- how many places there may be up to this one
abbrev pub height : Option ℕ → ℕ
height None = 0
height (Some n) = n + 1

-- the rides have been traced back to a place, from which the rest of the trace goes on
pub record IsTraced (ridden : List PlainRide) (last : Option ℕ) (rides : List PlainRide) (at : Option ℕ) : Type 0 where
  pub rest : List Ride
  pub trace : IsTrace ridden rest at
  pub all : (back : List Ride) → IsTrace ridden back last → back ≡ map ride_of rides ++ rest

-- a place has one trace
pub trace-unique : (ridden : List PlainRide) (xs ys : List Ride) (o : Option ℕ) → IsTrace ridden xs o → IsTrace ridden ys o → xs ≡ ys
trace-unique ridden [] [] o h k = refl
trace-unique ridden [] (y ∷ ys) None h k = absurd k
trace-unique ridden [] (y ∷ ys) (Some n) h k = absurd h
trace-unique ridden (x ∷ xs) [] None h k = absurd h
trace-unique ridden (x ∷ xs) [] (Some n) h k = absurd k
trace-unique ridden (x ∷ xs) (y ∷ ys) None h k = absurd h
trace-unique ridden (x ∷ xs) (y ∷ ys) (Some n) h k =
    let same : h.step ≡ k.step = same_step (sym h.is ∙ k.is) in
    let rest : xs ≡ ys = trace-unique ridden xs ys k.step.before (subst (λ (s : PlainRide). IsTrace ridden xs s.before) same h.rest) k.rest in
    let head : x ≡ y = h.ride ∙ ap ride_of same ∙ sym k.ride in
    cc
  where
    same_step : {s t : PlainRide} → Some s ≡ Some t → s ≡ t
    same_step e = cc

pub traced-none : (ridden : List PlainRide) (last : Option ℕ) (back : List Ride) → IsTrace ridden back last → IsTraced ridden last [] last
traced-none ridden last back h = record { rest = back; trace = h; all = λ other k. trace-unique ridden other back last k h }

-- one step further back
module _ (ridden : List PlainRide) (last : Option ℕ) (rides : List PlainRide) (place : ℕ) (s : PlainRide) (is : slice_get ridden place ≡ Some s) where
  parts : (rest : List Ride) → IsTrace ridden rest (Some place) → (xs : List Ride) × (rest ≡ ride_of s ∷ xs) × IsTrace ridden xs s.before × IfSome s.before (λ n. n < place)
  parts [] h = absurd h
  parts (r ∷ xs) h = let same : h.step ≡ s = same_step (sym h.is ∙ is) in (xs, ap (λ (q : Ride). q ∷ xs) (h.ride ∙ ap ride_of same), subst (λ (x : PlainRide). IsTrace ridden xs x.before) same h.rest, subst (λ (x : PlainRide). IfSome x.before (λ n. n < place)) same h.falls)
    where
      same_step : {s t : PlainRide} → Some s ≡ Some t → s ≡ t
      same_step e = cc

  pub traced-more : IsTraced ridden last rides (Some place) → IsTraced ridden last (rides ++ s ∷ []) s.before
  traced-more t =
      let p = parts t.rest t.trace in
      record {
        rest = p.0;
        trace = p.2;
        all = λ back h. t.all back h ∙ ap (λ (xs : List Ride). map ride_of rides ++ xs) p.1 ∙ sym (append_assoc (map ride_of rides) (ride_of s ∷ []) p.0) ∙ ap (λ (xs : List Ride). xs ++ p.0) (sym (map_push ride_of rides s));
      }

  pub traced-falls : IsTraced ridden last rides (Some place) → height s.before < place + 1
  traced-falls t = falls s.before (parts t.rest t.trace).3
    where
      falls : (o : Option ℕ) → IfSome o (λ n. n < place) → height o < place + 1
      falls None h = omega arith
      falls (Some n) h = omega arith

-- a place of a trace is in the list
pub traced-inside : (ridden : List PlainRide) (last : Option ℕ) (rides : List PlainRide) (place : ℕ) → IsTraced ridden last rides (Some place) → (s : PlainRide) × (slice_get ridden place ≡ Some s)
traced-inside ridden last rides place t = by_rest t.rest t.trace
  where
    by_rest : (rest : List Ride) → IsTrace ridden rest (Some place) → (s : PlainRide) × (slice_get ridden place ≡ Some s)
    by_rest [] h = absurd h
    by_rest (r ∷ xs) h = (h.step, h.is)

-- at the end of the trace all rides are there
pub traced-all : (ridden : List PlainRide) (last : Option ℕ) (rides : List PlainRide) → IsTraced ridden last rides None → (back : List Ride) → IsTrace ridden back last → back ≡ map ride_of rides
traced-all ridden last rides t back h = t.all back h ∙ ap (λ (xs : List Ride). map ride_of rides ++ xs) (nothing t.rest t.trace) ∙ append-nil (map ride_of rides)
  where
    nothing : (rest : List Ride) → IsTrace ridden rest None → rest ≡ []
    nothing [] h = refl
    nothing (r ∷ xs) h = absurd h

pub map-reverse : {A B : Type 0} (f : A → B) (xs : List A) → map f (reverse xs) ≡ reverse (map f xs)
map-reverse f [] = refl
map-reverse f (x ∷ xs) = ap (map f) (reverse-append (x ∷ []) xs) ∙ map-append f (reverse xs) (x ∷ []) ∙ ap (λ ys. ys ++ f x ∷ []) (map-reverse f xs) ∙ sym (reverse-append (f x ∷ []) (map f xs))
