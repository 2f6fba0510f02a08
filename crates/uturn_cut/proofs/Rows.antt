-- The transfers of a trip without the U-turns.
use Rattle.std.proofs.Common.{◌≡◌, ◌∙◌, ap, refl, ℕ, Bool, true, false, cond, List, [], ◌∷◌, ◌++◌, length, map}
use Rattle.std.specs.Prelude.{filter, flat_map, not}
use Rattle.std.proofs.lemmas.List.Elements.{filter-append}
use Rattle.tb_base.specs.declared.transfer.Hop.{Hop}
use Rattle.tb_base.specs.TimetableData.{TimetableData, events_of}
use Rattle.tb_base.specs.Transfers.{candidates, candidates_without_u_turns, numbers_down, transfers_of}
use Rattle.uturn_cut.specs.UTurns.{is_u_turn_row}

pub filter-map : {X Y : Type 0} (p : Y → Bool) (f : X → Y) (xs : List X) → filter p (map f xs) ≡ map f (filter (λ x. p (f x)) xs)
filter-map p f [] = refl
filter-map p f (x ∷ xs) = by_test (filter-map p f xs) (p (f x))
  where
    by_test : filter p (map f xs) ≡ map f (filter (λ x. p (f x)) xs) → (b : Bool) → cond b (f x ∷ filter p (map f xs)) (filter p (map f xs)) ≡ map f (cond b (x ∷ filter (λ x. p (f x)) xs) (filter (λ x. p (f x)) xs))
    by_test more true = ap (λ ys. f x ∷ ys) more
    by_test more false = more

filter-flat_map : {X Y : Type 0} (p : Y → Bool) (f : X → List Y) (xs : List X) → filter p (flat_map f xs) ≡ flat_map (λ x. filter p (f x)) xs
filter-flat_map p f [] = refl
filter-flat_map p f (x ∷ xs) = filter-append p (f x) (flat_map f xs) ∙ ap (λ ys. filter p (f x) ++ ys) (filter-flat_map p f xs)

flat_map-each : {X Y : Type 0} (f g : X → List Y) (xs : List X) → ((x : X) → f x ≡ g x) → flat_map f xs ≡ flat_map g xs
flat_map-each f g [] h = refl
flat_map-each f g (x ∷ xs) h = (λ k. h x k ++ flat_map-each f g xs h k)

pub candidates_cut : (T : TimetableData) (lines : List (List ℕ)) (t : ℕ) → filter (λ r. not (is_u_turn_row T r)) (transfers_of T (candidates T lines t) t) ≡ transfers_of T (candidates_without_u_turns T lines t) t
candidates_cut T lines t =
    filter-flat_map (λ r. not (is_u_turn_row T r)) (λ i. map (λ (h : Hop). record { trip = t; at = i; to_trip = h.trip; to_at = h.at }) (candidates T lines t i)) (numbers_down (length (events_of T t)))
    ∙ flat_map-each _ (λ i. map (λ (h : Hop). record { trip = t; at = i; to_trip = h.trip; to_at = h.at }) (candidates_without_u_turns T lines t i)) (numbers_down (length (events_of T t)))
    (λ i. filter-map (λ r. not (is_u_turn_row T r)) (λ (h : Hop). record { trip = t; at = i; to_trip = h.trip; to_at = h.at }) (candidates T lines t i))
