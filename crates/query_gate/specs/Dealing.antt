-- Requests in runs, and one reply for each.
use Rattle.std.specs.Prelude.{◌≡◌, ℕ, ◌-◌, ◌≤◌, List, [], ◌∷◌, Option, MatchOption, Vec, flat_map, take, drop, ⊤}
use Rattle.std.specs.declared.alloc.Global.{Global}
use Rattle.query_gate.specs.declared.dealing.Place.{Place}

-- the requests from one place on up to another
abbrev pub run_of : {Q : Type 0} → List Q → ℕ → ℕ → List Q
run_of requests from to = take (to - from) (drop from requests)

-- texts, one behind the other
abbrev pub joined_texts : List (Vec ℕ Global) → List ℕ
joined_texts texts = flat_map (λ v. v.items) texts

-- the runs of the lanes begin here, follow one another, and end there
abbrev pub AreDealt : {D A : Type 0} → ℕ → List (Place D A) → ℕ → Type 0
AreDealt from [] whole = from ≡ whole
AreDealt from (p ∷ places) whole =
    (p.from ≡ from) × (from ≤ p.to) × (p.to ≤ whole) × AreDealt p.to places whole

module _ {Q A : Type 0} (Right : Q → A → Type 0) where
  -- one right reply for each request, in order
  abbrev pub AreReplies : List Q → List A → Type 0
  AreReplies [] [] = ⊤
  AreReplies [] (a ∷ replies) = ⊥
  AreReplies (q ∷ requests) [] = ⊥
  AreReplies (q ∷ requests) (a ∷ replies) = Right q a × AreReplies requests replies

  -- a lane's replies to its run, where there was memory
  abbrev pub HasAnswered : List Q → Option (Vec A Global) → Type 0
  HasAnswered requests replies = MatchOption replies ⊤ (λ v. AreReplies requests v.items)

  -- each lane has answered its run
  abbrev pub AreAnswered : {D : Type 0} → List Q → ℕ → List (Place D A) → ℕ → Type 0
  AreAnswered requests from [] whole = from ≡ whole
  AreAnswered requests from (p ∷ places) whole =
      (p.from ≡ from) × (from ≤ p.to) × (p.to ≤ whole)
      × HasAnswered (run_of requests from p.to) p.replies × AreAnswered requests p.to places whole
