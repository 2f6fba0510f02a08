-- Ranked rules of the rows in any order give what the fitting rows of the lowest rank say.
use Rattle.std.proofs.Common.{◌≡◌, ◌∙◌, sym, ap, refl, ℕ, ◌+◌, List, [], ◌∷◌, map, fold, Bool, true, false, ◌&&◌, ◌||◌, cond, Option, Some, None, max, arith, inl, inr, ◌⊎◌}
use Rattle.std.specs.Prelude.{◌==◌, filter}
use Rattle.std.proofs.lemmas.Bool.{cases_Bool}
use Rattle.gtfs_rows.specs.StopsFile.{StopData}
use Rattle.footpaths.specs.declared.found.Found.{Found}
use Rattle.footpaths.specs.declared.found.Found.TheVariants as found
use Rattle.footpaths.specs.declared.found.Link.{Link}
use Rattle.footpaths.specs.Footpaths.{Rule, Unsaid, Forbidden, Takes, takes_in, rank, stations_in, rule_of, longer, longest, first_said, secs_of}
use Rattle.footpaths.specs.BestRules.{better, marked, marked_by, ruled, ranked_secs}

longer_comm : (a b : Rule) → longer a b ≡ longer b a
longer_comm Unsaid Unsaid = refl
longer_comm Unsaid Forbidden = refl
longer_comm Unsaid (Takes b) = refl
longer_comm Forbidden Unsaid = refl
longer_comm Forbidden Forbidden = refl
longer_comm Forbidden (Takes b) = refl
longer_comm (Takes a) Unsaid = refl
longer_comm (Takes a) Forbidden = refl
longer_comm (Takes a) (Takes b) = let e : max a b ≡ max b a = omega arith in ap Takes e

longer_assoc : (a b c : Rule) → longer (longer a b) c ≡ longer a (longer b c)
longer_assoc Unsaid b c = refl
longer_assoc Forbidden b c = refl
longer_assoc (Takes a) Unsaid c = refl
longer_assoc (Takes a) Forbidden c = refl
longer_assoc (Takes a) (Takes b) Unsaid = refl
longer_assoc (Takes a) (Takes b) Forbidden = refl
longer_assoc (Takes a) (Takes b) (Takes c) = let e : max (max a b) c ≡ max a (max b c) = omega arith in ap Takes e

longer_none : (a : Rule) → longer a Unsaid ≡ a
longer_none Unsaid = refl
longer_none Forbidden = refl
longer_none (Takes a) = refl

-- one row more of a rank
rule_0 : (a b c : Rule) (s : Option ℕ) → Some (better (ruled a b c) 0 s) ≡ ruled (longer a (rule_of s)) b c
rule_0 Forbidden b c s = refl
rule_0 (Takes x) b c None = refl
rule_0 (Takes x) b c (Some s) = refl
rule_0 Unsaid Forbidden c None = refl
rule_0 Unsaid Forbidden c (Some s) = refl
rule_0 Unsaid (Takes x) c None = refl
rule_0 Unsaid (Takes x) c (Some s) = refl
rule_0 Unsaid Unsaid Forbidden None = refl
rule_0 Unsaid Unsaid Forbidden (Some s) = refl
rule_0 Unsaid Unsaid (Takes x) None = refl
rule_0 Unsaid Unsaid (Takes x) (Some s) = refl
rule_0 Unsaid Unsaid Unsaid None = refl
rule_0 Unsaid Unsaid Unsaid (Some s) = refl

rule_1 : (a b c : Rule) (s : Option ℕ) → Some (better (ruled a b c) 1 s) ≡ ruled a (longer b (rule_of s)) c
rule_1 Forbidden b c s = refl
rule_1 (Takes x) b c s = refl
rule_1 Unsaid Forbidden c s = refl
rule_1 Unsaid (Takes x) c None = refl
rule_1 Unsaid (Takes x) c (Some s) = refl
rule_1 Unsaid Unsaid Forbidden None = refl
rule_1 Unsaid Unsaid Forbidden (Some s) = refl
rule_1 Unsaid Unsaid (Takes x) None = refl
rule_1 Unsaid Unsaid (Takes x) (Some s) = refl
rule_1 Unsaid Unsaid Unsaid None = refl
rule_1 Unsaid Unsaid Unsaid (Some s) = refl

rule_2 : (a b c : Rule) (s : Option ℕ) → Some (better (ruled a b c) 2 s) ≡ ruled a b (longer c (rule_of s))
rule_2 Forbidden b c s = refl
rule_2 (Takes x) b c s = refl
rule_2 Unsaid Forbidden c s = refl
rule_2 Unsaid (Takes x) c s = refl
rule_2 Unsaid Unsaid Forbidden s = refl
rule_2 Unsaid Unsaid (Takes x) None = refl
rule_2 Unsaid Unsaid (Takes x) (Some s) = refl
rule_2 Unsaid Unsaid Unsaid None = refl
rule_2 Unsaid Unsaid Unsaid (Some s) = refl

-- what rows say that a platform is taken in by, rank by rank
abbrev pub said_from : List StopData → ℕ → ℕ → List Link → Rule
said_from stops p k links = longest (map (λ l. rule_of (Link.secs l)) (filter (λ l. takes_in stops l.from p && (rank l == k)) links))

rank_cases : (l : Link) → (rank l ≡ 0) ⊎ ((rank l ≡ 1) ⊎ (rank l ≡ 2))
rank_cases l = by_ends l.from l.to
  where
    by_ends : (a b : Found) → (stations_in a + stations_in b ≡ 0) ⊎ ((stations_in a + stations_in b ≡ 1) ⊎ (stations_in a + stations_in b ≡ 2))
    by_ends (found.Platform n) (found.Platform m) = inl refl
    by_ends (found.Platform n) (found.Station m) = inr (inl refl)
    by_ends (found.Platform n) found.Other = inl refl
    by_ends (found.Station n) (found.Platform m) = inr (inl refl)
    by_ends (found.Station n) (found.Station m) = inr (inr refl)
    by_ends (found.Station n) found.Other = inr (inl refl)
    by_ends found.Other (found.Platform m) = inl refl
    by_ends found.Other (found.Station m) = inr (inl refl)
    by_ends found.Other found.Other = inl refl

pub fold_ruled : (stops : List StopData) (p : ℕ) (links : List Link) (a b c : Rule)
    → fold (marked_by stops p) (ruled a b c) links ≡ ruled (longer a (said_from stops p 0 links)) (longer b (said_from stops p 1 links)) (longer c (said_from stops p 2 links))
fold_ruled stops p [] a b c = rw (longer_none a, longer_none b, longer_none c) refl
fold_ruled stops p (l ∷ links) a b c =
    elim (cases_Bool (takes_in stops l.from p)) [
      | inl t ↦ elim (rank_cases l) [
        | inl e ↦ rw (t, e, rule_0 a b c l.secs, fold_ruled stops p links (longer a (rule_of l.secs)) b c, longer_assoc a (rule_of l.secs) (said_from stops p 0 links)) refl
        | inr h ↦ elim h [
          | inl e ↦ rw (t, e, rule_1 a b c l.secs, fold_ruled stops p links a (longer b (rule_of l.secs)) c, longer_assoc b (rule_of l.secs) (said_from stops p 1 links)) refl
          | inr e ↦ rw (t, e, rule_2 a b c l.secs, fold_ruled stops p links a b (longer c (rule_of l.secs)), longer_assoc c (rule_of l.secs) (said_from stops p 2 links)) refl
        ]
      ]
      | inr f ↦ rw f (fold_ruled stops p links a b c)
    ]

longest_kept : {X : Type 0} (u : X → Bool) (f : X → Rule) (x : X) (kept : List X) → longest (map f (filter u (x ∷ kept))) ≡ longer (cond (u x) (f x) Unsaid) (longest (map f (filter u kept)))
longest_kept u f x kept =
    elim (cases_Bool (u x)) [
      | inl t ↦ rw t refl
      | inr n ↦ rw n refl
    ]

swapped : (a x b : Rule) → longer a (longer x b) ≡ longer x (longer a b)
swapped a x b = sym (longer_assoc a x b) ∙ ap (λ y. longer y b) (longer_comm a x) ∙ longer_assoc x a b

-- what the items say that pass one of two tests is the longer of what they say by either
pub said_split : {X : Type 0} (u t₁ t₂ v : X → Bool) (f : X → Rule) (xs : List X) → ((x : X) → v x ≡ (u x && (t₁ x || t₂ x))) → ((x : X) → (t₁ x && t₂ x) ≡ false)
    → longer (longest (map f (filter u (filter t₁ xs)))) (longest (map f (filter u (filter t₂ xs)))) ≡ longest (map f (filter v xs))
said_split u t₁ t₂ v f [] h k = refl
said_split u t₁ t₂ v f (x ∷ xs) h k =
    let rest = said_split u t₁ t₂ v f xs h k in
    let whole = longest_kept v f x xs in
    elim (cases_Bool (t₁ x)) [
      | inl a ↦
          let other : t₂ x ≡ false = sym (ap (λ b. b && t₂ x) a) ∙ k x in
          let test : v x ≡ u x = h x ∙ rw a (by_or (u x)) in
          rw (a, other) (ap (λ y. longer y (longest (map f (filter u (filter t₂ xs))))) (longest_kept u f x (filter t₁ xs))
          ∙ longer_assoc (cond (u x) (f x) Unsaid) _ _ ∙ ap (longer (cond (u x) (f x) Unsaid)) rest ∙ ap (λ b. longer (cond b (f x) Unsaid) (longest (map f (filter v xs)))) (sym test) ∙ sym whole)
      | inr n ↦ elim (cases_Bool (t₂ x)) [
        | inl a ↦
            let test : v x ≡ u x = h x ∙ rw (n, a) (by_or (u x)) in
            rw (n, a) (ap (longer (longest (map f (filter u (filter t₁ xs))))) (longest_kept u f x (filter t₂ xs))
            ∙ swapped _ (cond (u x) (f x) Unsaid) _ ∙ ap (longer (cond (u x) (f x) Unsaid)) rest ∙ ap (λ b. longer (cond b (f x) Unsaid) (longest (map f (filter v xs)))) (sym test) ∙ sym whole)
        | inr m ↦
            let test : v x ≡ false = h x ∙ rw (n, m) (by_and (u x)) in
            rw (n, m) (rest ∙ ap (λ b. longest (map f (cond b (x ∷ filter v xs) (filter v xs)))) (sym test))
      ]
    ]
  where
    by_or : (b : Bool) → (b && true) ≡ b
    by_or true = refl
    by_or false = refl

    by_and : (b : Bool) → (b && false) ≡ false
    by_and true = refl
    by_and false = refl

-- the seconds of the last ranked rule, after the default change time and the default within a station
pub ranked_is : (a b c : Rule) (own near : Bool) (change : ℕ) (station : Option ℕ) → ranked_secs (marked near (marked own (ruled a b c) 3 (Some change)) 4 station)
    ≡ secs_of (first_said a (first_said b (first_said c (cond own (Takes change) (cond near (rule_of station) Unsaid)))))
ranked_is Forbidden b c true true change station = refl
ranked_is Forbidden b c true false change station = refl
ranked_is Forbidden b c false true change station = refl
ranked_is Forbidden b c false false change station = refl
ranked_is (Takes x) b c true true change station = refl
ranked_is (Takes x) b c true false change station = refl
ranked_is (Takes x) b c false true change station = refl
ranked_is (Takes x) b c false false change station = refl
ranked_is Unsaid Forbidden c true true change station = refl
ranked_is Unsaid Forbidden c true false change station = refl
ranked_is Unsaid Forbidden c false true change station = refl
ranked_is Unsaid Forbidden c false false change station = refl
ranked_is Unsaid (Takes x) c true true change station = refl
ranked_is Unsaid (Takes x) c true false change station = refl
ranked_is Unsaid (Takes x) c false true change station = refl
ranked_is Unsaid (Takes x) c false false change station = refl
ranked_is Unsaid Unsaid Forbidden true true change station = refl
ranked_is Unsaid Unsaid Forbidden true false change station = refl
ranked_is Unsaid Unsaid Forbidden false true change station = refl
ranked_is Unsaid Unsaid Forbidden false false change station = refl
ranked_is Unsaid Unsaid (Takes x) true true change station = refl
ranked_is Unsaid Unsaid (Takes x) true false change station = refl
ranked_is Unsaid Unsaid (Takes x) false true change station = refl
ranked_is Unsaid Unsaid (Takes x) false false change station = refl
ranked_is Unsaid Unsaid Unsaid true true change station = refl
ranked_is Unsaid Unsaid Unsaid true false change station = refl
ranked_is Unsaid Unsaid Unsaid false true change None = refl
ranked_is Unsaid Unsaid Unsaid false true change (Some s) = refl
ranked_is Unsaid Unsaid Unsaid false false change station = refl
