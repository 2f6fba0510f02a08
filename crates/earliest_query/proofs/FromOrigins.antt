-- The stops that an origin walks to, and who is boarded there.
use Rattle.std.proofs.Common.{◌≡◌, ◌≢◌, ◌∙◌, ℕ, zero, suc, ◌<◌, ◌⊎◌, inl, inr, ◌==◌, List, [], ◌∷◌, true, cond, length, get_or, find, refl, sym, ap, subst, arith, Option, Some, None}
use Rattle.std.specs.Prelude.{AllPairs, slice_get}
use Rattle.std.specs.Option.{option_map}
use Rattle.std.proofs.lemmas.Bool.Decides.{nat_tests}
use Rattle.std.proofs.lemmas.Option.{get_or_from_slice_get}
use Rattle.std.proofs.lemmas.Bool.{cases_eq, eq-eqb, ne_eqb}
use Rattle.tb_base.specs.declared.table.Path.{Path}
use Rattle.tb_base.specs.TimetableData.{TimetableData}
use Rattle.tb_base.specs.BestValues.{QueryData}
use Rattle.tb_base.specs.Walking.{walk}
use Rattle.tb_base.proofs.Ordered.{Member, AllPairs-head, AllPairs-tail}
use Rattle.tb_base.proofs.Members.{find_found}
use Rattle.tb_laws.proofs.Triangles.{walk-same, walk-other}
use Rattle.segment_queue.specs.Queue.{DeskData}
use Rattle.earliest_query.specs.UnderWay.{AreBoarded, AddsSegments, IsStopBoarded}
use Rattle.earliest_query.proofs.Growing.{extends-long, extends-reached}
use Rattle.earliest_query.proofs.Following.{get_or-inside}

-- who has been boarded stays so
pub boarded-kept : (T : TimetableData) (Q : QueryData) (D D' : DeskData) (stop secs : ℕ) → AddsSegments D D' 1 → IsStopBoarded T Q D stop secs → IsStopBoarded T Q D' stop secs
boarded-kept T Q D D' stop secs e boarded = λ t b boards not_last here in_time.
    extends-reached T D D' 1 (length D.segments) (length D'.segments) 1 1 t b e (boarded t b boards not_last here in_time) (omega arith) (extends-long D D' 1 e) (omega arith)

pub are_boarded-kept : (T : TimetableData) (Q : QueryData) (D D' : DeskData) (place : ℕ) → AddsSegments D D' 1 → AreBoarded T Q D place → AreBoarded T Q D' place
are_boarded-kept T Q D D' place e boarded = λ stop secs walks first. boarded-kept T Q D D' stop secs e (boarded stop secs walks first)

-- along ascending paths a look-up finds the path at its place
found_path : (paths : List Path) (k : ℕ) (f : Path) → AllPairs (λ (g h : Path). g.to < h.to) paths → k < length paths → ((d : Path) → get_or paths k d ≡ f) → find (λ (g : Path). g.to == f.to) paths ≡ Some f
found_path [] k f ascending h is = absurd (omega (arith, h))
found_path (g ∷ gs) zero f ascending h is =
    let e : g ≡ f = is f in ap (λ b. cond b (Some g) (find (λ (x : Path). x.to == f.to) gs)) (eq-eqb g.to f.to (ap (λ (x : Path). x.to) e)) ∙ ap (λ x. Some x) e
found_path (g ∷ gs) (suc k) f ascending h is =
    let below : k < length gs = omega (arith, h) in
    let before : g.to < f.to = AllPairs-head (λ (x y : Path). x.to < y.to) g gs ascending f (k, below, is f) in
    ap (λ b. cond b (Some g) (find (λ (x : Path). x.to == f.to) gs)) (ne_eqb g.to f.to (λ e. omega (arith, before, e)))
    ∙ found_path gs k f (AllPairs-tail (λ (x y : Path). x.to < y.to) g gs ascending) below is

-- a path is a walk
pub path_walk : (T : TimetableData) (p : ℕ) (paths : List Path) (k : ℕ) (f : Path) → slice_get T.footpaths.paths p ≡ Some paths → AllPairs (λ (g h : Path). g.to < h.to) paths → k < length paths → ((d : Path) → get_or paths k d ≡ f) → f.to ≢ p
    → walk T p f.to ≡ Some f.secs
path_walk T p paths k f row ascending inside is away =
    walk-other T p f.to (λ e. away (sym e))
    ∙ ap (λ fs. option_map (λ (g : Path). g.secs) (find (λ (g : Path). g.to == f.to) fs)) (get_or_from_slice_get T.footpaths.paths p paths [] row)
    ∙ ap (option_map (λ (g : Path). g.secs)) (found_path paths k f ascending inside is)

-- paths before lead to other stops
pub earlier_other : (paths : List Path) (i k : ℕ) (d : Path) (f : Path) → AllPairs (λ (g h : Path). g.to < h.to) paths → k < i → i < length paths → ((e : Path) → get_or paths i e ≡ f) → (get_or paths k d).to ≢ f.to
earlier_other paths i k d f ascending before inside is = λ e.
    (let less = ascending k i d before inside in let here = ap (λ (g : Path). g.to) (is d) in omega (arith, e, less, here))

-- what an origin walks to is itself, or a path leads to it
pub record IsByPath (paths : List Path) (q s : ℕ) : Type 0 where
  pub path : Path
  pub index : ℕ
  pub inside : index < length paths
  pub is : (d : Path) → get_or paths index d ≡ path
  pub to : path.to ≡ q
  pub secs : path.secs ≡ s

pub walked_to : (T : TimetableData) (p : ℕ) (paths : List Path) (q secs : ℕ) → slice_get T.footpaths.paths p ≡ Some paths → walk T p q ≡ Some secs → ((q ≡ p) × (secs ≡ 0)) ⊎ IsByPath paths q secs
walked_to T p paths q secs row walks = by_stop (cases_eq p q)
  where
    place_of : (xs : List Path) (f : Path) → Member f xs → (k : ℕ) × (k < length xs) × ((d : Path) → get_or xs k d ≡ f)
    place_of [] f h = absurd h
    place_of (x ∷ xs) f (inl e) = (0, omega arith, λ d. e)
    place_of (x ∷ xs) f (inr h) = let r : (k : ℕ) × (k < length xs) × ((d : Path) → get_or xs k d ≡ f) = place_of xs f h in (suc r.0, omega (arith, r.1), r.2)

    by_path : (o : Option Path) → o ≡ find (λ (g : Path). g.to == q) paths → option_map (λ (g : Path). g.secs) o ≡ Some secs → IsByPath paths q secs
    by_path None e k = cc
    by_path (Some f) e k =
        let found = find_found (λ (g : Path). g.to == q) paths f (sym e) in
        let at : (k : ℕ) × (k < length paths) × ((d : Path) → get_or paths k d ≡ f) = place_of paths f found.0 in
        record { path = f; index = at.0; inside = at.1; is = at.2; to = (let h : (f.to == q) ≡ true = found.1 in grind (arith, nat_tests, h)); secs = (let h : f.secs ≡ secs = cc in h) }

    by_stop : (p ≡ q) ⊎ (p ≢ q) → ((q ≡ p) × (secs ≡ 0)) ⊎ IsByPath paths q secs
    by_stop (inl e) = inl (sym e, (let own : walk T p q ≡ Some 0 = subst (λ x. walk T p x ≡ Some 0) e (walk-same T p) in let k : 0 ≡ secs = cc in sym k))
    by_stop (inr n) = inr (by_path (find (λ (g : Path). g.to == q) paths) refl
        (ap (λ fs. option_map (λ (g : Path). g.secs) (find (λ (g : Path). g.to == q) fs)) (sym (get_or_from_slice_get T.footpaths.paths p paths [] row)) ∙ sym (walk-other T p q n) ∙ walks))

pub origin_is : (xs ys : List ℕ) (place o : ℕ) → xs ≡ ys → place < length ys → o ≡ get_or xs place o → o ≡ get_or ys place 0
origin_is xs ys place o same inside is = is ∙ ap (λ zs. get_or zs place o) same ∙ get_or-inside ys place o 0 inside
