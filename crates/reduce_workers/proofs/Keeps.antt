-- Each step keeps the rule of the claim.
use Rattle.std.proofs.Common.{◌≡◌, ◌≢◌, ℕ, zero, suc, ◌+◌, ◌%◌, ◌<◌, ◌≤◌, min, true, false, Bool, List, [], ◌∷◌, ◌++◌, length, set, get_or, sum_by, All, sym, refl, ap, ◌∙◌, subst, ⊎_elim, nat_lt, ltb-true, ltb-false, if◌then◌else◌, arith, length-append, mod-eq_of_lt, slice_index}
use Rattle.std.proofs.lemmas.List.Sums.{sum_by-append, sum_by-cons, get_or-le-sum_by}
use Rattle.std.proofs.lemmas.List.Elements.{All-from_get_or}
use Rattle.std.proofs.lemmas.Bool.Decides.{nat_tests}
use mathlib.Core.Option.{some, some-injective, some-ne-none}
use lib.ListN.{get_elem?}
use Rattle.atomic_table.specs.Table.{State, Me, Act, keeps, Valid, stepped, carried_after, Allows, Splits, Joins, opening}
use Rattle.atomic_table.proofs.Lists.{at_set, at_snoc}
use Rattle.reduce_workers.specs.declared.rule.Hand.{Hand}
use Rattle.reduce_workers.specs.Claim.{hand, same, times, once_below, HandFits, AllFit, IsRuled, Ruled, first_hand, after, fewer, newcomer, together, spent}

-- a sum over the views after a change of one
pub sum_set : (f : Hand → ℕ) (vs : List Hand) (i : ℕ) (v w : Hand) → get_elem? vs i ≡ some v → sum_by f (set vs i w) + f v ≡ sum_by f vs + f w
sum_set f [] i v w e = absurd (some-ne-none v (sym e))
sum_set f (x ∷ xs) zero v w e = let same : f x ≡ f v = ap f (some-injective x v e) in omega (arith, sum_by-cons f x xs, sum_by-cons f w xs)
sum_set f (x ∷ xs) (suc i) v w e = let rest = sum_set f xs i v w e in omega (arith, sum_by-cons f x xs, sum_by-cons f x (set xs i w))

pub sum_le : (f : Hand → ℕ) (vs : List Hand) (i : ℕ) (v : Hand) → get_elem? vs i ≡ some v → f v ≤ sum_by f vs
sum_le f [] i v e = absurd (some-ne-none v (sym e))
sum_le f (x ∷ xs) zero v e = let same : f x ≡ f v = ap f (some-injective x v e) in omega (arith, sum_by-cons f x xs)
sum_le f (x ∷ xs) (suc i) v e = let rest = sum_le f xs i v e in omega (arith, sum_by-cons f x xs)

pub sum_snoc : (f : Hand → ℕ) (vs : List Hand) (w : Hand) → sum_by f (vs ++ w ∷ []) ≡ sum_by f vs + f w
sum_snoc f vs w = let h : sum_by f (vs ++ w ∷ []) ≡ sum_by f vs + sum_by f (w ∷ []) = sum_by-append f vs (w ∷ []) in omega (arith, h, sum_by-cons f w [])

pub fits_set : (vs : List Hand) (i : ℕ) (w : Hand) → HandFits w → AllFit vs → AllFit (set vs i w)
fits_set vs i w fit all j u e = ⊎_elim (λ (t : (j ≡ i) × (w ≡ u)). subst HandFits t.1 fit) (λ (t : (j ≢ i) × (get_elem? vs j ≡ some u)). all j u t.1) (at_set vs i j w u e)

pub fits_snoc : (vs : List Hand) (w : Hand) → HandFits w → AllFit vs → AllFit (vs ++ w ∷ [])
fits_snoc vs w fit all j u e = ⊎_elim (λ (x : get_elem? vs j ≡ some u). all j u x) (λ (is : w ≡ u). subst HandFits is fit) (at_snoc vs w u j e)

pub times_snoc : (x : ℕ) (xs : List ℕ) (n : ℕ) → times x (xs ++ n ∷ []) ≡ times x xs + same x n
times_snoc x xs n = let h : sum_by (same x) (xs ++ n ∷ []) ≡ sum_by (same x) xs + sum_by (same x) (n ∷ []) = sum_by-append (same x) xs (n ∷ []) in omega (arith, h, sum_by-cons (same x) n [])

pub one_more : (x n : ℕ) → once_below x (n + 1) ≡ once_below x n + same x n
one_more x n = grind (arith, nat_tests)

pub same_self : (x : ℕ) → same x x ≡ 1
same_self x = grind (arith, nat_tests)

pub none_from : (x n : ℕ) → n ≤ x → once_below x n ≡ 0
none_from x n h = grind (arith, nat_tests)

pub all_below : (xs : List ℕ) (n : ℕ) → ((x : ℕ) → n ≤ x → times x xs ≡ 0) → All (λ x. x < n) xs
all_below xs n h = All-from_get_or (λ x. x < n) xs 0 (λ i lt.
    let x : ℕ = get_or xs i 0 in
    let le : same x x ≤ times x xs = get_or-le-sum_by (same x) xs i 0 lt in
    let one = same_self x in
    let not_past : ¬ (n ≤ x) = λ past. let no = h x past in absurd (omega arith) in
    omega arith)

-- the rule with a view that draws a piece
pub draws_piece : (p t n : ℕ) (views : List Hand) (id : ℕ) (v : Hand) → IsRuled p t n views → get_elem? views id ≡ some v → n < p → v.seats ≡ 1 → v.past ≡ 0
    → IsRuled p t (n + 1) (set views id (hand v.pieces (v.drawn ++ n ∷ []) v.seats v.past))
draws_piece p t n views id v r at lt one none =
    let w : Hand = hand v.pieces (v.drawn ++ n ∷ []) v.seats v.past in
    let lens = sum_set (λ u. length u.drawn) views id v w at in
    let pasts = sum_set (λ u. u.past) views id v w at in
    let seats = sum_set (λ u. u.seats) views id v w at in
    let len : length (v.drawn ++ n ∷ []) ≡ length v.drawn + 1 = length-append v.drawn (n ∷ []) in
    let counted = r.counted in
    let whole = r.whole in
    let seated = r.seated in
    record {
      counted = omega arith;
      once = λ x.
          let here = sum_set (λ u. times x u.drawn) views id v w at in
          let more = times_snoc x v.drawn n in
          let before : sum_by (λ u. times x u.drawn) views ≡ once_below x n = r.once x ∙ ap (once_below x) (omega arith) in
          let now : once_below x (min (n + 1) p) ≡ once_below x n + same x n = ap (once_below x) (omega arith) ∙ one_more x n in
          omega arith;
      whole = omega arith;
      past_end = λ some_past. let e = r.past_end (omega arith) in absurd (omega arith);
      seated = omega arith;
      fits = fits_set views id w (omega arith, λ no. absurd (omega arith)) r.fits;
      few = r.few;
    }

-- the rule with a view that draws past the end
pub draws_past : (p t n : ℕ) (views : List Hand) (id : ℕ) (v : Hand) → IsRuled p t n views → get_elem? views id ≡ some v → p ≤ n → v.seats ≡ 1 → v.past ≡ 0
    → IsRuled p t (n + 1) (set views id (hand v.pieces v.drawn v.seats (v.past + 1)))
draws_past p t n views id v r at le one none =
    let w : Hand = hand v.pieces v.drawn v.seats (v.past + 1) in
    let lens = sum_set (λ u. length u.drawn) views id v w at in
    let pasts = sum_set (λ u. u.past) views id v w at in
    let seats = sum_set (λ u. u.seats) views id v w at in
    let counted = r.counted in
    let whole = r.whole in
    let seated = r.seated in
    record {
      counted = omega arith;
      once = λ x.
          let here = sum_set (λ u. times x u.drawn) views id v w at in
          let before = r.once x in
          let now : once_below x (min (n + 1) p) ≡ once_below x (min n p) = ap (once_below x) (omega arith) in
          omega arith;
      whole = omega arith;
      past_end = λ some_past. omega arith;
      seated = omega arith;
      fits = fits_set views id w (omega arith, λ no. absurd (omega arith)) r.fits;
      few = r.few;
    }

-- draws past the end are at most the seats
pub past_le : (views : List Hand) → AllFit views → sum_by (λ v. v.past) views ≤ sum_by (λ v. v.seats) views
past_le [] all = omega arith
past_le (x ∷ xs) all =
    let here = (all 0 x refl).0 in
    let rest = past_le xs (λ i v e. all (suc i) v e) in
    omega (arith, sum_by-cons (λ (v : Hand). v.past) x xs, sum_by-cons (λ (v : Hand). v.seats) x xs)

pub small : (p t n : ℕ) (views : List Hand) → IsRuled p t n views → n ≤ p + 64
small p t n views r =
    let a = past_le views r.fits in
    let counted = r.counted in
    let whole = r.whole in
    let seated = r.seated in
    let few = r.few.1 in
    omega arith

draws_by : (p t n : ℕ) (views : List Hand) (id : ℕ) (v : Hand) → IsRuled p t n views → get_elem? views id ≡ some v → v.pieces ≡ p → v.seats ≡ 1 → v.past ≡ 0
    → (b : Bool) → nat_lt n v.pieces ≡ b
    → IsRuled p t (n + 1) (set views id (if b then hand v.pieces (v.drawn ++ n ∷ []) v.seats v.past else hand v.pieces v.drawn v.seats (v.past + 1)))
draws_by p t n views id v r at same_p one none true is = let lt = ltb-true n v.pieces is in draws_piece p t n views id v r at (omega arith) one none
draws_by p t n views id v r at same_p one none false is = let le = ltb-false n v.pieces is in draws_past p t n views id v r at (omega arith) one none

-- what a draw owes, at a word that is known
pub draw_owes : (p t n : ℕ) (views : List Hand) (id : ℕ) (v : Hand) → IsRuled p t n views → get_elem? views id ≡ some v → v.pieces ≡ p → v.seats ≡ 1 → v.past ≡ 0
    → IsRuled p t ((n + 1) % 18446744073709551616) (set views id (after v n)) × All (λ x. x < n) v.drawn
draw_owes p t n views id v r at same_p one none =
    let bound = small p t n views r in
    let few = r.few.0 in
    let next : (n + 1) % 18446744073709551616 ≡ n + 1 = mod-eq_of_lt (omega arith) in
    let below : All (λ x. x < n) v.drawn = all_below v.drawn n (λ x le.
    let part : times x v.drawn ≤ sum_by (λ u. times x u.drawn) views = sum_le (λ u. times x u.drawn) views id v at in
    let no : once_below x (min n p) ≡ 0 = none_from x (min n p) (omega arith) in
    let all = r.once x in omega arith) in
    (rw next (draws_by p t n views id v r at same_p one none (nat_lt n v.pieces) refl), below)

-- what a draw tells, of whatever step
abbrev drawn_by : Hand → List (ℕ × ℕ) → ℕ → Me ℕ Hand → Type 0
drawn_by v carried n w = (w.1 ≡ carried) × (w.0 ≡ after v n) × All (λ x. x < n) v.drawn

-- what `fetch_add` asks of a draw
pub draws : (key : ℕ × ℕ) (slots id : ℕ) (v : Hand) (carried : List (ℕ × ℕ)) → v.pieces ≡ key.0 → v.seats ≡ 1 → v.past ≡ 0
    → Allows (Ruled key) slots id (v, carried) 0 (λ n. (n + 1) % 18446744073709551616) (drawn_by v carried)
draws key slots id v carried same_p one none s h len at lt =
    let P : List ℕ → Type 0 = λ ws. (w : Hand) × (a : Act ℕ) × Valid s.homes carried a × Ruled key (stepped record { words = ws; homes = s.homes; views = s.views } 0 ((slice_index ws 0 + 1) % 18446744073709551616) id carried w a) × drawn_by v carried (slice_index ws 0) (w, carried_after carried a) in
    let owes = draw_owes key.0 key.1 h.0 s.views id v h.2 at same_p one none in
    subst P (sym h.1) (after v h.0, keeps, tt, ((h.0 + 1) % 18446744073709551616, refl, owes.0), (refl, refl, owes.1))

-- the start: one view stands for all seats
pub begins : (p t : ℕ) → p < 4294967296 → t ≤ 64 → Ruled (p, t) (opening (0 ∷ []) [] (first_hand (p, t)))
begins p t p_few t_few =
    let one : (f : Hand → ℕ) → sum_by f (first_hand (p, t) ∷ []) ≡ f (first_hand (p, t)) = λ f. let c = sum_by-cons f (first_hand (p, t)) [] in omega arith in (
      0,
      refl,
      record {
        counted = refl;
        once = λ x. let no = none_from x 0 (omega arith) in let zero_min : min 0 p ≡ 0 = omega arith in rw zero_min (sym no);
        whole = omega arith;
        past_end = λ h. absurd (omega arith);
        seated = let e = one (λ v. v.seats) in omega arith;
        fits = fits_snoc [] (first_hand (p, t)) (omega arith, λ _. refl) (λ i v e. absurd (some-ne-none v (sym e)));
        few = (p_few, t_few);
      },
    )

-- what `split_seat` asks: a view that stands for a seat and has drawn nothing gives one away
pub splits : (key : ℕ × ℕ) (id : ℕ) (v : Hand) → 0 < v.seats → v.drawn ≡ [] → v.past ≡ 0 → Splits (Ruled key) id v (fewer v) (newcomer v)
splits key id v some_seat no_list no_past s h at =
    let r = h.2 in
    let l : Hand = fewer v in
    let n : Hand = newcomer v in
    let vs : List Hand = set s.views id l in
    let lens = sum_set (λ u. length u.drawn) s.views id v l at in
    let lens' = sum_snoc (λ u. length u.drawn) vs n in
    let pasts = sum_set (λ u. u.past) s.views id v l at in
    let pasts' = sum_snoc (λ u. u.past) vs n in
    let seats = sum_set (λ u. u.seats) s.views id v l at in
    let seats' = sum_snoc (λ u. u.seats) vs n in
    let counted = r.counted in
    let whole = r.whole in
    let seated = r.seated in (
      h.0,
      h.1,
      record {
        counted = omega arith;
        once = λ x.
            let here = sum_set (λ u. times x u.drawn) s.views id v l at in
            let here' = sum_snoc (λ u. times x u.drawn) vs n in
            let before = r.once x in
            omega arith;
        whole = omega arith;
        past_end = λ some_past. r.past_end (omega arith);
        seated = omega arith;
        fits = fits_snoc vs n (omega arith, λ no. absurd (omega arith)) (fits_set s.views id l (omega arith, λ _. no_list) r.fits);
        few = r.few;
      },
    )

-- what `join_seat` asks
pub joins : (key : ℕ × ℕ) (id : ℕ) (v : Hand) (other : ℕ) (w : Hand) → Joins (Ruled key) id v other w (together v w) spent
joins key id v other w s h at apart there =
    let r = h.2 in
    let b : Hand = together v w in
    let vs : List Hand = set s.views id b in
    let was : get_elem? s.views other ≡ some w = ⊎_elim (λ (t : (other ≡ id) × (b ≡ w)). absurd (apart t.0)) (λ (t : (other ≢ id) × (get_elem? s.views other ≡ some w)). t.1) (at_set s.views id other b w there) in
    let mine = r.fits id v at in
    let theirs = r.fits other w was in
    let len : length (v.drawn ++ w.drawn) ≡ length v.drawn + length w.drawn = length-append v.drawn w.drawn in
    let lens = sum_set (λ u. length u.drawn) s.views id v b at in
    let lens' = sum_set (λ u. length u.drawn) vs other w spent there in
    let pasts = sum_set (λ u. u.past) s.views id v b at in
    let pasts' = sum_set (λ u. u.past) vs other w spent there in
    let seats = sum_set (λ u. u.seats) s.views id v b at in
    let seats' = sum_set (λ u. u.seats) vs other w spent there in
    let counted = r.counted in
    let whole = r.whole in
    let seated = r.seated in (
      h.0,
      h.1,
      record {
        counted = omega arith;
        once = λ x.
            let here = sum_set (λ u. times x u.drawn) s.views id v b at in
            let here' = sum_set (λ u. times x u.drawn) vs other w spent there in
            let both : times x (v.drawn ++ w.drawn) ≡ times x v.drawn + times x w.drawn = sum_by-append (same x) v.drawn w.drawn in
            let before = r.once x in
            omega arith;
        whole = omega arith;
        past_end = λ some_past. r.past_end (omega arith);
        seated = omega arith;
        fits = fits_set vs other spent (omega arith, λ _. refl) (fits_set s.views id b (omega arith, λ no. let a = mine.1 (omega arith) in let c = theirs.1 (omega arith) in rw a c) r.fits);
        few = r.few;
      },
    )

all_idle : (f : Hand → ℕ) (views : List Hand) → sum_by (λ u. u.seats) views ≤ 0 → ((i : ℕ) (u : Hand) → get_elem? views i ≡ some u → u.seats ≡ 0 → f u ≡ 0) → sum_by f views ≡ 0
all_idle f [] le idle = refl
all_idle f (x ∷ xs) le idle =
    let c = sum_by-cons (λ (u : Hand). u.seats) x xs in
    let here = idle 0 x refl (omega arith) in
    let rest = all_idle f xs (omega arith) (λ i u e. idle (suc i) u e) in
    omega (arith, sum_by-cons f x xs)

-- a sum over the views is one view's, where every other view counts nothing
pub only_one : (f : Hand → ℕ) (views : List Hand) (t id : ℕ) (v : Hand) → get_elem? views id ≡ some v → sum_by (λ u. u.seats) views ≤ v.seats
    → ((i : ℕ) (u : Hand) → get_elem? views i ≡ some u → u.seats ≡ 0 → f u ≡ 0) → sum_by f views ≡ f v
only_one f [] t id v at le idle = absurd (some-ne-none v (sym at))
only_one f (x ∷ xs) t zero v at le idle = let e = some-injective x v at in let seats : x.seats ≡ v.seats = ap (λ (u : Hand). u.seats) e in let fs : f x ≡ f v = ap f e in
    let rest = all_idle f xs (let c = sum_by-cons (λ (u : Hand). u.seats) x xs in omega arith) (λ i u e. idle (suc i) u e) in
    omega (arith, sum_by-cons f x xs)
only_one f (x ∷ xs) t (suc id) v at le idle =
    let mine = sum_le (λ u. u.seats) xs id v at in
    let c = sum_by-cons (λ (u : Hand). u.seats) x xs in
    let here = idle 0 x refl (omega arith) in
    let rest = only_one f xs t id v at (omega arith) (λ i u e. idle (suc i) u e) in
    omega (arith, sum_by-cons f x xs)

-- at the end: who stands for all seats, and drew past the end, has every piece once
pub gathers : (key : ℕ × ℕ) (s : State ℕ Hand) (id : ℕ) (v : Hand) → Ruled key s → get_elem? s.views id ≡ some v → v.seats ≡ key.1 → 0 < v.past → (x : ℕ) → times x v.drawn ≡ once_below x key.0
gathers key s id v h at all past x =
    let r = h.2 in
    let seated = r.seated in
    let some_past = sum_le (λ u. u.past) s.views id v at in
    let beyond = r.past_end (omega arith) in
    let alone = only_one (λ u. times x u.drawn) s.views key.1 id v at (omega arith) (λ i u e no. let empty = (r.fits i u e).1 no in rw empty refl) in
    let m : min h.0 key.0 ≡ key.0 = omega arith in
    let before : sum_by (λ u. times x u.drawn) s.views ≡ once_below x key.0 = r.once x ∙ ap (once_below x) m in
    sym alone ∙ before
