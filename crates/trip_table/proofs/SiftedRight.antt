-- Nothing is wrong with the rows that are kept.
use Rattle.std.proofs.Common.{◌≡◌, ◌∙◌, refl, sym, ap, subst, List, [], ◌∷◌, ◌++◌, Option, Some, None, append-nil, append_assoc}
use Rattle.std.specs.Prelude.{Result, Ok}
use Rattle.gtfs_rows.specs.Faults.{unless_wrong, wrong_after, check_rows}
use Rattle.gtfs_rows.specs.declared.fault.FeedFault.{FeedFault}
use Rattle.service_trips.specs.Faults.{first_wrong}
use Rattle.trip_table.specs.LeftFeed.{keep_unless, sift}

no_wrong : {A : Type 0} (wrong : List (Option FeedFault)) (x : A) → first_wrong wrong ≡ None → unless_wrong wrong x ≡ Ok x
no_wrong [] x e = refl
no_wrong (None ∷ rest) x e = no_wrong rest x e
no_wrong (Some f ∷ rest) x e = absurd (cc)

right_both : {A : Type 0} (before more : List (Option FeedFault)) (x : A) → unless_wrong before x ≡ Ok x → first_wrong more ≡ None → unless_wrong (before ++ more) x ≡ Ok x
right_both [] more x e n = no_wrong more x n
right_both (None ∷ rest) more x e n = right_both rest more x e n
right_both (Some f ∷ rest) more x e n = absurd (cc)

wrong_last : {A : Type 0} (wrong : List A → A → List (Option FeedFault)) (earlier xs : List A) (r : A) → wrong_after wrong earlier (xs ++ r ∷ []) ≡ wrong_after wrong earlier xs ++ (wrong (earlier ++ xs) r ++ [])
wrong_last wrong earlier [] r = ap (λ l. wrong l r ++ []) (sym (append-nil earlier))
wrong_last wrong earlier (x ∷ xs) r =
    ap (λ l. wrong earlier x ++ l) (wrong_last wrong (earlier ++ x ∷ []) xs r ∙ ap (λ l. wrong_after wrong (earlier ++ x ∷ []) xs ++ (wrong l r ++ [])) (append_assoc earlier (x ∷ []) xs))
    ∙ sym (append_assoc (wrong earlier x) (wrong_after wrong (earlier ++ x ∷ []) xs) (wrong (earlier ++ x ∷ xs) r ++ []))

first_none : (wrong : List (Option FeedFault)) → first_wrong wrong ≡ None → first_wrong (wrong ++ []) ≡ None
first_none wrong e = ap first_wrong (append-nil wrong) ∙ e

one_kept : {A : Type 0} (kept ys : List A) → (let r : Result (List A) FeedFault = Ok kept in r) ≡ Ok ys → kept ≡ ys
one_kept kept ys e = cc

kept_right : {A : Type 0} (wrong : List A → A → List (Option FeedFault)) (kept rows ys all : List A) → (sift wrong kept rows).end ≡ Ok ys → unless_wrong (wrong_after wrong [] kept) all ≡ Ok all → unless_wrong (wrong_after wrong [] ys) all ≡ Ok all
kept_right wrong kept [] ys all e right = subst (λ zs. unless_wrong (wrong_after wrong [] zs) all ≡ Ok all) (one_kept kept ys e) right
kept_right wrong kept (r ∷ rest) ys all e right =
    by_fault (first_wrong (wrong kept r)) refl (λ q more. kept_right wrong (kept ++ r ∷ []) rest ys all q more) (λ q. kept_right wrong kept rest ys all q right) e
  where
    by_fault : (o : Option FeedFault) → first_wrong (wrong kept r) ≡ o → ((sift wrong (kept ++ r ∷ []) rest).end ≡ Ok ys → unless_wrong (wrong_after wrong [] (kept ++ r ∷ [])) all ≡ Ok all → unless_wrong (wrong_after wrong [] ys) all ≡ Ok all)
        → ((sift wrong kept rest).end ≡ Ok ys → unless_wrong (wrong_after wrong [] ys) all ≡ Ok all) → (keep_unless o (sift wrong (kept ++ r ∷ []) rest) (sift wrong kept rest)).end ≡ Ok ys → unless_wrong (wrong_after wrong [] ys) all ≡ Ok all
    by_fault None w kept_on left_out q =
        kept_on q (ap (λ l. unless_wrong l all) (wrong_last wrong [] kept r) ∙ right_both (wrong_after wrong [] kept) (wrong kept r ++ []) all right (first_none (wrong kept r) w))
    by_fault (Some f) w kept_on left_out q = left_out q

-- the rows that are kept are right beside one another
pub sifted_right : {A : Type 0} (wrong : List A → A → List (Option FeedFault)) (rows ys : List A) → (sift wrong [] rows).end ≡ Ok ys → check_rows (λ _. wrong) ys ≡ Ok ys
sifted_right wrong rows ys e = kept_right wrong [] rows ys ys e refl

-- a fault never ends it
pub sift_never : {A : Type 0} (wrong : List A → A → List (Option FeedFault)) (kept rows : List A) → (ys : List A) × ((sift wrong kept rows).end ≡ Ok ys)
sift_never wrong kept [] = (kept, refl)
sift_never {A} wrong kept (r ∷ rest) = by_fault (first_wrong (wrong kept r)) (sift_never wrong (kept ++ r ∷ []) rest) (sift_never wrong kept rest)
  where
    by_fault : (o : Option FeedFault) → ((ys : List A) × ((sift wrong (kept ++ r ∷ []) rest).end ≡ Ok ys)) → ((ys : List A) × ((sift wrong kept rest).end ≡ Ok ys))
        → (ys : List A) × ((keep_unless o (sift wrong (kept ++ r ∷ []) rest) (sift wrong kept rest)).end ≡ Ok ys)
    by_fault None kept_on left_out = kept_on
    by_fault (Some f) kept_on left_out = left_out
