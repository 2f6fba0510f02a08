-- Footpaths of all stops, one target more.
use Rattle.std.proofs.Common.{◌≡◌, ◌∙◌, sym, ap, refl, ℕ, zero, suc, ◌+◌, ◌-◌, ◌<◌, ◌≤◌, List, [], ◌∷◌, ◌++◌, length, map, get_or, true, false, Option, Some, None, arith}
use Rattle.std.specs.Prelude.{filter_map, sum_by, nat_lt, Ok, Err}
use Rattle.std.specs.Option.{option_to_list}
use Rattle.std.proofs.lemmas.Bool.Decides.{nat_tests}
use Rattle.std.proofs.lemmas.List.{length-append, ext_get_or}
use Rattle.std.proofs.lemmas.List.FromFn.{length-map-range_with_len, get_or-map-range_with_len}
use Rattle.std.proofs.lemmas.List.Elements.{filter_map-append}
use Rattle.std.proofs.lemmas.List.Sums.{sum_by-cons}
use Rattle.tb_base.specs.declared.table.Path.{Path}
use Rattle.gtfs_rows.specs.declared.fault.FeedFault.TheVariants as fault
use Rattle.gtfs_rows.specs.declared.fault.Many.TheVariants as many
use Rattle.footpaths.specs.Footpaths.{Changes, path_to, paths_from, paths_of, check_count, numbers}
use Rattle.tb_base.specs.TimetableData.{path_total}
use Rattle.footpaths.proofs.NumberLists.{numbers_more}

abbrev pub paths_before : Changes → ℕ → ℕ → List Path
paths_before given n p = filter_map (λ q. path_to p q (given p q)) (numbers n)

last_kept : (given : Changes) (p n : ℕ) (o : Option Path) → path_to p n (given p n) ≡ o → filter_map (λ q. path_to p q (given p q)) (n ∷ []) ≡ option_to_list o
last_kept given p n None e = rw e refl
last_kept given p n (Some f) e = rw e refl

before_more : (given : Changes) (p n : ℕ) → paths_before given (n + 1) p ≡ paths_before given n p ++ option_to_list (path_to p n (given p n))
before_more given p n = ap (filter_map (λ q. path_to p q (given p q))) (numbers_more n) ∙ filter_map-append (λ q. path_to p q (given p q)) (numbers n) (n ∷ []) ∙ ap (λ fs. paths_before given n p ++ fs) (last_kept given p n _ refl)

pub row_more : (given : Changes) (p n : ℕ) (old new : List Path) → old ≡ paths_before given n p → new ≡ old ++ option_to_list (path_to p n (given p n)) → new ≡ paths_before given (n + 1) p
row_more given p n old new e g = g ∙ ap (λ fs. fs ++ option_to_list (path_to p n (given p n))) e ∙ sym (before_more given p n)

pub rows_same : (given : Changes) (rows : List (List Path)) (m n : ℕ) → length rows ≡ n → ((p : ℕ) → p < n → get_or rows p [] ≡ paths_before given m p) → rows ≡ map (paths_before given m) (numbers n)
rows_same given rows m n many each =
    ext_get_or [] rows (map (paths_before given m) (numbers n)) (many ∙ sym (length-map-range_with_len (paths_before given m) 0 n))
    (λ p h. let below : p < n = omega arith in each p below ∙ sym (get_or-map-range_with_len (paths_before given m) 0 n p p [] below (omega arith)))

longer_later : (given : Changes) (p m k : ℕ) → length (paths_before given m p) ≤ length (paths_before given (m + k) p)
longer_later given p m zero = omega (arith, ap (λ n. length (paths_before given n p)) (let e : m + 0 ≡ m = omega arith in e))
longer_later given p m (suc k) =
    let e : m + suc k ≡ m + k + 1 = omega arith in
    omega (arith, ap (λ n. length (paths_before given n p)) e, ap length (before_more given p (m + k)), length-append (paths_before given (m + k) p) (option_to_list (path_to p (m + k) (given p (m + k)))), longer_later given p m k)

sum_grows : (f g : ℕ → List Path) (ks : List ℕ) → ((p : ℕ) → length (f p) ≤ length (g p)) → sum_by (λ row. length {A = Path} row) (map f ks) ≤ sum_by (λ row. length {A = Path} row) (map g ks)
sum_grows f g [] h = omega arith
sum_grows f g (k ∷ ks) h = omega (arith, sum_by-cons (λ row. length {A = Path} row) (f k) (map f ks), sum_by-cons (λ row. length {A = Path} row) (g k) (map g ks), h k, sum_grows f g ks h)

total_grows : (given : Changes) (m n : ℕ) → m ≤ n → sum_by (λ row. length {A = Path} row) (map (paths_before given m) (numbers n)) ≤ path_total (paths_of n given)
total_grows given m n h =
    let e : m + (n - m) ≡ n = omega arith in
    sum_grows (paths_before given m) (paths_from n given) (numbers n) (λ p. rw e at (longer_later given p m (n - m)))

-- rows of more than 2,000,000 footpaths to some of the stops refuse the whole
pub too_many : (given : Changes) (rows : List (List Path)) (m n : ℕ) → length rows ≡ n → m ≤ n → ((p : ℕ) → p < n → get_or rows p [] ≡ paths_before given m p) → 2000000 < sum_by (λ row. length {A = Path} row) rows
    → check_count (paths_of n given) ≡ Err (fault.TooMany many.Footpaths 0)
too_many given rows m n many h each over =
    let big : 2000000 < path_total (paths_of n given) = omega (arith, total_grows given m n h, over, ap (sum_by (λ row. length {A = Path} row)) (rows_same given rows m n many each)) in
    let test : nat_lt 2000000 (path_total (paths_of n given)) ≡ true = grind (arith, nat_tests, big) in
    rw test refl

-- rows to all stops, few enough, are the whole
pub all_rows : (given : Changes) (change : List (Option ℕ)) (rows : List (List Path)) (n : ℕ) → length rows ≡ n → change ≡ map (λ p. given p p) (numbers n) → ((p : ℕ) → p < n → get_or rows p [] ≡ paths_before given n p) → sum_by (λ row. length {A = Path} row) rows ≤ 2000000
    → check_count (paths_of n given) ≡ Ok (record { change = change; paths = rows })
all_rows given change rows n many own each few =
    let same : rows ≡ map (paths_from n given) (numbers n) = rows_same given rows n n many each in
    let small : path_total (paths_of n given) ≤ 2000000 = omega (arith, few, ap (sum_by (λ row. length {A = Path} row)) same) in
    let test : nat_lt 2000000 (path_total (paths_of n given)) ≡ false = grind (arith, nat_tests, small) in
    rw (test, own, same) refl
