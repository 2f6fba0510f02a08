-- The rows that lead to a platform, and what they say of the ways to it.
use Rattle.std.proofs.Common.{◌≡◌, ◌≢◌, ◌∙◌, sym, ap, refl, ℕ, ◌+◌, ◌<◌, List, [], ◌∷◌, length, map, fold, get_or, set, cond, Bool, true, false, ◌&&◌, ◌||◌, Option, Some, None, arith, inl, inr}
use Rattle.std.specs.Prelude.{◌==◌, filter, is_some}
use Rattle.std.proofs.lemmas.Bool.{cases_Bool, ne_eqb}
use Rattle.std.proofs.lemmas.Bool.Decides.{nat_tests}
use Rattle.std.proofs.lemmas.List.{length-map, get_or-map, get_or-set_same, get_or-set_other}
use Rattle.tb_base.specs.KeyPlaces.{places_of}
use Rattle.tb_base.proofs.ByPlaces.{rows_by_places}
use Rattle.gtfs_rows.specs.StopsFile.{StopData, is_platform}
use Rattle.footpaths.specs.declared.found.Found.{Found}
use Rattle.footpaths.specs.declared.found.Found.TheVariants as found
use Rattle.footpaths.specs.declared.found.Link.{Link}
use Rattle.footpaths.specs.Stops.{platforms, station_of}
use Rattle.footpaths.specs.Footpaths.{Rule, Unsaid, Forbidden, Takes, takes_in, fits, rank, rule_of, longer, said, first_said, secs_of}
use Rattle.footpaths.specs.BestRules.{better, slot, marked, marked_by, ruled, ranked_secs}
use Rattle.footpaths.specs.LinkedPlatforms.{link_at, platform_key, station_key, platform_keys, station_keys, HasPlaces}
use Rattle.footpaths.proofs.RankedRuleLaws.{fold_ruled, said_from, said_split, ranked_is}
use Rattle.tb_base.proofs.Lists.{length-filter_le}
use Rattle.footpaths.proofs.LinkedPlatformsLaws.{station_below}
use Rattle.footpaths.specs.declared.best_rules.RankedRule.{RankedRule}

eq_swapped : (a b : ℕ) → (a == b) ≡ (b == a)
eq_swapped a b =
    elim (cases_Bool (b == a)) [
      | inl t ↦ let s : b ≡ a = grind (arith, nat_tests, t) in let e : (a == b) ≡ true = grind (arith, nat_tests, s) in e ∙ sym t
      | inr f ↦ ne_eqb a b (λ s. absurd (let t : (b == a) ≡ true = grind (arith, nat_tests, s) in let c : false ≡ true = sym f ∙ t in cc)) ∙ sym f
    ]

-- a row leads to a platform, or to its station
abbrev pub to_platform : ℕ → ℕ → Link → Bool
to_platform none q l = platform_key none (Link.to l) == q

abbrev pub to_station : ℕ → Option ℕ → Link → Bool
to_station none None l = false
to_station none (Some k) l = station_key none (Link.to l) == k

or_false : (a b : Bool) → b ≡ false → a ≡ (a || b)
or_false true b e = refl
or_false false b e = sym e

takes_in_by : (stops : List StopData) (to : Found) (none q : ℕ) (o : Option ℕ) → q < none → station_of stops q ≡ o → ((k : ℕ) → o ≡ Some k → k < none) → (l : Link) → l.to ≡ to → takes_in stops to q ≡ (to_platform none q l || to_station none o l)
takes_in_by stops (found.Platform n) none q None h s below l e = rw e (or_false (n == q) false refl)
takes_in_by stops (found.Platform n) none q (Some k) h s below l e = rw e (or_false (n == q) (none == k) (ne_eqb none k (λ x. absurd (let b : k < none = below k refl in omega arith))))
takes_in_by stops (found.Station j) none q None h s below l e = rw (e, s, ne_eqb none q (λ x. absurd (omega arith))) refl
takes_in_by stops (found.Station j) none q (Some k) h s below l e = rw (e, s, ne_eqb none q (λ x. absurd (omega arith))) (eq_swapped k j)
takes_in_by stops found.Other none q None h s below l e = rw (e, ne_eqb none q (λ x. absurd (omega arith))) refl
takes_in_by stops found.Other none q (Some k) h s below l e = rw (e, ne_eqb none q (λ x. absurd (omega arith)), ne_eqb none k (λ x. absurd (let b : k < none = below k refl in omega arith))) refl

apart_by : (to : Found) (none q : ℕ) (o : Option ℕ) → q < none → ((k : ℕ) → o ≡ Some k → k < none) → (l : Link) → l.to ≡ to → (to_platform none q l && to_station none o l) ≡ false
apart_by to none q None h below l e = and_false (to_platform none q l)
  where
    and_false : (a : Bool) → (a && false) ≡ false
    and_false true = refl
    and_false false = refl
apart_by (found.Platform n) none q (Some k) h below l e = rw (e, ne_eqb none k (λ x. absurd (let b : k < none = below k refl in omega arith))) (and_false (n == q))
  where
    and_false : (a : Bool) → (a && false) ≡ false
    and_false true = refl
    and_false false = refl
apart_by (found.Station j) none q (Some k) h below l e = rw (e, ne_eqb none q (λ x. absurd (omega arith))) refl
apart_by found.Other none q (Some k) h below l e = rw (e, ne_eqb none q (λ x. absurd (omega arith))) refl

regroup : (a b r c : Bool) → b ≡ c → ((a && b) && r) ≡ ((a && r) && c)
regroup true true r c e = rw (← e) (and_true r)
  where
    and_true : (r : Bool) → r ≡ (r && true)
    and_true true = refl
    and_true false = refl
regroup true false r c e = rw (← e) (and_false r)
  where
    and_false : (r : Bool) → false ≡ (r && false)
    and_false true = refl
    and_false false = refl
regroup false b r c e = refl

-- the rows to the platform, and then those to its station, give the ranked rule of what fits
pub rows_rule : (stops : List StopData) (links : List Link) (none p q : ℕ) (o : Option ℕ) → q < none → station_of stops q ≡ o → ((k : ℕ) → o ≡ Some k → k < none)
    → fold (marked_by stops p) (fold (marked_by stops p) None (filter (to_platform none q) links)) (filter (to_station none o) links) ≡ ruled (said stops links p q 0) (said stops links p q 1) (said stops links p q 2)
rows_rule stops links none p q o h s below =
    let first = fold_ruled stops p (filter (to_platform none q) links) Unsaid Unsaid Unsaid in
    let later = fold_ruled stops p (filter (to_station none o) links) (said_from stops p 0 (filter (to_platform none q) links)) (said_from stops p 1 (filter (to_platform none q) links)) (said_from stops p 2 (filter (to_platform none q) links)) in
    let split : (k : ℕ) → longer_both k ≡ said stops links p q k = (λ k. said_split (λ l. takes_in stops l.from p && (rank l == k)) (to_platform none q) (to_station none o) (λ l. fits stops p q l && (rank l == k)) (λ l. rule_of (Link.secs l)) links
    (λ l. regroup (takes_in stops l.from p) (takes_in stops l.to q) (rank l == k) _ (takes_in_by stops l.to none q o h s below l refl)) (λ l. apart_by l.to none q o h below l refl)) in
    ap (λ v. fold (marked_by stops p) v (filter (to_station none o) links)) first ∙ later ∙ rw (split 0, split 1, split 2) refl
  where
    longer_both : ℕ → Rule
    longer_both k = longer (said_from stops p k (filter (to_platform none q) links)) (said_from stops p k (filter (to_station none o) links))

-- the rows at the places of a key
pub platform_rows : (none q : ℕ) (links : List Link) → map (link_at links) (places_of (platform_keys none links) q) ≡ filter (to_platform none q) links
platform_rows none q links =
    let d : Link = record { from = found.Other; to = found.Other; secs = None } in
    rows_by_places (to_platform none q) links (platform_keys none links) q d (length-map links (λ l. platform_key none (Link.to l))) (λ i h. ap (λ k. k == q) (get_or-map (λ l. platform_key none (Link.to l)) links i d 0 h))

pub station_rows : (none k : ℕ) (links : List Link) → map (link_at links) (places_of (station_keys none links) k) ≡ filter (to_station none (Some k)) links
station_rows none k links =
    let d : Link = record { from = found.Other; to = found.Other; secs = None } in
    rows_by_places (to_station none (Some k)) links (station_keys none links) k d (length-map links (λ l. station_key none (Link.to l))) (λ i h. ap (λ x. x == k) (get_or-map (λ l. station_key none (Link.to l)) links i d 0 h))

pub no_station_rows : (none : ℕ) (links : List Link) → filter (to_station none None) links ≡ []
no_station_rows none [] = refl
no_station_rows none (l ∷ links) = no_station_rows none links

station_is_below : (stops : List StopData) (q k : ℕ) → station_of stops q ≡ Some k → k < length stops
station_is_below stops q k s = rw s at (station_below stops q)

-- the ranked rule at a platform after the rows to a stop, where the stop has no station
pub one_rule : (stops : List StopData) (links : List Link) (p q : ℕ) (old new : Option RankedRule) (places : List ℕ) → q < length (platforms stops) → station_of stops q ≡ None → places ≡ places_of (platform_keys (length stops) links) q → old ≡ None
    → new ≡ fold (marked_by stops p) old (map (link_at links) places) → new ≡ ruled (said stops links p q 0) (said stops links p q 1) (said stops links p q 2)
one_rule stops links p q old new places h s at clear is =
    let within : q < length stops = omega (arith, h, length-filter_le (λ s. is_platform s.kind) stops) in
    let first : new ≡ fold (marked_by stops p) None (filter (to_platform (length stops) q) links) = is ∙ ap (λ v. fold (marked_by stops p) v (map (link_at links) places)) clear ∙ ap (λ ps. fold (marked_by stops p) None (map (link_at links) ps)) at ∙ ap (fold (marked_by stops p) None) (platform_rows (length stops) q links) in
    let rule = rows_rule stops links (length stops) p q None within s (λ k e. cc) in
    first ∙ rw (no_station_rows (length stops) links) at rule

-- the ranked rule at a platform after the rows to a stop and to its station
pub both_rule : (stops : List StopData) (links : List Link) (p q k : ℕ) (old first new : Option RankedRule) (places later : List ℕ) → q < length (platforms stops) → station_of stops q ≡ Some k → places ≡ places_of (platform_keys (length stops) links) q → later ≡ places_of (station_keys (length stops) links) k → old ≡ None
    → first ≡ fold (marked_by stops p) old (map (link_at links) places) → new ≡ fold (marked_by stops p) first (map (link_at links) later) → new ≡ ruled (said stops links p q 0) (said stops links p q 1) (said stops links p q 2)
both_rule stops links p q k old first new places later h s at to clear is then =
    let within : q < length stops = omega (arith, h, length-filter_le (λ s. is_platform s.kind) stops) in
    let one : first ≡ fold (marked_by stops p) None (filter (to_platform (length stops) q) links) = is ∙ ap (λ v. fold (marked_by stops p) v (map (link_at links) places)) clear ∙ ap (λ ps. fold (marked_by stops p) None (map (link_at links) ps)) at ∙ ap (fold (marked_by stops p) None) (platform_rows (length stops) q links) in
    let two : new ≡ fold (marked_by stops p) (fold (marked_by stops p) None (filter (to_platform (length stops) q) links)) (filter (to_station (length stops) (Some k)) links) = then ∙ ap (λ v. fold (marked_by stops p) v (map (link_at links) later)) one ∙ ap (λ ps. fold (marked_by stops p) (fold (marked_by stops p) None (filter (to_platform (length stops) q) links)) (map (link_at links) ps)) to ∙ ap (fold (marked_by stops p) (fold (marked_by stops p) None (filter (to_platform (length stops) q) links))) (station_rows (length stops) k links) in
    two ∙ rows_rule stops links (length stops) p q (Some k) within s (λ j e. let b = station_is_below stops q k s in let same : k ≡ j = cc in omega arith)

-- the places of a stop and of a station are there
pub platform_places : (stops : List StopData) (keys : List ℕ) (groups : List (List ℕ)) (q : ℕ) → HasPlaces keys (length stops) groups → q < length (platforms stops) → (q < length groups) × (get_or groups q [] ≡ places_of keys q)
platform_places stops keys groups q h below =
    let within : q < length stops + 1 = omega (arith, below, length-filter_le (λ s. is_platform s.kind) stops) in
    (omega (arith, h.many), h.each q within)

pub station_places : (stops : List StopData) (keys : List ℕ) (groups : List (List ℕ)) (q k : ℕ) → HasPlaces keys (length stops) groups → station_of stops q ≡ Some k → (k < length groups) × (get_or groups k [] ≡ places_of keys k)
station_places stops keys groups q k h s =
    let within : k < length stops + 1 = omega (arith, station_is_below stops q k s) in
    (omega (arith, h.many), h.each k within)

-- one ranked rule more at one stop
pub mark_at : (old new : List (Option RankedRule)) (m p r : ℕ) (s : Option ℕ) → m < length old → new ≡ set old m (Some (better (slot old m) r s)) → slot new p ≡ marked (p == m) (slot old p) r s
mark_at old new m p r s h e =
    elim (cases_Bool (p == m)) [
      | inl t ↦
          let same : m ≡ p = grind (arith, nat_tests, t) in
          let here : slot new m ≡ Some (better (slot old m) r s) = ap (λ slots. slot slots m) e ∙ get_or-set_same old m (Some (better (slot old m) r s)) None h in
          rw t (rw same at here)
      | inr f ↦
          let other : p ≢ m = (λ s. absurd (let t : (p == m) ≡ true = grind (arith, nat_tests, s) in let c : false ≡ true = sym f ∙ t in cc)) in
          rw f (ap (λ slots. slot slots p) e ∙ get_or-set_other old m p (Some (better (slot old m) r s)) None other)
    ]

near_by : (own near : Bool) (change : ℕ) (station : Option ℕ) → secs_of (cond own (Takes change) (cond (near && is_some station) (rule_of station) Unsaid)) ≡ secs_of (cond own (Takes change) (cond near (rule_of station) Unsaid))
near_by true near change station = refl
near_by false true change None = refl
near_by false true change (Some s) = refl
near_by false false change station = refl

first_secs : (a x y : Rule) → secs_of x ≡ secs_of y → secs_of (first_said a x) ≡ secs_of (first_said a y)
first_secs Unsaid x y e = e
first_secs Forbidden x y e = refl
first_secs (Takes secs) x y e = refl

-- the seconds at a platform after the rows and the defaults
pub last_rule : (a b c : Rule) (own near : Bool) (change : ℕ) (station : Option ℕ) (first then last : Option RankedRule) → first ≡ ruled a b c → then ≡ marked own first 3 (Some change) → last ≡ marked (near && is_some station) then 4 station
    → ranked_secs last ≡ secs_of (first_said a (first_said b (first_said c (cond own (Takes change) (cond near (rule_of station) Unsaid)))))
last_rule a b c own near change station first then last e f g =
    let defaults : Bool → Rule = λ here. cond own (Takes change) (cond here (rule_of station) Unsaid) in
    ap ranked_secs (g ∙ ap (λ v. marked (near && is_some station) v 4 station) (f ∙ ap (λ v. marked own v 3 (Some change)) e))
    ∙ ranked_is a b c own (near && is_some station) change station
    ∙ first_secs a (first_said b (first_said c (defaults (near && is_some station)))) (first_said b (first_said c (defaults near)))
    (first_secs b (first_said c (defaults (near && is_some station))) (first_said c (defaults near))
    (first_secs c (defaults (near && is_some station)) (defaults near) (near_by own near change station)))
