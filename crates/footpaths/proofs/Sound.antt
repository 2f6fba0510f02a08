-- Change times and footpaths of platforms are sound, the law aside.
use Rattle.std.proofs.Common.{◌≡◌, ◌∙◌, sym, ap, subst, refl, ℕ, zero, suc, ◌+◌, ◌<◌, ◌≤◌, List, [], ◌∷◌, length, map, get_or, Bool, true, false, ◌&&◌, cond, Option, Some, None, arith, inl, inr}
use Rattle.std.specs.Prelude.{◌==◌, All, AllPairs, IfSome, filter, filter_map, nat_lt, option_map, Ok}
use Rattle.std.specs.List.{range_with_len}
use Rattle.std.proofs.lemmas.Bool.{cases_Bool}
use Rattle.std.proofs.lemmas.Bool.Decides.{nat_tests}
use Rattle.std.proofs.lemmas.List.Elements.{All-filter, All-map, All-head, All-tail, All-cons, All-nil}
use Rattle.std.proofs.lemmas.List.Kept.{AllPairs-cons}
use Rattle.std.proofs.lemmas.List.FromFn.{length-map-range_with_len, get_or-map-range_with_len}
use Rattle.tb_base.specs.declared.table.Path.{Path}
use Rattle.tb_base.specs.Soundness.{IsSoundPath, IsSoundFootpaths}
use Rattle.gtfs_rows.specs.StopsFile.{StopData}
use Rattle.gtfs_rows.specs.TransfersFile.{TakesAtMostADay, TransferData}
use Rattle.gtfs_rows.specs.declared.transfers.PathRule.{PathRule}
use Rattle.gtfs_rows.specs.declared.transfers.PathRule.TheVariants as rule
use Rattle.footpaths.specs.declared.found.Link.{Link}
use Rattle.footpaths.specs.declared.paths.Options.{Options}
use Rattle.footpaths.specs.Stops.{station_of}
use Rattle.footpaths.specs.Links.{secs_by, link_of, links_of}
use Rattle.footpaths.specs.Footpaths.{Changes, Rule, Unsaid, Forbidden, Takes, rule_of, longer, longest, first_said, secs_of, said, default_rule, fits, rank, have_one_station, secs_between, path_to, paths_from, paths_of, numbers, check_count}
use Rattle.tb_base.specs.TimetableData.{FootpathData, path_total}

abbrev IsDay : Option ℕ → Type 0
IsDay o = IfSome o (λ secs. secs ≤ 86400)

longer_day : (a b : Rule) → IsDay (secs_of a) → IsDay (secs_of b) → IsDay (secs_of (longer a b))
longer_day Unsaid b h k = k
longer_day Forbidden b h k = tt
longer_day (Takes a) Unsaid h k = h
longer_day (Takes a) Forbidden h k = tt
longer_day (Takes a) (Takes b) h k = omega arith

longest_day : (rules : List Rule) → All (λ r. IsDay (secs_of r)) rules → IsDay (secs_of (longest rules))
longest_day [] h = tt
longest_day (r ∷ rules) h = longer_day r (longest rules) (All-head (λ r. IsDay (secs_of r)) r rules h) (longest_day rules (All-tail (λ r. IsDay (secs_of r)) r rules h))

first_day : (a b : Rule) → IsDay (secs_of a) → IsDay (secs_of b) → IsDay (secs_of (first_said a b))
first_day Unsaid b h k = k
first_day Forbidden b h k = tt
first_day (Takes a) b h k = h

rule_of_day : (secs : Option ℕ) → IsDay secs → IsDay (secs_of (rule_of secs))
rule_of_day None h = tt
rule_of_day (Some secs) h = h

default_day : (own near : Bool) (change : ℕ) (station : Option ℕ) → change ≤ 86400 → IsDay station → IsDay (secs_of (cond own (Takes change) (cond near (rule_of station) Unsaid)))
default_day true near change station h k = h
default_day false true change station h k = rule_of_day station k
default_day false false change station h k = tt

rule_day : (change : ℕ) (r : PathRule) → change ≤ 86400 → TakesAtMostADay r → IsDay (secs_by change r)
rule_day change (rule.Secs s) h k = k
rule_day change rule.Default h k = h
rule_day change rule.Forbidden h k = tt

-- the seconds from one platform to another are at most a day
pub secs_day : (stops : List StopData) (options : Options) (rows : List TransferData) (p q : ℕ) → options.change ≤ 86400 → IfSome options.station (λ secs. secs ≤ 86400) → All (λ r. TakesAtMostADay (TransferData.rule r)) rows
    → IfSome (secs_between stops options (links_of stops options.change rows) p q) (λ secs. secs ≤ 86400)
secs_day stops options rows p q h k days =
    let links = links_of stops options.change rows in
    let each : All (λ l. IsDay (secs_of (rule_of (Link.secs l)))) links = All-map (λ l. IsDay (secs_of (rule_of (Link.secs l)))) (link_of stops options.change) rows (λ i d below. rule_of_day _ (rule_day options.change _ h (days i d below))) in
    let of_rank : (r : ℕ) → IsDay (secs_of (said stops links p q r)) = (λ r. longest_day _ (All-map (λ w. IsDay (secs_of w)) (λ l. rule_of (Link.secs l)) (filter (λ l. fits stops p q l && (rank l == r)) links)
    (All-filter (λ l. fits stops p q l && (rank l == r)) (λ l. IsDay (secs_of (rule_of (Link.secs l)))) links each))) in
    let default : IsDay (secs_of (default_rule stops options p q)) = default_day (p == q) (have_one_station (station_of stops q) (station_of stops p)) options.change options.station h k in
    first_day _ _ (of_rank 0) (first_day _ _ (of_rank 1) (first_day _ _ (of_rank 2) default))

-- a footpath that is given is sound, and leads to its stop
path_is : (n p q : ℕ) (o : Option ℕ) (f : Path) → path_to p q o ≡ Some f → IfSome o (λ secs. secs ≤ 86400) → q < n → IsSoundPath n p f × (f.to ≡ q)
path_is n p q o f e k h =
    elim (cases_Bool (p == q)) [
      | inl t ↦ absurd (let c : None ≡ Some f = rw t at e in cc)
      | inr m ↦ by_secs o k (rw m at e) (λ s. absurd (let t : (p == q) ≡ true = grind (arith, nat_tests, s) in let c : false ≡ true = sym m ∙ t in cc))
    ]
  where
    by_secs : (o : Option ℕ) → IfSome o (λ secs. secs ≤ 86400) → option_map (λ s. record { to = q; secs = s }) o ≡ Some f → (q ≡ p → ⊥) → IsSoundPath n p f × (f.to ≡ q)
    by_secs None k e l = cc
    by_secs (Some s) k e l =
        let is : record { to = q; secs = s } ≡ f = cc in
        (subst (λ g. IsSoundPath n p g) is (record { to = h; away = l; secs = k }), sym (ap (λ (g : Path). g.to) is))

-- the footpaths to so many stops, from one on: sound, in order, and to none before
abbrev paths_in : Changes → ℕ → ℕ → ℕ → List Path
paths_in given p a k = filter_map (λ q. path_to p q (given p q)) (range_with_len a k)

record IsSoundRow (n p a : ℕ) (row : List Path) : Type 0 where
  paths : All (IsSoundPath n p) row
  after : All (λ (f : Path). a ≤ f.to) row
  ascending : AllPairs (λ (f g : Path). f.to < g.to) row

none_sound : (n p a : ℕ) → IsSoundRow n p a []
none_sound n p a = record { paths = All-nil (IsSoundPath n p); after = All-nil (λ (f : Path). a ≤ f.to); ascending = λ i j d h k. absurd (omega arith) }

later : (n p a : ℕ) (row : List Path) → IsSoundRow n p (a + 1) row → IsSoundRow n p a row
later n p a row h = record { paths = h.paths; after = λ i d k. (let w = h.after i d k in omega arith); ascending = h.ascending }

row_cons : (n p a : ℕ) (f : Path) (row : List Path) → IsSoundPath n p f → f.to ≡ a → IsSoundRow n p (a + 1) row → IsSoundRow n p a (f ∷ row)
row_cons n p a f row s e h = record {
  paths = All-cons (IsSoundPath n p) f row s h.paths;
  after = All-cons (λ (f : Path). a ≤ f.to) f row (omega arith) (λ i d k. (let w = h.after i d k in omega arith));
  ascending = AllPairs-cons (λ (f g : Path). f.to < g.to) f row (λ i d k. (let w = h.after i d k in omega arith)) h.ascending;
}

row_sound : (given : Changes) (n p : ℕ) → ((q : ℕ) → IfSome (given p q) (λ secs. secs ≤ 86400)) → (k a : ℕ) → a + k ≤ n → IsSoundRow n p a (paths_in given p a k)
row_sound given n p day zero a h = none_sound n p a
row_sound given n p day (suc k) a h = by_path (path_to p a (given p a)) refl (row_sound given n p day k (a + 1) (omega arith))
  where
    by_path : (o : Option Path) → path_to p a (given p a) ≡ o → IsSoundRow n p (a + 1) (paths_in given p (a + 1) k) → IsSoundRow n p a (paths_in given p a (suc k))
    by_path None e rest = rw e (later n p a (paths_in given p (a + 1) k) rest)
    by_path (Some f) e rest = (let w = path_is n p a (given p a) f e (day a) (omega arith) in rw e (row_cons n p a f (paths_in given p (a + 1) k) w.0 w.1 rest))

small_total : (P Q : FootpathData) → check_count P ≡ Ok Q → (path_total P ≤ 2000000) × (P ≡ Q)
small_total P Q e =
    elim (cases_Bool (nat_lt 2000000 (path_total P))) [
      | inl t ↦ absurd (let c = rw t at e in cc)
      | inr f ↦ (let few : path_total P ≤ 2000000 = grind (arith, nat_tests, f) in let c : Ok P ≡ Ok Q = rw f at e in (few, cc))
    ]

-- change times and footpaths that are few enough are sound
pub sound_paths : (given : Changes) (n : ℕ) (P : FootpathData) → n ≤ 100000 → ((p q : ℕ) → IfSome (given p q) (λ secs. secs ≤ 86400)) → check_count (paths_of n given) ≡ Ok P → IsSoundFootpaths P
sound_paths given n P few day e =
    let c = small_total (paths_of n given) P e in
    let many : length (FootpathData.change (paths_of n given)) ≡ n = length-map-range_with_len (λ p. given p p) 0 n in
    let rows : length (FootpathData.paths (paths_of n given)) ≡ n = length-map-range_with_len (paths_from n given) 0 n in
    subst IsSoundFootpaths c.1 (record {
      few = omega arith;
      rows = rows ∙ sym many;
      footpaths = c.0;
      change_secs = All-map (λ c. IfSome c (λ secs. secs ≤ 86400)) (λ p. given p p) (numbers n) (λ i d h. day _ _);
      paths = λ p h.
          (let below : p < n = omega arith in
          let row : get_or (map (paths_from n given) (numbers n)) p [] ≡ paths_from n given p = get_or-map-range_with_len (paths_from n given) 0 n p p [] below (omega arith) in
          let sound : All (IsSoundPath n p) (paths_from n given p) = (row_sound given n p (day p) n 0 (omega arith)).paths in
          rw (row, many) sound);
      ascending = All-map (λ (row : List Path). AllPairs (λ (f g : Path). f.to < g.to) row) (paths_from n given) (numbers n) (λ i d h. (row_sound given n _ (day _) n 0 (omega arith)).ascending);
    })
