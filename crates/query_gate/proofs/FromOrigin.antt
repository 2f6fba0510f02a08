-- Who leaves an origin departs there, or at a stop to which a path leads.
use Rattle.std.proofs.Common.{◌≡◌, ◌∙◌, refl, ℕ, ◌<◌, ◌⊎◌, inl, inr, List, ◌∷◌, length, get_or, sym, ap, subst, arith, Option, Some, None, ℤ, pos, ◌+ℤ◌, ◌-ℤ◌}
use Rattle.std.specs.Prelude.{All, AllPairs, slice_get, IsSome}
use Rattle.std.proofs.lemmas.Int.{ints}
use Rattle.std.proofs.lemmas.List.{get_or_default}
use Rattle.tb_base.specs.declared.table.Path.{Path}
use Rattle.tb_base.specs.TimetableData.{TimetableData}
use Rattle.tb_base.specs.Journeys.{Ride, IsJourney, boarding_stop, boarding_time, leaving_time, walk_secs}
use Rattle.tb_base.specs.Soundness.{IsSoundPath}
use Rattle.tb_base.specs.Walking.{walk}
use Rattle.tb_base.proofs.Events.{MayAlight-inside}
use Rattle.tb_laws.proofs.Triangles.{walk-same, walk_secs-is}
use Rattle.earliest_query.proofs.FromOrigins.{IsByPath, path_walk, walked_to}
use Rattle.query_gate.specs.Leaving.{DepartsAt, IsLeavingTime, LeavesFor}

abbrev pub no_path : Path
no_path = record { to = 0; secs = 0 }

-- one leaves for a departure behind this path
abbrev pub LeavesBy : TimetableData → Path → ℤ → Type 0
LeavesBy T path n = DepartsAt T path.to (n +ℤ pos path.secs)

module _ (T : TimetableData) (origin : ℕ) (paths : List Path) (row : slice_get T.footpaths.paths origin ≡ Some paths)
    (ascending : AllPairs (λ (f g : Path). f.to < g.to) paths) (sound : All (IsSoundPath (length T.stops) origin) paths) where
  -- who departs at the origin, or behind a path from it, leaves it then
  pub leaves : (n : ℤ) → DepartsAt T origin (n +ℤ pos 0) ⊎ ((k : ℕ) × (k < length paths) × LeavesBy T (get_or paths k no_path) n) → LeavesFor T origin n
  leaves n (inl d) = record { stop = origin; secs = 0; walks = walk-same T origin; departs = d }
  leaves n (inr (k, inside, d)) =
      let path : Path = get_or paths k no_path in
      record {
        stop = path.to;
        secs = path.secs;
        walks = path_walk T origin paths k path row ascending inside (λ e. get_or_default paths k e no_path inside) (sound k no_path inside).away;
        departs = d;
      }

  -- and so does whoever leaves it
  pub by_walk : (n : ℤ) → LeavesFor T origin n → DepartsAt T origin (n +ℤ pos 0) ⊎ ((k : ℕ) × (k < length paths) × LeavesBy T (get_or paths k no_path) n)
  by_walk n l = by_case (walked_to T origin paths l.stop l.secs row l.walks)
    where
      by_case : ((l.stop ≡ origin) × (l.secs ≡ 0)) ⊎ IsByPath paths l.stop l.secs → DepartsAt T origin (n +ℤ pos 0) ⊎ ((k : ℕ) × (k < length paths) × LeavesBy T (get_or paths k no_path) n)
      by_case (inl e) = inl (subst (λ s. DepartsAt T s (n +ℤ pos 0)) e.0 (subst (λ x. DepartsAt T l.stop (n +ℤ pos x)) e.1 l.departs))
      by_case (inr b) =
          let path : Path = get_or paths b.index no_path in
          let to : path.to ≡ l.stop = ap (λ (p : Path). p.to) (b.is no_path) ∙ b.to in
          let secs : path.secs ≡ l.secs = ap (λ (p : Path). p.secs) (b.is no_path) ∙ b.secs in
          inr (b.index, b.inside, subst (λ s. DepartsAt T s (n +ℤ pos path.secs)) (sym to) (subst (λ x. DepartsAt T l.stop (n +ℤ pos x)) (sym secs) l.departs))

-- a journey with rides leaves at a leaving time
pub leaves_in_time : (T : TimetableData) (origins targets : List ℕ) (o : ℕ) (r : Ride) (rest : List Ride) (q : ℕ) → IsJourney T origins targets (record { origin = o; rides = r ∷ rest; target = q }) → IsLeavingTime T origins (leaving_time T o r)
leaves_in_time T origins targets o r rest q journey = (o, journey.origin, by_walk (walk T o (boarding_stop T r)) refl journey.leads.0)
  where
    back : (a b : ℤ) (s : ℕ) → b ≡ pos s → a ≡ ((a -ℤ b) +ℤ pos s)
    back a b s e = omega (arith, ints, e)

    by_walk : (w : Option ℕ) → w ≡ walk T o (boarding_stop T r) → IsSome w → LeavesFor T o (leaving_time T o r)
    by_walk None e there = cc
    by_walk (Some secs) e there =
        record {
          stop = boarding_stop T r;
          secs = secs;
          walks = sym e;
          departs = record {
            trip = r.trip;
            board = r.board;
            boards = journey.leads.1.boards;
            not_last = omega (arith, journey.leads.1.onward, (MayAlight-inside T r.trip r.alight journey.leads.1.alights).1);
            here = refl;
            departs = back (boarding_time T r) (walk_secs T o (boarding_stop T r)) secs (walk_secs-is T o (boarding_stop T r) secs (sym e));
          };
        }
