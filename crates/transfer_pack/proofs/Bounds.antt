-- Runs between bounds.
use Rattle.std.proofs.Common.{◌≡◌, ◌∙◌, ℕ, zero, suc, ◌-◌, ◌<◌, ◌≤◌, List, [], ◌∷◌, ◌++◌, length, get_or, take, drop, refl, ap, arith, length-append}
use Rattle.std.proofs.Math.Seq.{drop-append_seam}
use Rattle.std.proofs.lemmas.List.{drop-append-le, length-drop, take-append-le, take_all}
use Rattle.tb_base.specs.declared.transfer.Hop.{Hop}
use Rattle.transfer_pack.specs.Packed.{AreBounds, runs_in}

first_within : (a : ℕ) (bounds : List ℕ) (end : ℕ) → AreBounds (a ∷ bounds) end → a ≤ end
first_within a [] end is = omega (arith, is)
first_within a (b ∷ bounds) end are = omega (arith, are.0, first_within b bounds end are.1)

-- the bounds of runs, and the end of one more
pub bounds_more : (bounds : List ℕ) (end more : ℕ) → AreBounds bounds end → end ≤ more → AreBounds (bounds ++ more ∷ []) more
bounds_more [] end more are le = absurd are
bounds_more (a ∷ []) end more are le = (omega (arith, are, le), refl)
bounds_more (a ∷ b ∷ bounds) end more are le = (are.0, bounds_more (b ∷ bounds) end more are.1 le)

-- the runs, and one more
pub runs_more : (hops more : List Hop) (bounds : List ℕ) → AreBounds bounds (length hops) → runs_in (hops ++ more) (bounds ++ length (hops ++ more) ∷ []) ≡ runs_in hops bounds ++ more ∷ []
runs_more hops more [] are = absurd are
runs_more hops more (a ∷ []) are =
    let long : length (hops ++ more) - a ≡ length more = omega (arith, length-append hops more, are) in
    ap (λ xs. xs ∷ [])
    (ap (λ n. take n (drop a (hops ++ more))) long
    ∙ ap (λ n. take (length more) (drop n (hops ++ more))) are
    ∙ ap (take (length more)) (drop-append_seam hops more)
    ∙ take_all (length more) more (omega arith))
runs_more hops more (a ∷ b ∷ bounds) are =
    let within : b ≤ length hops = first_within b bounds (length hops) are.1 in
    let short : b - a ≤ length (drop a hops) = omega (arith, within, are.0, length-drop a hops) in
    let same : take (b - a) (drop a (hops ++ more)) ≡ take (b - a) (drop a hops)
    = ap (take (b - a)) (drop-append-le a hops more (omega (arith, within, are.0))) ∙ take-append-le (b - a) (drop a hops) more short in
    ap (λ x. x ∷ runs_in (hops ++ more) (b ∷ (bounds ++ length (hops ++ more) ∷ []))) same ∙ ap (λ xs. take (b - a) (drop a hops) ∷ xs) (runs_more hops more (b ∷ bounds) are.1)

-- there is a run between each bound and the next
pub length-runs_in : (hops : List Hop) (bounds : List ℕ) (end : ℕ) → AreBounds bounds end → length bounds ≡ suc (length (runs_in hops bounds))
length-runs_in hops [] end are = absurd are
length-runs_in hops (a ∷ []) end are = refl
length-runs_in hops (a ∷ b ∷ bounds) end are = ap suc (length-runs_in hops (b ∷ bounds) end are.1)

-- the bounds of a run
pub record IsRun (hops : List Hop) (bounds : List ℕ) (end k : ℕ) : Type 0 where
  pub from : get_or bounds k 0 ≤ get_or bounds (suc k) 0
  pub to : get_or bounds (suc k) 0 ≤ end
  pub run : get_or (runs_in hops bounds) k [] ≡ take (get_or bounds (suc k) 0 - get_or bounds k 0) (drop (get_or bounds k 0) hops)

pub run_at : (hops : List Hop) (bounds : List ℕ) (end k : ℕ) → AreBounds bounds end → suc k < length bounds → IsRun hops bounds end k
run_at hops [] end k are inside = absurd are
run_at hops (a ∷ []) end k are inside = absurd (omega (arith, inside))
run_at hops (a ∷ b ∷ bounds) end zero are inside = record { from = are.0; to = first_within b bounds end are.1; run = refl }
run_at hops (a ∷ b ∷ bounds) end (suc k) are inside =
    let r : IsRun hops (b ∷ bounds) end k = run_at hops (b ∷ bounds) end k are.1 (omega (arith, inside)) in
    record { from = r.from; to = r.to; run = r.run }
