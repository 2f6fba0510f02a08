-- The events of a trip, each with the hops that it has in a set.
use Rattle.std.proofs.Common.{◌≡◌, ◌∙◌, ℕ, suc, ◌+◌, ◌-◌, ◌<◌, List, [], ◌∷◌, ◌++◌, length, get_or, take, sym, ap, subst, arith, length-append}
use Rattle.std.specs.Prelude.{flat_map}
use Rattle.std.specs.List.{range_with_len}
use Rattle.std.proofs.lemmas.Grind.{flat_map-append}
use Rattle.std.proofs.lemmas.List.{append-nil, append_assoc}
use Rattle.tb_base.specs.declared.transfer.Hop.{Hop}
use Rattle.tb_base.specs.declared.table.Event.{Event}
use Rattle.tb_base.proofs.Lists.{range_more}
use Rattle.transfer_pack.specs.Adding.{AddsEvents}
use Rattle.transfer_pack.specs.CallsOf.{call_of}
use Rattle.transfer_pack.specs.Packed.{AreBounds, hops_before, runs_in}
use Rattle.transfer_pack.specs.Spots.{calls_beside, ends_in}
use Rattle.transfer_pack.specs.declared.set.Spot.{Spot}
use Rattle.transfer_pack.proofs.Packing.{event_added}

-- no event
pub none_added : (from : ℕ → List Hop) (events : List Event) (hops : List Hop) (spots : List Spot) → AreBounds (ends_in spots) (length hops) → AddsEvents from (take 0 events) hops (hops ++ []) spots spots
none_added from events hops spots are =
    subst (λ hs. AddsEvents from [] hops hs spots spots) (sym (append-nil hops)) (record { bounds = are; runs = sym (append-nil (runs_in hops (ends_in spots))); calls = sym (append-nil (calls_beside spots)) })

-- a trip without an event
pub none_there : (from : ℕ → List Hop) (events : List Event) (hops : List Hop) (spots : List Spot) → length events ≡ 0 → AreBounds (ends_in spots) (length hops) → AddsEvents from events hops hops spots spots
none_there from [] hops spots none are = record { bounds = are; runs = sym (append-nil (runs_in hops (ends_in spots))); calls = sym (append-nil (calls_beside spots)) }
none_there from (e ∷ events) hops spots none are = absurd (omega (arith, none))

-- the hops before the next event
pub before_more : (hops_from : ℕ → ℕ → List Hop) (t at : ℕ) → hops_before hops_from t 0 (at + 1) ≡ hops_before hops_from t 0 at ++ hops_from t at
before_more hops_from t at =
    ap (λ n. flat_map (hops_from t) (range_with_len 0 n)) (many at)
    ∙ ap (flat_map (hops_from t)) (range_more 0 (at - 0))
    ∙ flat_map-append (hops_from t) (range_with_len 0 (at - 0)) ((0 + (at - 0)) ∷ [])
    ∙ ap (λ hs. hops_before hops_from t 0 at ++ hs) (append-nil (hops_from t (0 + (at - 0))) ∙ ap (hops_from t) (last at))
  where
    many : (at : ℕ) → (at + 1) - 0 ≡ suc (at - 0)
    many at = omega arith

    last : (at : ℕ) → 0 + (at - 0) ≡ at
    last at = omega arith

-- one event more
pub kept_added : (hops_from : ℕ → ℕ → List Hop) (t : ℕ) (events : List Event) (e : Event) (at : ℕ) (hops : List Hop) (first end : ℕ) (before spots spots' : List Spot) → AddsEvents (hops_from t) (take at events) hops (hops ++ hops_before hops_from t 0 at) before spots → at < length events → e ≡ get_or events at e → length hops ≡ first
    → end ≡ first + length (hops_before hops_from t 0 (at + 1)) → ends_in spots' ≡ ends_in spots ++ end ∷ [] → calls_beside spots' ≡ calls_beside spots ++ call_of e ∷ [] → AddsEvents (hops_from t) (take (at + 1) events) hops (hops ++ hops_before hops_from t 0 (at + 1)) before spots'
kept_added hops_from t events e at hops first end before spots spots' are inside e_is long ends ends_are calls_are =
    let more : List Hop = hops_before hops_from t 0 (at + 1) in
    let there : end ≡ length (hops ++ more) = omega (arith, ends, long, length-append hops more) in
    event_added (hops_from t) events e at hops (hops ++ hops_before hops_from t 0 at) (hops ++ more) before spots spots' are inside e_is
    (ap (λ hs. hops ++ hs) (before_more hops_from t at) ∙ sym (append_assoc hops (hops_before hops_from t 0 at) (hops_from t at)))
    (ends_are ∙ ap (λ n. ends_in spots ++ n ∷ []) there) calls_are
