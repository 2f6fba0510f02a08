use Rattle.std.proofs.Common.{◌≡◌, ◌∙◌, ℕ, ◌-◌, ◌++◌, [], List, rules, map, take, sym, ap, subst, arith, to_z, of_z, w32, ℤ, pos, ◌≤ℤ◌}
use Rattle.std.proofs.lemmas.Int.{ints, to_z-of_z}
use Rattle.tb_base.specs.BestValues.{QueryData}
use Rattle.tb_base.specs.Profiles.{OfferData, WindowData}
use Rattle.tb_base.specs.declared.query.Slot.{Slot}
use Rattle.tb_base.specs.declared.query.Value.{Value}
use Rattle.tb_base.specs.declared.transfer.Hop.{Hop}
use Rattle.segment_queue.specs.declared.desk.Hit.{Hit}
use Rattle.query_gate.specs.Slots.{slots_at}
use Rattle.query_gate.proofs.Rest.{query_at}
use Rattle.query_gate.proofs.Walk.{IsWalked, asked_sooner, asked_within, legs_follow, legs_spell, query_on, walk_begun, walk_ended, walked_on}
use Rattle.query_gate.proofs.offers.offers_of.Goals as goal

pub loop-time-init : goal.loop-time-init
loop-time-init g c =
    let T = c.args.table.now in
    let W : WindowData = c.args.window.now in
    let hops : ℕ → ℕ → List Hop = (g.S.Scan.net c.args.scan.now).hops in
    let Q : QueryData = c.in_ok-query.query in
    let times : List ℤ = c.in_ok-times.times.items in
    let values : List Value = c.begin.new.sweep.values in
    let none : ◌≡◌ {A = List OfferData} c.new-offers.result.items [] = c.new-offers.ensures.items in
    record {
      fits = c.begin.ensures.fits;
      swept = c.in_ok-begin.ensures.swept;
      walked = subst (λ (os : List OfferData). IsWalked T W hops Q times values os) (sym none)
          (walk_begun T c.soundness.ensures W hops Q times values c.in_ok-query.ensures c.in_ok-times.ensures c.in_ok-begin.ensures.later);
    }

at_most_last : (a b : ℤ) → a ≤ℤ b → b ≤ℤ pos 359999 → a ≤ℤ pos 359999
at_most_last a b g h = omega (arith, ints, g, h)

pub search-requires-clause-leave : goal.search-requires-clause-leave
search-requires-clause-leave g c =
    let W : WindowData = c.args.window.now in
    let hops : ℕ → ℕ → List Hop = (g.S.Scan.net c.args.scan.now).hops in
    let Q : QueryData = c.loop-time.query in
    let new : QueryData = c.ask_at.new.query in
    let time : ℤ = c.in-Some.time in
    let walked = c.loop-time.invariant.walked in
    let asked : new ≡ query_at W time = query_on W Q new (to_z w32 (of_z w32 time)) time walked.query c.ask_at.ensures (to_z-of_z w32 time (search rules)) in
    at_most_last new.leave W.last
    (asked_within c.args.table.now c.soundness.ensures W hops Q new c.loop-time.times.items c.pop.new.self.items time c.loop-time.sweep.values c.loop-time.offers.items walked c.in-Some.ensures.items asked)
    c.requires.last

pub search-requires-clause-later : goal.search-requires-clause-later
search-requires-clause-later g c =
    let W : WindowData = c.args.window.now in
    let hops : ℕ → ℕ → List Hop = (g.S.Scan.net c.args.scan.now).hops in
    let Q : QueryData = c.loop-time.query in
    let new : QueryData = c.ask_at.new.query in
    let time : ℤ = c.in-Some.time in
    let walked = c.loop-time.invariant.walked in
    let asked : new ≡ query_at W time = query_on W Q new (to_z w32 (of_z w32 time)) time walked.query c.ask_at.ensures (to_z-of_z w32 time (search rules)) in
    asked_sooner c.args.table.now c.soundness.ensures W hops Q new c.loop-time.times.items c.pop.new.self.items time c.loop-time.sweep.values c.loop-time.offers.items walked c.in-Some.ensures.items asked
    (g.S.Scan.net c.args.scan.now) c.loop-time.desk c.loop-time.sweep c.loop-time.invariant.swept

pub loop-time-preserved : goal.loop-time-preserved
loop-time-preserved g c =
    let W : WindowData = c.args.window.now in
    let hops : ℕ → ℕ → List Hop = (g.S.Scan.net c.args.scan.now).hops in
    let Q : QueryData = c.loop-time.query in
    let new : QueryData = c.ask_at.new.query in
    let time : ℤ = c.in-Some.time in
    let walked = c.loop-time.invariant.walked in
    let asked : new ≡ query_at W time = query_on W Q new (to_z w32 (of_z w32 time)) time walked.query c.ask_at.ensures (to_z-of_z w32 time (search rules)) in
    let later : List Value = c.loop-time.sweep.values in
    let values : List Value = map (λ (h : Hit). h.value) c.search.new.desk.hits in
    let so_far : List Value = c.search.new.sweep.values in
    let offers : List OfferData = c.loop-time.offers.items in
    let more : List OfferData = c.add_offers.new.offers.items in
    let copied : ◌≡◌ {A = List Value} c.copy_values.new.values.items later = c.in_ok-copy_values.ensures ∙ c.values.ensures in
    let added : ◌≡◌ {A = List Slot} (map OfferData.slot more) (map OfferData.slot offers ++ slots_at new.leave later values)
    = subst (λ (vs : List Value). ◌≡◌ {A = List Slot} (map OfferData.slot more) (map OfferData.slot offers ++ slots_at new.leave vs values)) (c.as_slice.ensures.value ∙ copied) c.in_ok-add_offers.ensures.slots in
    record {
      fits = c.search.ensures.fits;
      swept = c.in_ok-search.ensures.swept;
      walked = walked_on c.args.table.now c.soundness.ensures W hops Q new c.loop-time.times.items c.pop.new.self.items time later offers walked c.in-Some.ensures.items asked
          values so_far more c.in_ok-search.ensures.found c.in_ok-search.ensures.later added (c.in_ok-add_offers.ensures.shown hops c.in_ok-search.ensures.hops);
    }

pub returns-clause-slots : goal.returns-clause-slots
returns-clause-slots g c =
    let T = c.args.table.now in
    let W : WindowData = c.args.window.now in
    let hops : ℕ → ℕ → List Hop = (g.S.Scan.net c.args.scan.now).hops in
    let Q : QueryData = c.loop-time.query in
    let times : List ℤ = c.loop-time.times.items in
    let later : List Value = c.loop-time.sweep.values in
    let offers : List OfferData = c.loop-time.offers.items in
    let none : times ≡ [] = c.in_default.ensures.items ∙ ap (λ (ys : List ℤ). ys ++ []) (c.in_default.ensures.rest ∙ ap (λ n. take (n - 1) times) c.in_default.ensures.cases.0) in
    walk_ended T c.soundness.ensures W hops Q later offers (subst (λ (ts : List ℤ). IsWalked T W hops Q ts later offers) none c.loop-time.invariant.walked)

pub returns-clause-journeys : goal.returns-clause-journeys
returns-clause-journeys g c =
    legs_spell c.args.table.now c.soundness.ensures c.args.window.now (g.S.Scan.net c.args.scan.now).hops c.loop-time.query c.loop-time.times.items c.loop-time.sweep.values c.loop-time.offers.items c.loop-time.invariant.walked

pub returns-clause-hops : goal.returns-clause-hops
returns-clause-hops g c =
    legs_follow c.args.table.now c.soundness.ensures c.args.window.now (g.S.Scan.net c.args.scan.now).hops c.loop-time.query c.loop-time.times.items c.loop-time.sweep.values c.loop-time.offers.items c.loop-time.invariant.walked
