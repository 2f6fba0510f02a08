-- The walk over a window, from its end to its beginning.
use Rattle.std.proofs.Common.{◌≡◌, ◌∙◌, ℕ, List, [], ◌∷◌, ◌++◌, map, refl, sym, ap, subst, arith, ℤ, pos, ◌+ℤ◌, ◌≤ℤ◌, ◌<ℤ◌}
use Rattle.tb_base.specs.Network.{NetData}
use Rattle.std.specs.Prelude.{All}
use Rattle.std.proofs.lemmas.Int.{ints}
use Rattle.std.proofs.lemmas.List.Elements.{All-nil, All-weaker}
use Rattle.tb_base.specs.declared.query.Value.{Value}
use Rattle.tb_base.specs.declared.transfer.Hop.{Hop}
use Rattle.tb_base.specs.TimetableData.{TimetableData}
use Rattle.tb_base.specs.BestValues.{QueryData}
use Rattle.tb_base.specs.JourneyRules.{SpellSlot}
use Rattle.tb_base.specs.Profiles.{OfferData, WindowData, IsProfile}
use Rattle.tb_base.specs.Soundness.{IsSound}
use Rattle.segment_queue.specs.Queue.{DeskData}
use Rattle.segment_queue.specs.Traced.{LegsFollow}
use Rattle.earliest_query.specs.Sweeping.{IsSweptSoFar, SweepData}
use Rattle.query_gate.specs.Leaving.{AreLeavingTimes}
use Rattle.query_gate.specs.Slots.{AreFound, AreLater, IsShown, slots_at}
use Rattle.query_gate.proofs.Gathering.{IsTaken, last_taken}
use Rattle.query_gate.proofs.Offering.{all_spell}
use Rattle.query_gate.proofs.Rest.{AreFrom, none_after, one_time_more, query_at, whole_profile}
use Rattle.tb_base.proofs.NumberFacts.{≤ℤ-refl, <ℤ-weaker}

-- The window has been walked from its end back to the time of the query: these times are left,
-- these are the values of all who leave then or later, and these are the offers.
pub record IsWalked (T : TimetableData) (W : WindowData) (hops : ℕ → ℕ → List Hop) (Q : QueryData) (times : List ℤ) (later : List Value) (offers : List OfferData) : Type 0 where
  pub query : Q ≡ query_at W Q.leave
  pub within : Q.leave ≤ℤ (W.last +ℤ pos 1)
  pub left : AreLeavingTimes T W Q.leave times
  pub found : AreLater T (query_at W Q.leave) later
  pub slots : AreFrom T W Q.leave (map OfferData.slot offers)
  pub shown : All (IsShown T W.from W.to hops) offers

-- the query of a window, asked at another time
pub query_on : (W : WindowData) (Q new : QueryData) (asked time : ℤ) → Q ≡ query_at W Q.leave → new ≡ record { from = Q.from; to = Q.to; leave = asked } → asked ≡ time → new ≡ query_at W time
query_on W Q new asked time query e same = e ∙ ap (λ (q : QueryData). record { from = q.from; to = q.to; leave = asked }) query ∙ ap (query_at W) same

module _ (T : TimetableData) (sound : IsSound T) (W : WindowData) (hops : ℕ → ℕ → List Hop) where
  -- at its end
  pub walk_begun : (Q : QueryData) (times : List ℤ) (later : List Value) → Q ≡ query_at W (W.last +ℤ pos 1) → AreLeavingTimes T W (W.last +ℤ pos 1) times → AreLater T Q later → IsWalked T W hops Q times later []
  walk_begun Q times later e are found =
      subst (λ q. IsWalked T W hops q times later []) (sym e) (record {
        query = refl;
        within = ≤ℤ-refl (W.last +ℤ pos 1);
        left = are;
        found = subst (λ q. AreLater T q later) e found;
        slots = none_after T W;
        shown = All-nil (IsShown T W.from W.to hops);
      })

  -- The last of the times that are left is taken, and the query is asked again at it.
  module _ (Q new : QueryData) (times rest : List ℤ) (time : ℤ) (later : List Value) (offers : List OfferData) (walked : IsWalked T W hops Q times later offers) (popped : times ≡ rest ++ time ∷ []) (asked : new ≡ query_at W time) where
    taken : IsTaken T W Q.leave rest time
    taken = last_taken T W Q.leave rest time (subst (AreLeavingTimes T W Q.leave) popped walked.left)

    pub asked_within : new.leave ≤ℤ W.last
    asked_within = subst (λ q. q.leave ≤ℤ W.last) (sym asked) taken.one.not_after

    -- a sweep that has come down to the query can come down to it again
    pub asked_sooner : (N : NetData) (D : DeskData) (S : SweepData) → IsSweptSoFar N Q D S → (l : ℤ) × (new.leave ≤ℤ l) × IsSweptSoFar N (record { from = new.from; to = new.to; leave = l }) D S
    asked_sooner N D S swept = (
      Q.leave,
      subst (λ q. q.leave ≤ℤ Q.leave) (sym asked) (<ℤ-weaker time Q.leave taken.one.before),
      subst (λ q. IsSweptSoFar N (record { from = q.from; to = q.to; leave = Q.leave }) D S) (sym asked) (subst (λ q. IsSweptSoFar N q D S) walked.query swept),
    )

    -- so the window has been walked one time further
    pub walked_on : (values so_far : List Value) (more : List OfferData) → AreFound T new later values → AreLater T new so_far → map OfferData.slot more ≡ map OfferData.slot offers ++ slots_at new.leave later values →
        (All (IsShown T new.from new.to hops) offers → All (IsShown T new.from new.to hops) more) → IsWalked T W hops new rest so_far more
    walked_on values so_far more found are_later added shown =
        let found_now : AreFound T (query_at W time) later values = subst (λ q. AreFound T q later values) asked found in
        let added_now : map OfferData.slot more ≡ map OfferData.slot offers ++ slots_at time later values = subst (λ (q : QueryData). map OfferData.slot more ≡ map OfferData.slot offers ++ slots_at q.leave later values) asked added in
        subst (λ q. IsWalked T W hops q rest so_far more) (sym asked) (record {
          query = refl;
          within = inside time W.last taken.one.not_after;
          left = taken.remain;
          found = subst (λ q. AreLater T q so_far) asked are_later;
          slots = subst (AreFrom T W time) (sym added_now)
              (one_time_more T sound W Q.leave time later values taken.one taken.gap (λ n h. before n Q.leave W.last h walked.within) walked.found found_now (map OfferData.slot offers) walked.slots);
          shown = subst (λ (q : QueryData). All (IsShown T q.from q.to hops) offers → All (IsShown T q.from q.to hops) more) asked shown walked.shown;
        })
      where
        inside : (a b : ℤ) → a ≤ℤ b → a ≤ℤ (b +ℤ pos 1)
        inside a b h = omega (arith, ints, h)

        before : (a b c : ℤ) → a <ℤ b → b ≤ℤ (c +ℤ pos 1) → a ≤ℤ c
        before a b c g h = omega (arith, ints, g, h)

  -- at its beginning
  pub walk_ended : (Q : QueryData) (later : List Value) (offers : List OfferData) → IsWalked T W hops Q [] later offers → IsProfile T W (map OfferData.slot offers)
  walk_ended Q later offers walked = whole_profile T W Q.leave (map OfferData.slot offers) walked.slots walked.left

  pub legs_spell : (Q : QueryData) (times : List ℤ) (later : List Value) (offers : List OfferData) → IsWalked T W hops Q times later offers → All (λ o. SpellSlot T W (OfferData.legs o) (OfferData.slot o)) offers
  legs_spell Q times later offers walked = all_spell T W hops offers walked.slots.best walked.shown

  pub legs_follow : (Q : QueryData) (times : List ℤ) (later : List Value) (offers : List OfferData) → IsWalked T W hops Q times later offers → All (λ o. LegsFollow hops (OfferData.legs o)) offers
  legs_follow Q times later offers walked = All-weaker (IsShown T W.from W.to hops) (λ o. LegsFollow hops (OfferData.legs o)) (λ o h. h.follows) offers walked.shown
