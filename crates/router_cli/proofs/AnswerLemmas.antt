-- Answers from their parts.
use Rattle.std.proofs.Common.{◌≡◌, ◌∙◌, ℕ, Bool, Ok, Err, ℤ, false, true, List, [], ◌∷◌, refl, subst, sym, filter_map, arith}
use Rattle.std.specs.Prelude.{All, Contains, MatchResult}
use Rattle.std.proofs.lemmas.List.Elements.{All-weaker}
use Rattle.tb_base.specs.TimetableData.{TimetableData}
use Rattle.tb_base.specs.BestValues.{ChoiceData, QueryData}
use Rattle.tb_base.specs.Journeys.{Ride}
use Rattle.tb_base.specs.Profiles.{OfferData, WindowData}
use Rattle.tb_base.specs.Transfers.{kept_hops}
use Rattle.tb_base.specs.declared.query.Leg.{Leg}
use Rattle.tb_base.specs.declared.transfer.Hop.{Hop}
use Rattle.segment_queue.specs.Traced.{LegsFollow, RidesFollow, ride_of_leg}
use Rattle.answer_json.specs.Shown.{shown_unknown}
use Rattle.answer_json.specs.declared.frame.Frame.TheVariants as frame
use Rattle.answer_text.specs.Questions.{needs_mirror}
use Rattle.answer_text.specs.declared.question.Question.{Question}
use Rattle.answer_text.specs.declared.question.Question.TheVariants as question
use Rattle.edition_store.specs.Editions.{EditionData, IsNetwork, NetworkData, net_of, network_of}
use Rattle.edition_store.specs.Mirror.{IsMirror}
use Rattle.query_gate.specs.Questions.{Ends, IsOrMirrors, Serves, ends_between}
use Rattle.query_gate.specs.Replies.{AreBestChoices, AreBestOffers, IsReply, IsReplyToAsk, IsReplyToProfile, over}
use Rattle.query_gate.specs.Json.{shown_reply}
use Rattle.query_gate.specs.Callers.{Answers}
use Rattle.query_gate.specs.declared.reply.Reply.{Reply}
use Rattle.query_gate.specs.declared.reply.Reply.TheVariants as reply
use Rattle.command_line.specs.Inquiries.{InquiryData}
use Rattle.router_cli.specs.Answers.{IsKeptReply, IsQuery, IsRightReply, IsRoundsReply, IsTextBetween, ShowsReply, kept_network}
use Rattle.router_cli.specs.LateTrips.{ask_of}
use Rattle.router_cli.specs.declared.over_table.Asked.{Asked}

-- the text where both names are those of places
pub known_text : (json : Bool) (T : TimetableData) (from to : List ℕ) (IsTextOf : Ends → List ℕ → Type 0) (ends : Ends) (bytes : List ℕ) →
    ends_between T from to ≡ Ok ends → IsTextOf ends bytes → IsTextBetween json T from to IsTextOf bytes
known_text json T from to IsTextOf ends bytes is text =
    subst (λ r. MatchResult r (λ e. IsTextOf e bytes) (λ name. bytes ≡ shown_unknown json name)) (sym is) text

-- the text where a name is that of no place
pub unknown_name : (json : Bool) (T : TimetableData) (from to : List ℕ) (IsTextOf : Ends → List ℕ → Type 0) (name bytes : List ℕ) →
    ends_between T from to ≡ Err name → bytes ≡ shown_unknown json name → IsTextBetween json T from to IsTextOf bytes
unknown_name json T from to IsTextOf name bytes is text =
    subst (λ r. MatchResult r (λ e. IsTextOf e bytes) (λ name. bytes ≡ shown_unknown json name)) (sym is) text

-- rides that follow hops follow equal hops
rides_follow : (hops others : ℕ → ℕ → List Hop) → ((t i : ℕ) → hops t i ≡ others t i) → (rides : List Ride) → RidesFollow hops rides → RidesFollow others rides
rides_follow hops others same [] follow = tt
rides_follow hops others same (r ∷ []) follow = tt
rides_follow hops others same (r ∷ s ∷ rest) follow =
    (subst (λ hs. Contains hs (record { trip = s.trip; at = s.board })) (same r.trip r.alight) follow.0, rides_follow hops others same (s ∷ rest) follow.1)

-- legs that follow the hops of a network change by kept transfers
kept_changes : (N : NetworkData) → IsNetwork N → {A : Type 0} (legs_of : A → List Leg) (xs : List A) →
    All (λ x. LegsFollow (net_of N).hops (legs_of x)) xs → All (λ x. LegsFollow (kept_hops N.table N.lines) (legs_of x)) xs
kept_changes N sound legs_of xs follow =
    All-weaker (λ x. LegsFollow (net_of N).hops (legs_of x)) (λ x. LegsFollow (kept_hops N.table N.lines) (legs_of x))
    (λ x h. rides_follow (net_of N).hops (kept_hops N.table N.lines) sound.hops (filter_map ride_of_leg (legs_of x)) h) xs follow

-- so what is best over a network is best over the kept transfers of its timetable
pub kept_choices : (N : NetworkData) → IsNetwork N → (Q : QueryData) (choices : List ChoiceData) → AreBestChoices (net_of N) Q choices → AreBestChoices (kept_network N.table N.lines) Q choices
kept_choices N sound Q choices best =
    record { values = best.values; journeys = best.journeys; hops = kept_changes N sound ChoiceData.legs choices best.hops }

kept_offers : (N : NetworkData) → IsNetwork N → (W : WindowData) (offers : List OfferData) → AreBestOffers (net_of N) W offers → AreBestOffers (kept_network N.table N.lines) W offers
kept_offers N sound W offers best =
    record { slots = best.slots; journeys = best.journeys; hops = kept_changes N sound OfferData.legs offers best.hops }

-- so a right reply over a network is one over the kept transfers of its timetable
ask_by_kept : (N : NetworkData) → IsNetwork N → (from to : List ℕ) (leave : ℤ) (r : Reply) → IsReplyToAsk (net_of N) from to leave r → IsReplyToAsk (kept_network N.table N.lines) from to leave r
ask_by_kept N sound from to leave (reply.Values choices) (ends, is, best) = (ends, is, kept_choices N sound _ choices.items best)
ask_by_kept N sound from to leave (reply.Slots offers) h = h
ask_by_kept N sound from to leave (reply.Departures ds) h = h
ask_by_kept N sound from to leave (reply.Reached lists) h = h
ask_by_kept N sound from to leave (reply.Times travel) h = h
ask_by_kept N sound from to leave (reply.UnknownStop name) h = h
ask_by_kept N sound from to leave (reply.Deferred number) h = h
ask_by_kept N sound from to leave reply.NoMirror h = h

profile_by_kept : (N : NetworkData) → IsNetwork N → (from to : List ℕ) (first last : ℤ) (r : Reply) → IsReplyToProfile (net_of N) from to first last r → IsReplyToProfile (kept_network N.table N.lines) from to first last r
profile_by_kept N sound from to first last (reply.Values choices) h = h
profile_by_kept N sound from to first last (reply.Slots offers) (ends, is, best) = (ends, is, kept_offers N sound _ offers.items best)
profile_by_kept N sound from to first last (reply.Departures ds) h = h
profile_by_kept N sound from to first last (reply.Reached lists) h = h
profile_by_kept N sound from to first last (reply.Times travel) h = h
profile_by_kept N sound from to first last (reply.UnknownStop name) h = h
profile_by_kept N sound from to first last (reply.Deferred number) h = h
profile_by_kept N sound from to first last reply.NoMirror h = h

by_kept : (N : NetworkData) → IsNetwork N → (q : Question) (r : Reply) → IsReply (net_of N) q r → IsReply (kept_network N.table N.lines) q r
by_kept N sound (question.Ask from to leave) r h = ask_by_kept N sound from to leave r h
by_kept N sound (question.Profile from to first last) r h = profile_by_kept N sound from to first last r h
by_kept N sound (question.Latest from to arrive) r h = h
by_kept N sound (question.Reach from leave) r h = h
by_kept N sound (question.Times from first last step rides) r h = h

-- the right reply to a question by the network of the timetable itself
by_itself : (T : TimetableData) (N : NetworkData) → IsNetwork N → (q : Question) (r : Reply) → N.table ≡ T → IsReply (over T N) q r → IsKeptReply T q r
by_itself T N sound q r same h =
    subst (λ (U : TimetableData). IsKeptReply U q r) same
    (record { lines = N.lines; are_lines = λ own. sound.lines; right = by_kept N sound q r (subst (λ U. IsReply (over U N) q r) (sym same) h) })

-- and by one that serves it: one to a question that needs the mirror says nothing of lines and hops
pub kept_reply : (T : TimetableData) (N : NetworkData) → IsNetwork N → (q : Question) (r : Reply) → Serves T N.table q → IsReply (over T N) q r → IsKeptReply T q r
kept_reply T N sound (question.Ask from to leave) r same h = by_itself T N sound (question.Ask from to leave) r same h
kept_reply T N sound (question.Profile from to first last) r same h = by_itself T N sound (question.Profile from to first last) r same h
kept_reply T N sound (question.Latest from to arrive) r mirror h =
    record { lines = []; are_lines = λ own. absurd (let no : true ≡ false = own in cc); right = h }
kept_reply T N sound (question.Reach from leave) r same h = by_itself T N sound (question.Reach from leave) r same h
kept_reply T N sound (question.Times from first last step rides) r same h = by_itself T N sound (question.Times from first last step rides) r same h

-- it is right where no other way was asked for
pub right_reply : (T : TimetableData) (q : Question) (r : Reply) → IsKeptReply T q r → IsRightReply T false q r
right_reply T (question.Ask from to leave) r h = h
right_reply T (question.Profile from to first last) r h = h
right_reply T (question.Latest from to arrive) r h = h
right_reply T (question.Reach from leave) r h = h
right_reply T (question.Times from first last step rides) r h = h

-- and where it was, since journeys by kept transfers are journeys
any_reply : (T : TimetableData) (from to : List ℕ) (leave : ℤ) (r : Reply) → IsKeptReply T (question.Ask from to leave) r → IsRoundsReply T from to leave r
any_reply T from to leave (reply.Values choices) h =
    (h.right.0, h.right.1, record { values = h.right.2.values; journeys = h.right.2.journeys })
any_reply T from to leave (reply.UnknownStop name) h = h.right
any_reply T from to leave (reply.Slots offers) h = absurd h.right
any_reply T from to leave (reply.Departures ds) h = absurd h.right
any_reply T from to leave (reply.Reached lists) h = absurd h.right
any_reply T from to leave (reply.Times travel) h = absurd h.right
any_reply T from to leave (reply.Deferred number) h = absurd h.right
any_reply T from to leave reply.NoMirror h = absurd h.right

either_reply : (T : TimetableData) (plain : Bool) (q : Question) (r : Reply) → IsRightReply T false q r → IsRightReply T plain q r
either_reply T false q r h = h
either_reply T true (question.Ask from to leave) r h = any_reply T from to leave r h
either_reply T true (question.Profile from to first last) r h = h
either_reply T true (question.Latest from to arrive) r h = h
either_reply T true (question.Reach from leave) r h = h
either_reply T true (question.Times from first last step rides) r h = h

-- what an edition answers to a question that needs no mirror is right over its own network
pub by_answer : (n : ℕ) (e : EditionData) (q : Question) (r : Reply) → needs_mirror q ≡ false → Answers n e 0 q r → IsReply (net_of (network_of e)) q r
by_answer n e q (reply.Values choices) own h = h.1
by_answer n e q (reply.Slots offers) own h = h.1
by_answer n e q (reply.Departures ds) own h = h.1
by_answer n e q (reply.Reached lists) own h = h.1
by_answer n e q (reply.Times travel) own h = h.1
by_answer n e q (reply.UnknownStop name) own h = h.1
by_answer n e q (reply.Deferred number) own h = absurd (let late = h.0 in omega (arith, late))
by_answer n e q reply.NoMirror own h = absurd (let no : true ≡ false = sym h.1.0 ∙ own in cc)

-- the text of a right reply by a network that serves a timetable
pub reply_shown : (json : Bool) (T : TimetableData) (N : NetworkData) → IsNetwork N → (q : Question) (r : Reply) → Serves T N.table q → IsReply (over T N) q r → (bytes : List ℕ) → bytes ≡ shown_reply json frame.Lines T r →
    ShowsReply json T false q bytes
reply_shown json T N sound q r serves h bytes text =
    record { reply = r; right = right_reply T q r (kept_reply T N sound q r serves h); text = text }

-- it may be shown either way
pub either_way : (json : Bool) (T : TimetableData) (plain : Bool) (q : Question) (bytes : List ℕ) → ShowsReply json T false q bytes → ShowsReply json T plain q bytes
either_way json T plain q bytes h = record { reply = h.reply; right = either_reply T plain q h.reply h.right; text = h.text }

-- the network of the mirror of a timetable serves what it is built for
pub mirror_serves : (T M : TimetableData) (q : Question) → needs_mirror q ≡ true → IsMirror T M → Serves T M q
mirror_serves T M q is mirror = subst (λ mirrored. IsOrMirrors mirrored T M) (sym is) mirror

-- the query between two named places that are known by other terms
pub asked_by : (T : TimetableData) (from start to target : List ℕ) (leave time : ℤ) (a : Asked) → from ≡ start → to ≡ target → leave ≡ time → IsQuery T from to leave a → IsQuery T start target time a
asked_by T from start to target leave time a same_from same_to same_time h =
    subst (λ t. IsQuery T start target t a) same_time (subst (λ b. IsQuery T start b leave a) same_to (subst (λ b. IsQuery T b to leave a) same_from h))

-- the question of an inquiry, by names and a time that are known by other terms
pub same_ask : (i : InquiryData) (from to : List ℕ) (leave : ℤ) → from ≡ i.from → to ≡ i.to → leave ≡ i.time → question.Ask from to leave ≡ ask_of i
same_ask i from to leave same_from same_to same_time = rw (same_from, same_to, same_time) refl
