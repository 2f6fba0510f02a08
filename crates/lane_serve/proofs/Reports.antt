-- The reports of all lanes.
use Rattle.std.proofs.Common.{◌≡◌, ℕ, zero, suc, ◌+◌, ◌<◌, ◌≤◌, List, [], ◌∷◌, ◌++◌, take, length, get_or, refl, sym, ap, subst, ◌∙◌, arith, Option, Some, Vec, Global}
use Rattle.std.specs.Prelude.{All, IfOk, Result}
use Rattle.std.proofs.lemmas.Result.{IfOk-weaker}
use Rattle.tb_base.specs.declared.memory.Memory.{Memory}
use Rattle.std.proofs.lemmas.List.{take_more, length-append}
use Rattle.std.proofs.lemmas.List.Sums.{sum_by-cons}
use Rattle.history.specs.Lists.{Shown}
use Rattle.edition_store.specs.Editions.{EditionData}
use Rattle.query_gate.specs.declared.said.Line.{Line}
use Rattle.lane_serve.specs.declared.lane.ReplyText.{ReplyText}
use Rattle.lane_serve.specs.declared.run.Seated.{Seated}
use Rattle.lane_serve.specs.Lanes.{IsClosing, IsLaneRun, ReportData, to_close}
use Rattle.query_gate.specs.Said.{IsAskable}
use Rattle.lane_serve.specs.Script.{IsScript, LaneData, request_count}
use Rattle.lane_serve.specs.Served.{AreServed, HasRun, IsServedLane}
use Rattle.lane_serve.specs.Seats.{HaveRun}
use Rattle.lane_serve.proofs.Runs.{read_again}

-- a lane of a script has few requests
few_in_all : (lanes : List LaneData) (i : ℕ) (d : LaneData) → i < length lanes → length (LaneData.lines (get_or lanes i d)) ≤ request_count lanes
few_in_all [] i d lt = absurd (omega arith)
few_in_all (l ∷ ls) zero d lt = let f : LaneData → ℕ = λ k. length (LaneData.lines k) in omega (arith, sum_by-cons f l ls)
few_in_all (l ∷ ls) (suc i) d lt = let f : LaneData → ℕ = λ k. length (LaneData.lines k) in let r = few_in_all ls i d (omega arith) in omega (arith, sum_by-cons f l ls)

pub few_requests : (lanes : List LaneData) (i : ℕ) (d : LaneData) → IsScript lanes → i < length lanes → length (LaneData.lines (get_or lanes i d)) ≤ 20000
few_requests lanes i d s lt = let a = few_in_all lanes i d lt in let b = s.1.requests in omega arith

pub good_times : (lanes : List LaneData) (i : ℕ) (d : LaneData) → IsScript lanes → i < length lanes → All IsAskable (LaneData.lines (get_or lanes i d))
good_times lanes i d s lt = s.1.times i d lt

-- the requests that were taken from a lane are those of the lane that stands there
pub read_lines : (qs ls : List Line) (l : LaneData) (lanes : List LaneData) (i : ℕ) (d : LaneData) → qs ≡ ls → ls ≡ LaneData.lines l → i < length lanes → l ≡ get_or lanes i l
    → qs ≡ LaneData.lines (get_or lanes i d)
read_lines qs ls l lanes i d a b lt is = a ∙ b ∙ ap (λ (k : LaneData). k.lines) (read_again lanes i d l lt is)

pub run_of_some : (requests : List Line) (kept : Shown EditionData) (o : Option (Vec ReplyText Global)) (v : Vec ReplyText Global) → o ≡ Some v → HasRun requests kept o → IsLaneRun kept.list requests v.items
run_of_some requests kept o v e h = subst (λ p. HasRun requests kept p) e h

-- a lane's closing report, by its closing replies
pub served_closing : (es : List EditionData) (lane : LaneData) (replies closing : List ReplyText) (result : Result ReportData Memory) → IsLaneRun es lane.lines replies → IsClosing es (to_close 1 lane.lines replies) closing
    → IfOk result (λ r. r ≡ record { name = lane.name; replies = closing }) → IfOk result (λ r. IsServedLane es lane (record { name = lane.name; replies = replies }) r)
served_closing es lane replies closing result run closed =
    IfOk-weaker result _ _ (λ r same. subst (λ k. IsServedLane es lane (record { name = lane.name; replies = replies }) k) (sym same) (record { name = refl; run = run; same_name = refl; closed = closed }))

served_snoc : (es : List EditionData) (ls : List LaneData) (rs cs : List ReportData) (l : LaneData) (r c : ReportData) → AreServed es ls rs cs → IsServedLane es l r c → AreServed es (ls ++ l ∷ []) (rs ++ r ∷ []) (cs ++ c ∷ [])
served_snoc es [] [] [] l r c h s = (s, tt)
served_snoc es [] [] (x ∷ cs) l r c h s = absurd h
served_snoc es [] (q ∷ rs) cs l r c h s = absurd h
served_snoc es (k ∷ ls) [] cs l r c h s = absurd h
served_snoc es (k ∷ ls) (q ∷ rs) [] l r c h s = absurd h
served_snoc es (k ∷ ls) (q ∷ rs) (x ∷ cs) l r c h s = (h.0, served_snoc es ls rs cs l r c h.1 s)

pub served_more : (es : List EditionData) (lanes : List LaneData) (i : ℕ) (l : LaneData) (rs cs : List ReportData) (r c : ReportData) → AreServed es (take i lanes) rs cs → i < length lanes → IsServedLane es (get_or lanes i l) r c → AreServed es (take (i + 1) lanes) (rs ++ r ∷ []) (cs ++ c ∷ [])
served_more es lanes i l rs cs r c h lt s = subst (λ k. AreServed es k (rs ++ r ∷ []) (cs ++ c ∷ [])) (sym (take_more lanes i l lt)) (served_snoc es (take i lanes) rs cs (get_or lanes i l) r c h s)

get_middle : {A : Type 0} (xs ys : List A) (x d : A) → get_or (xs ++ x ∷ ys) (length xs) d ≡ x
get_middle [] ys x d = refl
get_middle (y ∷ xs) ys x d = get_middle xs ys x d

-- the lane whose turn it is has run
pub run_at : {J : Type 0} (lanes : List LaneData) (seats past rest : List (Seated J)) (s : Seated J) (l : LaneData) → HaveRun lanes seats → past ++ s ∷ rest ≡ seats → (length past < length lanes) × HasRun (LaneData.lines (get_or lanes (length past) l)) s.caller.kept s.replies
run_at lanes seats past rest s l h e =
    let at : get_or seats (length past) s ≡ s = ap (λ k. get_or k (length past) s) (sym e) ∙ get_middle past rest s s in
    let lt : length past < length lanes = let a = h.len in let b = ap length e in let c = length-append past (s ∷ rest) in omega arith in
    (lt, subst (λ k. HasRun (LaneData.lines (get_or lanes (length past) l)) k.caller.kept k.replies) at (h.at (length past) l s lt))
