use Rattle.std.proofs.Common.{◌≡◌, ◌∙◌, ◌||◌, Bool, true, false, ap, not, refl, sym}
use Rattle.std.specs.List.{list_any}
use lib.Pointwise.{pointwise}
use Rattle.tb_base.specs.declared.transfer.Transfer.{Transfer}
use Rattle.late_edit.specs.Updated.{AmendmentData}
use Rattle.late_edit.specs.Touched.{candidates_at, has_other_events, same_transfer}
use Rattle.late_edit.proofs.compared.Compared.is_touched_at.Goals as goal

-- where the second of two tests holds, one of them does
second_holds : (a b : Bool) → b ≡ true → true ≡ (a || b)
second_holds true b h = refl
second_holds false b h = sym h

-- where it doesn't, it is up to the first
first_alone : (a b : Bool) → b ≡ false → a ≡ (a || b)
first_alone true b h = refl
first_alone false b h = sym h

pub returns-then-leads_to_other_events : goal.returns-then-leads_to_other_events
returns-then-leads_to_other_events c =
    let before = c.args.self.now.before in
    let after = c.args.self.now.after in
    let old : c.as_slice.result.now ≡ candidates_at before c.args.trip c.args.at = c.as_slice.ensures.value ∙ (c.in_ok-take_candidates.ensures ∙ ap (λ (d : AmendmentData). candidates_at d.before c.args.trip c.args.at) c.self.view_is) in
    let leads : list_any (λ (r : Transfer). has_other_events before.table after.table r.to_trip) (candidates_at before c.args.trip c.args.at) ≡ true
    = ap (list_any (λ (r : Transfer). has_other_events before.table after.table r.to_trip)) (sym old) ∙ (sym c.leads_to_other_events.ensures ∙ c.if-leads_to_other_events.true) in
    second_holds (not (pointwise same_transfer (candidates_at before c.args.trip c.args.at) (candidates_at after c.args.trip c.args.at)))
    (list_any (λ (r : Transfer). has_other_events before.table after.table r.to_trip) (candidates_at before c.args.trip c.args.at)) leads

pub returns : goal.returns
returns c =
    let before = c.args.self.now.before in
    let after = c.args.self.now.after in
    let old : c.take_candidates.new.rows.items ≡ candidates_at before c.args.trip c.args.at = c.in_ok-take_candidates.ensures ∙ ap (λ (d : AmendmentData). candidates_at d.before c.args.trip c.args.at) c.self.view_is in
    let new : c.take_candidates-2.new.rows.items ≡ candidates_at after c.args.trip c.args.at = c.in_ok-take_candidates-2.ensures ∙ ap (λ (d : AmendmentData). candidates_at d.after c.args.trip c.args.at) c.self.view_is in
    let old_rows : c.as_slice-2.result.now ≡ candidates_at before c.args.trip c.args.at = c.as_slice-2.ensures.value ∙ old in
    let new_rows : c.as_slice-3.result.now ≡ candidates_at after c.args.trip c.args.at = c.as_slice-3.ensures.value ∙ new in
    let none : list_any (λ (r : Transfer). has_other_events before.table after.table r.to_trip) (candidates_at before c.args.trip c.args.at) ≡ false
    = ap (list_any (λ (r : Transfer). has_other_events before.table after.table r.to_trip)) (sym (c.as_slice.ensures.value ∙ old)) ∙ (sym c.leads_to_other_events.ensures ∙ c.if-leads_to_other_events.false) in
    ap not c.same_transfers.ensures ∙ ((λ k. not (pointwise same_transfer (old_rows k) (new_rows k)))
    ∙ first_alone (not (pointwise same_transfer (candidates_at before c.args.trip c.args.at) (candidates_at after c.args.trip c.args.at)))
    (list_any (λ (r : Transfer). has_other_events before.table after.table r.to_trip) (candidates_at before c.args.trip c.args.at)) none)
