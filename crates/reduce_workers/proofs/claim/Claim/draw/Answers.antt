use Rattle.std.proofs.Common.{sym, ap, ◌∙◌, arith}
use Rattle.reduce_workers.specs.declared.rule.Hand.{Hand}
use Rattle.reduce_workers.specs.Seats.{ClaimData, SeatData}
use Rattle.reduce_workers.proofs.Keeps.{draws}
use Rattle.reduce_workers.proofs.claim.Claim.draw.Goals as goal

pub fetch_add-found-requires : goal.fetch_add-found-requires
fetch_add-found-requires c =
    let seat = c.seat.inside.seat in
    let table = c.self.inside.table.shared in
    let held = c.self.invariant in
    let own = ap (λ (s : SeatData). s.table) c.seat.view_is ∙ c.requires.0 ∙ sym (ap (λ (d : ClaimData). d.table) c.self.view_is) in
    let opened = ap (λ (s : SeatData). s.hand) c.seat.view_is ∙ c.requires.1 in
    let pieces = ap (λ (h : Hand). h.pieces) opened ∙ sym (ap (λ (d : ClaimData). d.pieces) c.self.view_is) ∙ sym held.2 in
    let words = held.0 in
    (own, omega arith, draws table.key table.table_id.slots seat.id seat.me.0 seat.me.1 pieces (ap (λ (h : Hand). h.seats) opened) (ap (λ (h : Hand). h.past) opened))
