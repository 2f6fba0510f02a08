use Rattle.std.proofs.Common.{◌≡◌, ℕ, ◌≤◌, ◌⊎◌, List, Option, None, length, take, ap, subst, arith}
use Rattle.std.specs.Prelude.{IsSomeAnd, slice_index_or}
use Rattle.tb_base.specs.declared.transfer.Hop.{Hop}
use Rattle.transfer_pack.specs.Words.{lent}
use Rattle.segment_queue.specs.Queue.{DeskData}
use Rattle.segment_queue.specs.Scans.{HoldOpen}
use Rattle.segment_queue.proofs.OpenPlaces.{marked_open}
use Rattle.segment_queue.proofs.desk.Desk.open_places.Goals as goal

pub open_places-requires-clause-trips : goal.open_places-requires-clause-trips
open_places-requires-clause-trips g c = λ k d inside.
    let long : length c.self.inside.marks ≡ length c.args.self.now.marks = ap (λ (D : DeskData). length D.marks) c.self.view_is in
    omega (arith, c.requires.trips k d inside, c.requires.step.fits.trips, long)

pub returns-clause-open : goal.returns-clause-open
returns-clause-open g c =
    let places : List ℕ = take c.open_places.result c.open_places.new.places in
    let marks : c.self.inside.marks ≡ c.args.self.now.marks = ap (λ (D : DeskData). D.marks) c.self.view_is in
    marked_open (g.S.Scan.net c.args.scan.now) c.args.self.now (lent c.args.hops.now) c.args.from c.args.to places c.soundness.ensures.sound c.requires.step c.requires.trips
    (subst (λ (ms : List (Option ℕ)). HoldOpen (λ (h : Hop). IsSomeAnd (slice_index_or ms h.trip None) (λ m. m ≤ h.at) ⊎ (10000000 ≤ h.at)) (lent c.args.hops.now) c.args.from c.args.to places) marks c.open_places.ensures.open)
