use Rattle.std.proofs.Common.{rules, ◌≡◌, ◌∙◌, ap, None, false, true}
use Rattle.std.specs.Prelude.{bytes_eq, position}
use Rattle.gtfs_rows.specs.TransfersFile.{TransferData}
use Rattle.trip_table.proofs.EndsSteps.{no_origin, no_target, ends_twice, ends_fresh, knows_more, knows_same}
use Rattle.trip_table.proofs.left_transfers.transfer_fault.Goals as goal

pub returns-in_default : goal.returns-in_default
returns-in_default c = λ stops kept are known.
    let row = ap (λ (r : TransferData). r.row) c.row.view_is in
    let from_is = c.bytes.ensures ∙ ap (λ (r : TransferData). r.from) c.row.view_is in
    let none : None ≡ position (bytes_eq c.args.row.now.from) c.args.ids.now = rw from_is at c.in_default.ensures in
    (rw (c.spot-at.ensures, row) (no_origin c.args.ids.now stops are kept c.args.row.now none), known)

pub returns-in_default-find : goal.returns-in_default-find
returns-in_default-find c = λ stops kept are known.
    let row = ap (λ (r : TransferData). r.row) c.row.view_is in
    let from_is = c.bytes.ensures ∙ ap (λ (r : TransferData). r.from) c.row.view_is in
    let to_is = c.bytes-2.ensures ∙ ap (λ (r : TransferData). r.to) c.row.view_is in
    let from = rw from_is at c.in-Some.ensures in
    let none : None ≡ position (bytes_eq c.args.row.now.to) c.args.ids.now = rw to_is at c.in_default-find.ensures in
    (rw (c.spot-at-in_default-find.ensures, row) (no_target c.args.ids.now stops are kept c.args.row.now c.in-Some.from from none), known)

pub returns-then-not-branch : goal.returns-then-not-branch
returns-then-not-branch c = λ stops kept are known.
    let row = ap (λ (r : TransferData). r.row) c.row.view_is in
    let from_is = c.bytes.ensures ∙ ap (λ (r : TransferData). r.from) c.row.view_is in
    let to_is = c.bytes-2.ensures ∙ ap (λ (r : TransferData). r.to) c.row.view_is in
    let from = rw from_is at c.in-Some.ensures in
    let to = rw to_is at c.in-Some-find.ensures in
    let twice : c.in_ok-add.field-0 ≡ false = search rules in (
      rw (c.spot-at-then-not-branch.ensures, row) (ends_twice c.args.ids.now stops are kept c.args.row.now c.in-Some.from c.in-Some-find.to c.args.seen.now c.in_ok-add.field-0 known from to c.in_ok-add.ensures.fresh twice),
      knows_same c.args.ids.now stops are kept c.args.row.now c.in-Some.from c.in-Some-find.to c.args.seen.now c.add.new.self c.in_ok-add.field-0 known c.in_ok-add.ensures.fresh twice c.in_ok-add.ensures.added,
    )

pub returns : goal.returns
returns c = λ stops kept are known.
    let from_is = c.bytes.ensures ∙ ap (λ (r : TransferData). r.from) c.row.view_is in
    let to_is = c.bytes-2.ensures ∙ ap (λ (r : TransferData). r.to) c.row.view_is in
    let from = rw from_is at c.in-Some.ensures in
    let to = rw to_is at c.in-Some-find.ensures in
    let fresh : c.in_ok-add.field-0 ≡ true = search rules in (
      ends_fresh c.args.ids.now stops are kept c.args.row.now c.in-Some.from c.in-Some-find.to c.args.seen.now c.in_ok-add.field-0 known from to c.in_ok-add.ensures.fresh fresh,
      knows_more c.args.ids.now stops are kept c.args.row.now c.in-Some.from c.in-Some-find.to c.args.seen.now c.add.new.self known from to c.in_ok-add.ensures.added,
    )
