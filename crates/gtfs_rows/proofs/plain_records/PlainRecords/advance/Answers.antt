use Rattle.std.proofs.Common.{◌≡◌, ◌≢◌, ◌≤◌, ◌∙◌, sym, ap, subst, ℕ, List, [], length, arith}
use Rattle.std.specs.Prelude.{Result, Ok, Err, OnErr}
use Rattle.std.proofs.lemmas.Bool.Decides.{nat_tests}
use Rattle.std.proofs.lemmas.List.{nil_from_length}
use Rattle.gtfs_rows.specs.Records.{Record, RecordPosition}
use Rattle.gtfs_rows.specs.PlainText.{IsUnquoted, record_of, records_of, skip_line_ends}
use Rattle.gtfs_rows.proofs.PlainSteps.{no_records, skipped, starts, skip_unquoted}
use Rattle.gtfs_rows.proofs.plain_records.PlainRecords.advance.Goals as goal

either_way : {A E : Type 0} (r : Result A E) (P : Type 0) → P → OnErr r P
either_way (Ok x) P p = tt
either_way (Err e) P p = p

-- what is left from a text on, and from the text behind the line ends at its start
left_is : (position : RecordPosition) (rest text : List ℕ) (current : Record) → position ≡ record { current = current; left = records_of rest } → text ≡ skip_line_ends rest → position.left ≡ records_of text
left_is position rest text current e s = ap (λ (p : RecordPosition). p.left) e ∙ sym (skipped rest) ∙ ap (λ (t : List ℕ). records_of t) (sym s)

none_fewer : (left : List Record) → length (records_of []) ≤ length left
none_fewer left = let e : length (records_of []) ≡ 0 = ap length no_records in omega (arith, e)

pub returns-then-is_empty-clause-fewer : goal.returns-then-is_empty-clause-fewer
returns-then-is_empty-clause-fewer c = none_fewer c.args.self.now.left

pub returns-then-is_empty-clause-next : goal.returns-then-is_empty-clause-next
returns-then-is_empty-clause-next c =
    let text = c.skip_line_ends-text.result.now in
    let none : length text ≡ 0 = grind (arith, nat_tests, c.if-is_empty.ensures) in (
      left_is c.args.self.now c.self.inside.rest.now text _ (sym c.self.view_is) c.skip_line_ends-text.ensures ∙ ap (λ (t : List ℕ). records_of t) (nil_from_length text none) ∙ no_records,
      ap record_of c.clear.ensures.items,
      no_records,
    )

pub cut_record-requires-clause-unquoted : goal.cut_record-requires-clause-unquoted
cut_record-requires-clause-unquoted c = subst IsUnquoted (sym c.skip_line_ends-text.ensures) (skip_unquoted c.self.inside.rest.now c.self.invariant)

pub cut_record-requires-clause-starts : goal.cut_record-requires-clause-starts
cut_record-requires-clause-starts c =
    let some : length c.skip_line_ends-text.result.now ≢ 0 = grind (arith, nat_tests, c.if-is_empty.ensures) in
    rw c.skip_line_ends-text.ensures (starts c.self.inside.rest.now (λ e. some (ap length (c.skip_line_ends-text.ensures ∙ e))))

pub returns-in_err-self-inside-clause-fewer : goal.returns-in_err-self-inside-clause-fewer
returns-in_err-self-inside-clause-fewer c = none_fewer c.args.self.now.left

pub returns-in_err-self-inside-clause-memory : goal.returns-in_err-self-inside-clause-memory
returns-in_err-self-inside-clause-memory c = either_way c.from_residual.result (records_of [] ≡ []) no_records

pub returns-clause-next : goal.returns-clause-next
returns-clause-next c =
    left_is c.args.self.now c.self.inside.rest.now c.skip_line_ends-text.result.now _ (sym c.self.view_is) c.skip_line_ends-text.ensures ∙ c.in_ok-self-inside.ensures.cut

pub returns-clause-fewer : goal.returns-clause-fewer
returns-clause-fewer c =
    let e = ap length (left_is c.args.self.now c.self.inside.rest.now c.skip_line_ends-text.result.now _ (sym c.self.view_is) c.skip_line_ends-text.ensures ∙ c.in_ok-self-inside.ensures.cut) in
    omega (arith, e)
