use Rattle.std.proofs.Common.{map}
use Rattle.std.specs.Prelude.{option_map}
use Rattle.trip_table.proofs.LeftDaySteps.{frequencies_end, frequencies_left}
use Rattle.trip_table.proofs.left_day.left_files.Goals as goal

pub returns-in-Err-left_frequencies-clause-left : goal.returns-in-Err-left_frequencies-clause-left
returns-in-Err-left_frequencies-clause-left c =
    let texts = map (option_map (λ v. v.items)) c.args.texts.now in
    let first = rw (c.stops.ensures.stops, c.text_at.ensures.text) at c.in-Ok.ensures in
    let second = rw (c.requires.gone, c.text_at-2.ensures.text) at c.in-Err-left_frequencies.ensures.left in
    frequencies_end texts c.args.rows.now c.args.told.now.items c.left_transfers.new.told.items c.left_frequencies.new.told.items c.in-Ok.transfers.items c.in-Err-left_frequencies.fault first second

pub returns-in-Ok-left_frequencies-clause-left : goal.returns-in-Ok-left_frequencies-clause-left
returns-in-Ok-left_frequencies-clause-left c =
    let texts = map (option_map (λ v. v.items)) c.args.texts.now in
    let first = rw (c.stops.ensures.stops, c.text_at.ensures.text) at c.in-Ok.ensures in
    let second = rw (c.requires.gone, c.text_at-2.ensures.text) at c.in-Ok-left_frequencies.ensures.left in
    frequencies_left texts c.args.rows.now c.args.told.now.items c.left_transfers.new.told.items c.left_frequencies.new.told.items c.in-Ok.transfers.items c.in-Ok-left_frequencies.frequencies.rows first second
