use Rattle.std.proofs.Common.{◌∙◌, sym, ap, [], arith}
use Rattle.csv.specs.Machine.{next_record}
use Rattle.csv.specs.Reading.{default_config}
use Rattle.csv.specs.declared.parser.State.TheVariants as st
use Rattle.gtfs_rows.specs.Records.{Record}
use Rattle.gtfs_rows.proofs.PlainSteps.{begun}
use Rattle.gtfs_rows.proofs.plain_records.cut_record.Goals as goal

pub loop-at-init : goal.loop-at-init
loop-at-init c = record {
  within = omega arith;
  inside = omega arith;
  same = begun c.args.text.now c.requires.unquoted c.requires.starts
      ∙ ap (λ (fields : Record). next_record default_config st.InField fields [] c.args.text.now) (sym c.requires.empty);
}
