use Rattle.std.proofs.Common.{◌∙◌, false, refl}
use Rattle.edition_build.proofs.ReportTexts.{report_unlisted}
use Rattle.router_cli.proofs.made_city.built_of.Goals as goal

pub returns-in-Ok-assemble-clause-report : goal.returns-in-Ok-assemble-clause-report
returns-in-Ok-assemble-clause-report c =
    let lines = c.args.lines.lines in
    let same = report_unlisted c.args.json c.args.table lines false c.args.transfers c.requires.transfers c.counts_of.result c.counts_of.ensures refl in
    record { lines = lines; are_lines = c.requires.are_lines; text = c.in-Ok.ensures ∙ same }
