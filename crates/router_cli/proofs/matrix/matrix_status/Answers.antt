use Rattle.std.proofs.Common.{◌≡◌, Ok, Option, subst}
use Rattle.tb_io.specs.Files.{FileList}
use Rattle.command_line.specs.Matrices.{MatrixRequestData}
use Rattle.router_cli.specs.Outcome.{GivesDay, IsNoTable}
use Rattle.router_cli.specs.Matrices.{IsMatrixOver, naming_bytes}
use Rattle.router_cli.proofs.Matrices.{over_day, without_day}
use Rattle.router_cli.proofs.matrix.matrix_status.Goals as goal

pub returns-in-Ok-clause-outcome : goal.returns-in-Ok-clause-outcome
returns-in-Ok-clause-outcome g c =
    let files = g.F.Folder.files c.args.folder.now in
    let day = subst (λ (r : MatrixRequestData). GivesDay files r.dir r.date r.options (Ok c.in-Ok.table)) c.request.view_is c.in-Ok.ensures.day in
    let told = g.S.Source.left c.args.source.now in
    let r = c.args.request.now in
    let before = g.K.Sink.written c.args.out.now in
    let now = g.K.Sink.written c.rows_over.new.out in
    let over = subst (λ (fs : Option FileList). IsMatrixOver r c.in-Ok.table (naming_bytes fs told r.origins) c.rows_over.result before now) c.table_of.ensures.files c.rows_over.ensures.outcome in
    over_day files told r c.in-Ok.table c.rows_over.result before now day over

pub returns-in-Err-clause-outcome : goal.returns-in-Err-clause-outcome
returns-in-Err-clause-outcome g c =
    let files = g.F.Folder.files c.args.folder.now in
    let before = g.F.Folder.faults c.args.folder.now in
    let now = g.F.Folder.faults c.table_of.new.folder in
    let none = subst (λ (r : MatrixRequestData). IsNoTable files r.dir r.date r.options before now c.in-Err.status) c.request.view_is c.in-Err.ensures.refused in
    without_day files (g.S.Source.left c.args.source.now) c.args.request.now before now c.in-Err.status (g.K.Sink.written c.args.out.now) none
