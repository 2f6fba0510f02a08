use Rattle.std.proofs.Common.{◌≡◌, List, ℕ, Ok, ap, subst, sym}
use Rattle.command_line.specs.Matrices.{MatrixRequestData}
use Rattle.command_line.specs.declared.request.OriginsNamed.{OriginsNamed}
use Rattle.router_cli.specs.Matrices.{NameNone, NameOrigins, naming_bytes}
use Rattle.router_cli.proofs.Matrices.{unnamed_over, written_over}
use Rattle.router_cli.proofs.matrix.rows_over.Goals as goal

pub returns-in-Ok-clause-outcome : goal.returns-in-Ok-clause-outcome
returns-in-Ok-clause-outcome g c =
    let files = g.F.Folder.files c.args.folder.now in
    let told = g.S.Source.left c.args.source.now in
    let same = ap (λ (r : MatrixRequestData). r.origins) c.request.view_is in
    let listed = subst (λ (o : OriginsNamed). NameOrigins (naming_bytes files told o) (Ok c.in-Ok.origins.items)) same c.in-Ok.ensures.origins in
    let naming = naming_bytes files told c.args.request.now.origins in
    let names = subst (λ (xs : List (List ℕ)). NameOrigins naming (Ok xs)) (sym c.as_slice-named.ensures.value) listed in
    written_over c.args.request.now c.args.table naming c.as_slice-named.result.now c.build_rows-status.result
    (g.K.Sink.written c.args.out.now) (g.K.Sink.written c.build_rows-status.new.out) names c.build_rows-status.ensures.written

pub returns-in-Err-clause-outcome : goal.returns-in-Err-clause-outcome
returns-in-Err-clause-outcome g c =
    let files = g.F.Folder.files c.args.folder.now in
    let told = g.S.Source.left c.args.source.now in
    let same = ap (λ (r : MatrixRequestData). r.origins) c.request.view_is in
    let none = subst (λ (o : OriginsNamed). NameNone (naming_bytes files told o) c.in-Err.status) same c.in-Err.ensures.refused in
    unnamed_over c.args.request.now c.args.table (naming_bytes files told c.args.request.now.origins) c.in-Err.status (g.K.Sink.written c.args.out.now) none
