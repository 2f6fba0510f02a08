use Rattle.std.proofs.Common.{subst, sym}
use Rattle.std.specs.Prelude.{IfOk}
use Rattle.command_line.specs.Cities.{CityRequestData}
use Rattle.command_line.specs.declared.request.Request.{Request}
use Rattle.router_cli.specs.Cities.{IsCityText}
use Rattle.router_cli.specs.Promise.{IsRequestAnswer}
use Rattle.router_cli.proofs.program.request_text.Goals as goal

pub returns-in-Day-clause-text : goal.returns-in-Day-clause-text
returns-in-Day-clause-text g c =
    let files = g.F.Folder.files c.args.folder.now in
    let told = g.S.Source.left c.args.source.now in
    subst (λ (r : Request). IfOk c.day_text-text.result (λ text. IsRequestAnswer files told r text.items)) (sym c.in-Day.is) c.day_text-text.ensures.text

pub returns-in-Serve-clause-text : goal.returns-in-Serve-clause-text
returns-in-Serve-clause-text g c =
    let files = g.F.Folder.files c.args.folder.now in
    let told = g.S.Source.left c.args.source.now in
    subst (λ (r : Request). IfOk c.run_text.result (λ text. IsRequestAnswer files told r text.items)) (sym c.in-Serve.is) c.run_text.ensures.text

pub returns-in_ok-city_text-in-City-clause-text : goal.returns-in_ok-city_text-in-City-clause-text
returns-in_ok-city_text-in-City-clause-text g c =
    let files = g.F.Folder.files c.args.folder.now in
    let told = g.S.Source.left c.args.source.now in
    let bytes = c.in_ok-city_text-in-City.field-0.items in
    subst (λ (r : Request). IsRequestAnswer files told r bytes) (sym c.in-City.is)
    (subst (λ (r : CityRequestData). IsCityText r.json r.side bytes) c.request.view_is c.in_ok-city_text-in-City.ensures)

pub returns-in-Verify-clause-text : goal.returns-in-Verify-clause-text
returns-in-Verify-clause-text g c =
    let files = g.F.Folder.files c.args.folder.now in
    let told = g.S.Source.left c.args.source.now in
    subst (λ (r : Request). IfOk c.verify_text-text.result (λ text. IsRequestAnswer files told r text.items)) (sym c.in-Verify.is) c.verify_text-text.ensures.text

pub returns-in-Late-clause-text : goal.returns-in-Late-clause-text
returns-in-Late-clause-text g c =
    let files = g.F.Folder.files c.args.folder.now in
    let told = g.S.Source.left c.args.source.now in
    subst (λ (r : Request). IfOk c.late_text-text.result (λ text. IsRequestAnswer files told r text.items)) (sym c.in-Late.is) c.late_text-text.ensures.text
