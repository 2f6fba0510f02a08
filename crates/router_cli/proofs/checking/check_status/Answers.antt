use Rattle.std.proofs.Common.{◌≡◌, ◌∙◌, ◌⊎◌, ap, subst}
use Rattle.std.specs.Prelude.{IfOk}
use Rattle.command_line.specs.Checks.{CheckRequestData}
use Rattle.router_cli.specs.Checks.{ChecksTo, WarnsOf, check_shown, whole_status}
use Rattle.router_cli.specs.declared.status.Status.{Status}
use Rattle.router_cli.specs.declared.status.Status.TheVariants as status
use Rattle.router_cli.proofs.CheckEndings.{check_outcome}
use Rattle.router_cli.proofs.checking.check_status.Goals as goal

pub returns-clause-outcome : goal.returns-clause-outcome
returns-clause-outcome g c =
    let files = g.F.Folder.files c.args.folder.now in
    let faults = c.in-Ok-check_feed.faults.items in
    let warnings = c.in-Ok.warnings.items in
    let text = c.check_text-text.result in
    let s = c.write.result in
    let ends = c.ended.result in
    let warned = subst (λ (r : CheckRequestData). WarnsOf files r warnings) c.request.view_is c.in-Ok.ensures.warnings in
    let told = rw c.in-Ok.ensures.leaves.files at c.in-Ok-check_feed.ensures.faults in
    let are = subst (λ (r : CheckRequestData). ChecksTo files r faults) c.request.view_is told in
    let written = rw c.as_slice-2.ensures.value at c.check_text-text.ensures.text in
    let shown = subst (λ (r : CheckRequestData). IfOk text (λ v. v.items ≡ check_shown r.json faults warnings)) c.request.view_is written in
    let ended = subst (λ (w : Status). (s ≡ status.Done × (ends ≡ w)) ⊎ ((s ≡ status.Done → ⊥) × (ends ≡ s)))
    (c.whole_status-whole.ensures ∙ ap whole_status c.as_slice.ensures.value) c.ended.ensures in
    check_outcome files c.args.request.now faults warnings text s ends (g.K.Sink.written c.args.out.now) (g.K.Sink.written c.write.new.out)
    are warned shown c.check_text-text.ensures.refused c.write.ensures.writes ended
