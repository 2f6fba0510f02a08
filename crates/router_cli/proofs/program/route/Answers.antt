use Rattle.std.proofs.Common.{Some, inl, map, sym}
use Rattle.std.specs.Prelude.{string_bytes}
use Rattle.command_line.specs.Requests.{request_of}
use Rattle.command_line.specs.declared.request.Request.TheVariants as request
use Rattle.router_cli.specs.Promise.{TellsFirst}
use Rattle.router_cli.specs.declared.status.Status.TheVariants as status
use Rattle.router_cli.proofs.Completed.{completed, unread}
use Rattle.router_cli.proofs.Written.{at_end, at_refusal, first_in_part, has_meaning, left_at_end, none_written, or_live, promised, read_behind, read_or_kept, unread_text, where_done}
use Rattle.router_cli.proofs.program.route.Goals as goal

pub returns-in-Err-clause-left : goal.returns-in-Err-clause-left
returns-in-Err-clause-left g c =
    unread (request_of (map string_bytes c.args.words.now)) status.Memory (g.S.Source.left c.args.script.now) (g.S.Source.faults c.args.script.now)

pub write-requires-clause-text : goal.write-requires-clause-text
write-requires-clause-text g c =
    none_written _ _ c.in-Ok-Some.request c.request_text-text.result c.request_text-text.ensures.refused

pub returns-in-Ok-Some-clause-usage : goal.returns-in-Ok-Some-clause-usage
returns-in-Ok-Some-clause-usage g c =
    λ is. absurd (has_meaning _ _ c.in-Ok-Some.request c.request_text-text.result c.write.result _ _ c.request_text-text.ensures.refused c.write.ensures.writes is)

pub returns-in-Ok-Some-clause-promise : goal.returns-in-Ok-Some-clause-promise
returns-in-Ok-Some-clause-promise g c =
    let at = c.in-Ok-Some in
    rw (sym at.ensures, at.field-0-is)
    (promised _ _ _ _ _ at.request c.request_text-text.result c.write.result _ _ c.request_text-text.ensures.text c.request_text-text.ensures.refused c.write.ensures.writes)

pub returns-in-Ok-Some-clause-script : goal.returns-in-Ok-Some-clause-script
returns-in-Ok-Some-clause-script g c =
    let at = c.in-Ok-Some in
    let told = g.S.Source.left c.args.script.now in
    rw (sym at.ensures, at.field-0-is)
    (λ still. at_end (TellsFirst told at.request) c.request_text-text.result c.write.result _ _ (first_in_part told at.request) c.write.ensures.writes
    (c.request_text-text.ensures.script still))

pub returns-in-Ok-Some-clause-later : goal.returns-in-Ok-Some-clause-later
returns-in-Ok-Some-clause-later g c =
    let at = c.in-Ok-Some in
    rw (sym at.ensures, at.field-0-is)
    (λ is still. read_behind _ _ _ at.request c.request_text-text.result _ _ c.request_text-text.ensures.text c.request_text-text.ensures.refused
    (c.request_text-text.ensures.later (unread_text c.request_text-text.result c.write.result _ _ c.write.ensures.writes is) still))

pub returns-in-Ok-Some-clause-left_out : goal.returns-in-Ok-Some-clause-left_out
returns-in-Ok-Some-clause-left_out g c =
    let at = c.in-Ok-Some in
    rw (sym at.ensures, at.field-0-is)
    (where_done _ c.request_text-text.result c.write.result _ _
    (none_written _ _ at.request c.request_text-text.result c.request_text-text.ensures.refused) c.write.ensures.writes c.request_text-text.ensures.left_out)

pub returns-in-Ok-Some-clause-read : goal.returns-in-Ok-Some-clause-read
returns-in-Ok-Some-clause-read g c =
    λ is. c.request_text-text.ensures.leaves.read (unread_text c.request_text-text.result c.write.result _ _ c.write.ensures.writes is)

pub returns-in-Ok-Some-clause-alone : goal.returns-in-Ok-Some-clause-alone
returns-in-Ok-Some-clause-alone g c = or_live c.request_text-text.ensures.leaves.alone

pub returns-in-Ok-Some-clause-folder_kept : goal.returns-in-Ok-Some-clause-folder_kept
returns-in-Ok-Some-clause-folder_kept g c =
    or_live (read_or_kept c.request_text-text.result c.write.result _ _ c.write.ensures.writes c.request_text-text.ensures.leaves.folder_kept)

pub returns-in-Ok-Some-clause-refused : goal.returns-in-Ok-Some-clause-refused
returns-in-Ok-Some-clause-refused g c f is =
    at_refusal c.write.result f (read_or_kept c.request_text-text.result c.write.result _ _ c.write.ensures.writes c.request_text-text.ensures.leaves.folder_kept) is

pub returns-in-Ok-Some-clause-script_kept : goal.returns-in-Ok-Some-clause-script_kept
returns-in-Ok-Some-clause-script_kept g c =
    read_or_kept c.request_text-text.result c.write.result _ _ c.write.ensures.writes c.request_text-text.ensures.leaves.source_kept

pub returns-in-Ok-Some-clause-files : goal.returns-in-Ok-Some-clause-files
returns-in-Ok-Some-clause-files g c = c.request_text-text.ensures.leaves.files

pub returns-in-Ok-Some-clause-left : goal.returns-in-Ok-Some-clause-left
returns-in-Ok-Some-clause-left g c =
    let at = c.in-Ok-Some in
    rw (sym at.ensures, at.field-0-is)
    (left_at_end at.request c.request_text-text.result c.write.result _ _ _ _ _ _ c.write.ensures.writes c.request_text-text.ensures.left)

pub returns-in-Ok-Some-clause-complete : goal.returns-in-Ok-Some-clause-complete
returns-in-Ok-Some-clause-complete g c =
    let at = c.in-Ok-Some in
    rw (sym at.ensures, at.field-0-is)
    (completed c.asked_determined.ensures c.lenient_determined.ensures (Some at.request) _ _ (g.S.Source.left c.args.script.now) c.write.result _ _ _ _ _ _ _ _
    (promised _ _ _ _ _ at.request c.request_text-text.result c.write.result _ _ c.request_text-text.ensures.text c.request_text-text.ensures.refused c.write.ensures.writes)
    (λ is. c.request_text-text.ensures.leaves.read (unread_text c.request_text-text.result c.write.result _ _ c.write.ensures.writes is)) c.write.ensures.write)

pub returns-in-Ok-Some-Live-clause-later : goal.returns-in-Ok-Some-Live-clause-later
returns-in-Ok-Some-Live-clause-later g c =
    let at = c.in-Ok-Some-Live in
    rw (sym at.ensures, at.field-0-is, at.field-0-0-is) c.live_status.ensures.later

pub returns-in-Ok-Some-Live-clause-complete : goal.returns-in-Ok-Some-Live-clause-complete
returns-in-Ok-Some-Live-clause-complete g c =
    let at = c.in-Ok-Some-Live in
    let done = c.live_status.ensures in
    rw (sym at.ensures, at.field-0-is, at.field-0-0-is)
    (completed c.asked_determined.ensures c.lenient_determined.ensures (Some (request.Live at.request)) _ _ _ c.live_status.result _ _ _ _ _ _ _ _ done.outcome done.read done.write)

pub returns-in-Ok-Some-Matrix-clause-left_out : goal.returns-in-Ok-Some-Matrix-clause-left_out
returns-in-Ok-Some-Matrix-clause-left_out g c =
    let at = c.in-Ok-Some-Matrix in
    rw (sym at.ensures, at.field-0-is, at.field-0-0-is) c.matrix_status-status.ensures.left_out

pub returns-in-Ok-Some-Matrix-clause-complete : goal.returns-in-Ok-Some-Matrix-clause-complete
returns-in-Ok-Some-Matrix-clause-complete g c =
    let at = c.in-Ok-Some-Matrix in
    let told = g.S.Source.left c.args.script.now in
    let done = c.matrix_status-status.ensures in
    rw (sym at.ensures, at.field-0-is, at.field-0-0-is)
    (completed c.asked_determined.ensures c.lenient_determined.ensures (Some (request.Matrix at.request)) _ told told c.matrix_status-status.result _ _ _ _ _ _ _ _ done.outcome done.read done.write)

pub returns-in-Ok-Some-Check-clause-complete : goal.returns-in-Ok-Some-Check-clause-complete
returns-in-Ok-Some-Check-clause-complete g c =
    let at = c.in-Ok-Some-Check in
    let told = g.S.Source.left c.args.script.now in
    let done = c.check_status-status.ensures in
    rw (sym at.ensures, at.field-0-is, at.field-0-0-is)
    (completed c.asked_determined.ensures c.lenient_determined.ensures (Some (request.Check at.request)) _ told told c.check_status-status.result _ _ _ _ _ _ _ _ done.outcome
    (λ is. inl (done.read is)) done.write)
