use Rattle.std.proofs.Common.{◌≡◌, ◌∙◌, ap, map, string_bytes, sym, inl, inr, true, false}
use Rattle.std.proofs.lemmas.Result.{IfOk-weaker}
use Rattle.clap.specs.Words.{app_of, found_of, kind_of, is_simple, is_simple_and_free, rows_of}
use Rattle.clap.specs.declared.error.kind.ErrorKind.TheVariants.{OutOfMemory}
use Rattle.command_line.specs.Arguments.{given}
use Rattle.command_line.specs.Requests.{request_by, request_of}
use Rattle.command_line.proofs.Parsed.{asked, given_rows, not_asked, nothing_given, router_free, router_simple}
use Rattle.command_line.proofs.words.request_of.Goals as goal

pub returns-in-Ok-try_get_matches_from : goal.returns-in-Ok-try_get_matches_from
returns-in-Ok-try_get_matches_from c =
    let words = map string_bytes c.args.words.now in
    let same = c.in-Ok.ensures in
    let rows = rows_of (found_of c.in-Ok-try_get_matches_from.matches) in
    let parse = c.in-Ok-try_get_matches_from.ensures in
    let is = given_rows (app_of c.in-Ok.arguments) words rows same (parse.kinds (ap is_simple_and_free same ∙ router_free)) (parse.matches (ap is_simple same ∙ router_simple)).0 in
    IfOk-weaker c.request_by.result (λ request. request ≡ request_by rows) (λ request. request ≡ request_of words)
    (λ request by. asked request_by (given words) rows request is by) c.request_by.ensures

pub returns : goal.returns
returns c =
    let words = map string_bytes c.args.words.now in
    let same = c.in-Ok.ensures in
    elim (c.in-Err.ensures.kinds (ap is_simple_and_free same ∙ router_free)) [
      | inl h ↦ (
          let memory : c.kind.result ≡ OutOfMemory = c.kind.ensures ∙ h in
          let taken : c.eq.result ≡ true = rw memory at c.eq.ensures in
          let bad : true ≡ false = sym taken ∙ c.if-eq.false in absurd (cc)
          )
      | inr h ↦ not_asked request_by (given words) (nothing_given (app_of c.in-Ok.arguments) words (kind_of c.in-Err.e) same h)
    ]
