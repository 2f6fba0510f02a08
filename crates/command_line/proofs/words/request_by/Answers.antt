use Rattle.std.proofs.Common.{◌≡◌, ◌∙◌, ap, refl, codes, map, [], Bor}
use Rattle.std.specs.Option.{unwrap_or}
use Rattle.std.proofs.lemmas.Result.{IfOk-weaker}
use Rattle.clap.specs.Words.{found_of, rows_of}
use Rattle.clap.proofs.WalkLemmas.{raw_values-rows}
use Rattle.command_line.specs.Requests.{request_by, request_from}
use Rattle.command_line.proofs.Parsed.{by_rows, texts_or}
use Rattle.command_line.proofs.words.request_by.Goals as goal

pub returns : goal.returns
returns c =
    let found = found_of c.args.matches.now in
    let words = c.get_strs.ensures ∙ raw_values-rows found (codes "words") in
    let same = ap (λ s. map (λ w. w.now) (Bor.now s)) c.unwrap_or.ensures ∙ texts_or c.get_strs.result _ refl
    ∙ ap (λ o. unwrap_or o []) words in
    IfOk-weaker c.request_from.result
    (λ request. request ≡ request_from c.in-Some.settings (map (λ w. w.now) c.unwrap_or.result.now))
    (λ request. request ≡ request_by (rows_of found))
    (λ request is. by_rows (rows_of found) c.in-Some.settings (map (λ w. w.now) c.unwrap_or.result.now) request
    c.in-Some.ensures.settings same is) c.request_from.ensures
