use Rattle.std.proofs.Common.{◌≡◌, ◌∙◌, ap, ap₂, codes}
use Rattle.std.proofs.lemmas.Result.{IfOk-weaker}
use Rattle.clap.specs.Simple.{app_of_fields}
use Rattle.clap.specs.Words.{app_of, with_rule}
use Rattle.command_line.specs.Arguments.{no_arguments, option_rule, with_options, without_name}
use Rattle.command_line.proofs.arguments.router_arguments.Goals as goal

pub returns : goal.returns
returns c =
    let start : app_of c.no_binary_name.result ≡ no_arguments =
    ap app_of_fields c.no_binary_name.ensures ∙ ap without_name c.new.ensures.app in
    let change : app_of c.in_ok-arg.field-0 ≡ with_rule no_arguments (option_rule (codes "change")) =
    c.in_ok-arg.ensures.shape c.option.ensures.here ∙ ap₂ with_rule start c.option.ensures.rule in
    let station = c.in_ok-arg-2.ensures.shape c.option-2.ensures.here
    ∙ ap₂ with_rule change c.option-2.ensures.rule in
    let days = c.in_ok-arg-3.ensures.shape c.option-3.ensures.here
    ∙ ap₂ with_rule station c.option-3.ensures.rule in
    let workers = c.in_ok-arg-4.ensures.shape c.option-4.ensures.here
    ∙ ap₂ with_rule days c.option-4.ensures.rule in
    let options : app_of c.in_ok-arg-5.field-0 ≡ with_options =
    c.in_ok-arg-5.ensures.shape c.option-5.ensures.here
    ∙ ap₂ with_rule workers c.option-5.ensures.rule in
    let close = c.in_ok-arg-6.ensures.shape c.flag.ensures.here
    ∙ ap₂ with_rule options c.flag.ensures.rule in
    let lenient = c.in_ok-arg-7.ensures.shape c.flag-2.ensures.here
    ∙ ap₂ with_rule close c.flag-2.ensures.rule in
    let plain = c.in_ok-arg-8.ensures.shape c.flag-3.ensures.here
    ∙ ap₂ with_rule lenient c.flag-3.ensures.rule in
    let mirror = c.in_ok-arg-9.ensures.shape c.flag-4.ensures.here
    ∙ ap₂ with_rule plain c.flag-4.ensures.rule in
    let json = c.in_ok-arg-10.ensures.shape c.flag-5.ensures.here
    ∙ ap₂ with_rule mirror c.flag-5.ensures.rule in
    let csv = c.in_ok-arg-11.ensures.shape c.flag-6.ensures.here
    ∙ ap₂ with_rule json c.flag-6.ensures.rule in
    IfOk-weaker c.arg-12.result _ _
    (λ command added. added.shape c.words.ensures.here ∙ ap₂ with_rule csv c.words.ensures.rule)
    c.arg-12.ensures
