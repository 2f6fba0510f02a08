-- What clap is told of the command line: options with a value, flags, and words.
use Rattle.std.specs.Prelude.{List, [], ◌∷◌, codes, true, Option, Some, None}
use Rattle.clap.specs.Lexer.{usize_max}
use Rattle.clap.specs.Words.{App, Kinds, Row, Rule, Text, fault_of, matches_of, new_app, new_rule, with_rule}
use Rattle.clap.specs.declared.builder.action.ArgAction.TheVariants.{Append, Set, SetTrue}

-- `--NAME VALUE` or `--NAME=VALUE`, at most once
abbrev pub option_rule : Text → Rule
option_rule name = record (new_rule name) { long = Some name; action = Some Set }

-- `--NAME`, at most once
abbrev pub flag_rule : Text → Rule
flag_rule name = record (new_rule name) { long = Some name; action = Some SetTrue }

-- the command's name and its words: one word or more
abbrev pub words_rule : Rule
words_rule = record (new_rule (codes "words")) {
  action = Some Append;
  range = Some (record { start_inclusive = 1; end_inclusive = usize_max });
  required = true;
}

-- the words begin behind the program's name
abbrev pub without_name : App → App
without_name a = record a { top = record a.top { no_binary_name = true } }

abbrev pub no_arguments : App
no_arguments = without_name (new_app (codes "router"))

abbrev pub with_options : App
with_options =
    with_rule (with_rule (with_rule (with_rule (with_rule no_arguments
    (option_rule (codes "change"))) (option_rule (codes "station"))) (option_rule (codes "days")))
    (option_rule (codes "workers"))) (option_rule (codes "lanes"))

abbrev pub with_flags : App
with_flags =
    with_rule (with_rule (with_rule (with_rule (with_rule (with_rule with_options
    (flag_rule (codes "close"))) (flag_rule (codes "lenient"))) (flag_rule (codes "plain")))
    (flag_rule (codes "mirror"))) (flag_rule (codes "json"))) (flag_rule (codes "csv"))

abbrev pub router_arguments : App
router_arguments = with_rule with_flags words_rule

-- what is given for each argument, unless something is wrong with the words
abbrev pub unless_wrong : Kinds → List Row → Option (List Row)
unless_wrong [] rows = Some rows
unless_wrong (fault ∷ faults) rows = None

-- what is given for each argument, where clap takes the words
abbrev pub given : List Text → Option (List Row)
given words = unless_wrong (fault_of router_arguments words) (matches_of router_arguments words)
