-- What a parse of the words gives.
use Rattle.std.proofs.Common.{◌≡◌, ◌∙◌, ap, refl, subst, true, codes, List, [], ◌∷◌, Option, Some, None, map, ℕ, Bor}
use Rattle.std.specs.Prelude.{option_map}
use Rattle.std.specs.Option.{option_and_then, unwrap_or}
use Rattle.clap.specs.Words.{App, IsAmong, Kinds, Row, Text, all_of, fault_of, is_simple, is_simple_and_free, matches_of}
use Rattle.clap.specs.declared.error.kind.ErrorKind.{ErrorKind}
use Rattle.clap.proofs.OnLiterals.{clap_on_literals}
use Rattle.command_line.specs.Arguments.{given, router_arguments, unless_wrong}
use Rattle.command_line.specs.Requests.{request_by, request_from}
use Rattle.command_line.specs.Settings.{settings_given}
use Rattle.command_line.specs.declared.request.Request.{Request}
use Rattle.command_line.specs.declared.settings.Settings.{Settings}

-- clap says exactly what it takes of such arguments
pub router_simple : is_simple router_arguments ≡ true
unfolding clap_on_literals
router_simple = refl

pub router_free : is_simple_and_free router_arguments ≡ true
unfolding clap_on_literals
router_free = refl

none_wrong : (faults : Kinds) (rows others : List Row) → faults ≡ [] → others ≡ rows → unless_wrong faults rows ≡ Some others
none_wrong faults rows others right same = rw (right, same) refl

some_wrong : (faults : Kinds) (rows : List Row) (k : ErrorKind) → IsAmong k faults → unless_wrong faults rows ≡ None
some_wrong [] rows k h = absurd h
some_wrong (f ∷ faults) rows k h = refl

-- where a parse succeeds, what it found is given
pub given_rows : (a : App) (words : List Text) (rows : List Row) → a ≡ router_arguments → fault_of a words ≡ [] → rows ≡ matches_of a words → given words ≡ Some rows
given_rows a words rows same right found =
    none_wrong (fault_of router_arguments words) (matches_of router_arguments words) rows
    (subst (λ (b : App). fault_of b words ≡ []) same right) (subst (λ (b : App). rows ≡ matches_of b words) same found)

-- where it fails for another cause than want of memory, nothing is
pub nothing_given : (a : App) (words : List Text) (k : ErrorKind) → a ≡ router_arguments → IsAmong k (fault_of a words) → given words ≡ None
nothing_given a words k same wrong =
    some_wrong (fault_of router_arguments words) (matches_of router_arguments words) k
    (subst (λ (b : App). IsAmong k (fault_of b words)) same wrong)

-- the same request, by what is given
pub asked : {A : Type 0} (request_by : List Row → Option A) (given : Option (List Row)) (rows : List Row) (request : Option A) → given ≡ Some rows → request ≡ request_by rows →
    request ≡ option_and_then request_by given
asked request_by given rows request is by = rw is by

pub not_asked : {A : Type 0} (request_by : List Row → Option A) (given : Option (List Row)) → given ≡ None → None ≡ option_and_then request_by given
not_asked request_by given is = rw is refl

-- the texts behind references, or none
pub texts_or : (o : Option (Bor (List (Bor (List ℕ))))) (none : Bor (List (Bor (List ℕ)))) → none.now ≡ [] →
    map (λ w. w.now) (Bor.now (unwrap_or o none)) ≡ unwrap_or (option_map (λ s. map (λ v. v.now) s.now) o) []
texts_or None none e = rw e refl
texts_or (Some s) none e = refl

-- a request by the settings and the words that the rows give
pub by_rows : (rows : List Row) (s : Settings) (words : List Text) (request : Option Request) → Some s ≡ settings_given rows → words ≡ unwrap_or (all_of (codes "words") rows) [] →
    request ≡ request_from s words → request ≡ request_by rows
by_rows rows s words request settings same is =
    is ∙ ap (request_from s) same
    ∙ ap (option_and_then (λ t. request_from t (unwrap_or (all_of (codes "words") rows) []))) settings
