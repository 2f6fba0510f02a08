use Rattle.std.proofs.Common.{◌≡◌, ◌∙◌, sym, ap, ℕ, ◌<◌, ◌+◌, ◌++◌, ◌∷◌, List, [], length, map, true, take, get_or, rules, Bor}
use Rattle.std.specs.Prelude.{bytes_eq, position}
use Rattle.std.specs.Result.{is_ok}
use Rattle.std.proofs.lemmas.List.{map_more, map-append}
use Rattle.gtfs_rows.specs.RawRows.{cut, positions}
use Rattle.gtfs_rows.proofs.cursor.positions_of.Goals as goal

position_more : (names : List (Bor (List ℕ))) (head : List (List ℕ)) (i : ℕ) (d : Bor (List ℕ)) → i < length names
    → positions (map (λ (name : Bor (List ℕ)). name.now) (take (i + 1) names)) head ≡ positions (map (λ (name : Bor (List ℕ)). name.now) (take i names)) head ++ position (bytes_eq (get_or names i d).now) head ∷ []
position_more names head i d h =
    ap (λ (ns : List (List ℕ)). positions ns head) (map_more (λ (name : Bor (List ℕ)). name.now) names i d h)
    ∙ map-append (λ (name : List ℕ). position (bytes_eq name) head) (map (λ (name : Bor (List ℕ)). name.now) (take i names)) ((get_or names i d).now ∷ [])

pub loop-name-preserved : goal.loop-name-preserved
loop-name-preserved c =
    let good : is_ok c.push.result ≡ true = search rules in
    let items = rw good at c.push.ensures.items in
    items ∙ rw (c.loop-name.invariant, c.position_of.ensures) (sym (position_more c.args.names.now (map cut c.args.head.now.current) c.loop-name.name-index _ c.loop-name-test.true))
