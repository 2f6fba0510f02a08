-- The texts of lists, one list after another.
use Rattle.std.proofs.Common.{◌≡◌, ◌∙◌, sym, ap, ℕ, ◌+◌, ◌<◌, List, [], ◌∷◌, ◌++◌, length, map, take, flat_map, get_or, append_assoc}
use Rattle.std.proofs.lemmas.Grind.{flat_map-append}
use Rattle.std.proofs.lemmas.List.{append-nil, map-append, take_more}

-- one list more
pub list_more : {X V : Type 0} (text_of : List X → List ℕ) (items : V → List X) (lists : List V) (i : ℕ) (list : V) (start mid end : List ℕ) → i < length lists → list ≡ get_or lists i list
    → mid ≡ start ++ flat_map text_of (map items (take i lists)) → end ≡ mid ++ text_of (items list) → end ≡ start ++ flat_map text_of (map items (take (i + 1) lists))
list_more text_of items lists i list start mid end inside at before added =
    let more : flat_map text_of (map items (take (i + 1) lists)) ≡ flat_map text_of (map items (take i lists)) ++ text_of (items list)
    = ap (λ ls. flat_map text_of (map items ls)) (take_more lists i list inside ∙ ap (λ l. take i lists ++ l ∷ []) (sym at))
    ∙ ap (flat_map text_of) (map-append items (take i lists) (list ∷ []))
    ∙ flat_map-append text_of (map items (take i lists)) (items list ∷ [])
    ∙ ap (λ bytes. flat_map text_of (map items (take i lists)) ++ bytes) (append-nil (text_of (items list))) in
    added ∙ ap (λ bytes. bytes ++ text_of (items list)) before ∙ append_assoc start (flat_map text_of (map items (take i lists))) (text_of (items list)) ∙ ap (λ bytes. start ++ bytes) (sym more)
