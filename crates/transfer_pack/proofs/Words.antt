-- Hops in words, in parts.
use Rattle.std.proofs.Common.{◌≡◌, ◌∙◌, ℕ, List, ap, drop, map, sym, take}
use Rattle.std.proofs.lemmas.List.{drop-map, take-map}
use Rattle.tb_base.specs.declared.transfer.Hop.{Hop}
use Rattle.transfer_pack.specs.Words.{hop_in, hops_held}
use Rattle.transfer_pack.specs.declared.hops.Held.{Held}

-- a part of hops in words is in the part of the words
pub part_in_words : (words items part : List ℕ) (held : Held) (hops : List Hop) (n k : ℕ) →
    hops_held held ≡ hops → hops_held held ≡ map hop_in items → words ≡ items → part ≡ take n (drop k words) →
    map hop_in part ≡ take n (drop k hops)
part_in_words words items part held hops n k is short same taken =
    ap (map hop_in) taken ∙ sym (take-map hop_in n (drop k words)) ∙ ap (take n) (sym (drop-map hop_in k words))
    ∙ ap (λ w. take n (drop k (map hop_in w))) same ∙ ap (λ h. take n (drop k h)) (sym short ∙ is)
