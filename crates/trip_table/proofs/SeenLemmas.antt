-- Keys that are told apart by their order.
use Rattle.std.proofs.Common.{◌≡◌, ◌∙◌, sym, refl, ℕ, ◌==◌, ◌&&◌, ◌||◌, Bool, true, false, cond, List, [], ◌∷◌, ◌++◌, arith}
use Rattle.std.specs.List.{list_any}
use Rattle.std.specs.Ordering.{nat_cmp, is_eq, ordering_then}
use Rattle.std.specs.declared.cmp.Ordering.{Ordering}
use Rattle.std.specs.declared.cmp.Ordering.TheVariants.{Less, Equal, Greater}
use Rattle.std.proofs.lemmas.List.Folds.{list_any-append}
use Rattle.trip_table.specs.References.{same_key}
use Rattle.trip_table.specs.declared.seen.SequenceKey.{SequenceKey}

equal : (a b : ℕ) → is_eq (nat_cmp a b) ≡ (a == b)
equal a b = grind arith

both : (r s : Ordering) → is_eq (ordering_then r s) ≡ (is_eq r && is_eq s)
both Less s = refl
both Equal s = refl
both Greater s = refl

abbrev compare_keys : SequenceKey → SequenceKey → Ordering
compare_keys p q = ordering_then (nat_cmp p.trip_row q.trip_row) (nat_cmp p.sequence q.sequence)

equal_keys : (p q : SequenceKey) → is_eq (compare_keys p q) ≡ same_key p q
equal_keys p q = both (nat_cmp p.trip_row q.trip_row) (nat_cmp p.sequence q.sequence) ∙ (λ i. equal p.trip_row q.trip_row i && equal p.sequence q.sequence i)

-- a key is found by its order exactly if it is there
pub found_by_order : (k : SequenceKey) (ks : List SequenceKey) → list_any (λ q. is_eq (compare_keys k q)) ks ≡ list_any (same_key k) ks
found_by_order k [] = refl
found_by_order k (q ∷ ks) = (λ i. equal_keys k q i || found_by_order k ks i)

symmetric : (a b : ℕ) → (a == b) ≡ (b == a)
symmetric a b = grind arith

same_key-symmetric : (p q : SequenceKey) → same_key p q ≡ same_key q p
same_key-symmetric p q = (λ i. symmetric p.trip_row q.trip_row i && symmetric p.sequence q.sequence i)

one_or : (b c : Bool) → cond b true c ≡ (c || (b || false))
one_or true true = refl
one_or true false = refl
one_or false true = refl
one_or false false = refl

-- one key more
pub one_key_more : (key : SequenceKey) (old new : List SequenceKey)
    → ((k : SequenceKey) → list_any (λ q. is_eq (compare_keys k q)) new ≡ cond (is_eq (compare_keys key k)) true (list_any (λ q. is_eq (compare_keys k q)) old)) → (k : SequenceKey) → list_any (same_key k) new ≡ list_any (same_key k) (old ++ key ∷ [])
one_key_more key old new h k =
    sym (found_by_order k new) ∙ h k ∙ (λ i. cond ((equal_keys key k ∙ same_key-symmetric key k) i) true (found_by_order k old i)) ∙ one_or (same_key k key) (list_any (same_key k) old)
    ∙ sym (list_any-append (same_key k) old (key ∷ []))
