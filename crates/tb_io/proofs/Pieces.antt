-- A file read piece by piece.
use Rattle.std.proofs.Common.{◌≡◌, ◌∙◌, sym, ap, ℕ, ◌+◌, ◌<◌, ◌≤◌, List, [], ◌++◌, length, min, take, drop, Option, Some, None, subst, append_assoc, arith, length-append, length-drop, length-take}
use Rattle.std.specs.Prelude.{IfSome, IsSome}
use Rattle.std.proofs.lemmas.List.{take-append-drop, drop-drop, nil_from_length}
use Rattle.std.proofs.lemmas.Grind.{common_steps}
use Rattle.std.proofs.Math.Seq.{take-append-add}
use Rattle.std.specs.Io.KnownBytes.{Appends, Consumes}
use Rattle.tb_io.specs.Files.{FileList, file_at, IsPiece}

-- the bytes are the file's first ones
pub record IsFront (bytes file : List ℕ) : Type 0 where
  pub front : bytes ≡ take (length bytes) file
  pub within : length bytes ≤ length file

-- a fact about the file at a path, where the files are known
abbrev pub AtPath : Option FileList → List ℕ → (List ℕ → Type 0) → Type 0
AtPath files path P = IfSome files (λ fs. IfSome (file_at fs path) P)

both : (o : Option (List ℕ)) (P Q R : List ℕ → Type 0) → ((x : List ℕ) → P x → Q x → R x) → IfSome o P → IfSome o Q → IfSome o R
both None P Q R f p q = tt
both (Some x) P Q R f p q = f x p q

pub at_path-both : (files : Option FileList) (path : List ℕ) (P Q R : List ℕ → Type 0) → ((x : List ℕ) → P x → Q x → R x) → AtPath files path P → AtPath files path Q → AtPath files path R
at_path-both None path P Q R f p q = tt
at_path-both (Some fs) path P Q R f p q = both (file_at fs path) P Q R f p q

pub front_more : (bytes piece file : List ℕ) (n : ℕ) → n ≤ length piece → IsFront bytes file → IsPiece file (length bytes) n piece → IsFront (bytes ++ take n piece) file
front_more bytes piece file n short h p =
    let e : take n piece ≡ take n (drop (length bytes) file) = p.0 in
    let lens : length (take n piece) ≡ length (take n (drop (length bytes) file)) = ap length e in
    let fits : length bytes + n ≤ length file = grind (arith, common_steps, lens, h.within) in
    let total : length (bytes ++ take n piece) ≡ length bytes + n = grind (arith, common_steps) in
    let l : length (take (length bytes) file) ≡ length bytes = grind (arith, common_steps, h.within) in
    let cut : take (length bytes + n) file ≡ take (length bytes) file ++ take n (drop (length bytes) file) =
    subst (λ (k : ℕ). take (k + n) file ≡ take (length bytes) file ++ take n (drop (length bytes) file)) l
    (subst (λ (f : List ℕ). take (length (take (length bytes) file) + n) f ≡ take (length bytes) file ++ take n (drop (length bytes) file)) (take-append-drop (length bytes) file)
    (take-append-add (take (length bytes) file) (drop (length bytes) file) n)) in
    record { front = rw total (cc); within = rw total fits }

pub appends_more : (old mid new : Option (List ℕ)) (xs ys : List ℕ) → Appends old mid xs → Appends mid new ys → Appends old new (xs ++ ys)
appends_more None mid new xs ys p q = tt
appends_more (Some old) None new xs ys p q = absurd p
appends_more (Some old) (Some bs) None xs ys p q = q
appends_more (Some old) (Some bs) (Some cs) xs ys p q = q ∙ ap (λ zs. zs ++ ys) p ∙ append_assoc old xs ys

pub consumes_more : (old mid new : Option (List ℕ)) (xs ys : List ℕ) → Consumes old mid xs → Consumes mid new ys → Consumes old new (xs ++ ys)
consumes_more None mid new xs ys p q = tt
consumes_more (Some old) None new xs ys p q = absurd p
consumes_more (Some old) (Some bs) None xs ys p q = q
consumes_more (Some old) (Some bs) (Some cs) xs ys p q = p ∙ ap (λ zs. xs ++ zs) q ∙ sym (append_assoc xs ys cs)

pub take_both : (at n : ℕ) (bytes : List ℕ) → at ≤ length bytes → take (at + n) bytes ≡ take at bytes ++ take n (drop at bytes)
take_both at n bytes h =
    let l : length (take at bytes) ≡ at = grind (arith, common_steps) in
    subst (λ (k : ℕ). take (k + n) bytes ≡ take at bytes ++ take n (drop at bytes)) l
    (subst (λ (f : List ℕ). take (length (take at bytes) + n) f ≡ take at bytes ++ take n (drop at bytes)) (take-append-drop at bytes)
    (take-append-add (take at bytes) (drop at bytes) n))

-- the first bytes of what is unread, and then what is unread after them; none are read only at the end or for no room
pub consumes_front : (bytes rest buf : List ℕ) (at most n : ℕ) → 0 < most → rest ≡ drop at bytes → n ≡ min most (min (length rest) (length buf)) → take n buf ≡ take n rest →
    (drop at bytes ≡ take n buf ++ drop (at + n) bytes) × (n ≡ 0 → 0 < length buf → drop (at + n) bytes ≡ [])
consumes_front bytes rest buf at most n some is least same = (
  subst (λ r. drop at bytes ≡ take n buf ++ r) (drop-drop n at bytes)
      (rw same (subst (λ (r : List ℕ). drop at bytes ≡ take n r ++ drop n (drop at bytes)) (sym is) (sym (take-append-drop n (drop at bytes))))),
  λ none room. nil_from_length (drop (at + n) bytes) (let lens : length rest ≡ length (drop at bytes) = ap length is in grind (arith, common_steps, some, none, room, least, lens)),
)
