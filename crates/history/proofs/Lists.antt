-- Which list follows which.
use Rattle.std.proofs.Common.{◌≡◌, ◌≤◌, List, [], ◌∷◌, ◌++◌, false, drop, length, refl, sym, ap, subst, ◌∙◌, arith, append_assoc}
use Rattle.std.proofs.lemmas.List.{append-nil, take-append-drop}
use Rattle.std.proofs.lemmas.Bool.{false≢true}
use mathlib.Core.List.{IsPrefix}
use Rattle.history.specs.Lists.{Shown, StartsWith, Extends}

module _ {A : Type 0} where
  pub starts_more : (xs rest : List A) → StartsWith (xs ++ rest) xs
  starts_more [] rest = refl
  starts_more (x ∷ xs) rest = ap (λ (l : List A). x ∷ l) (starts_more xs rest)

  pub rest_of : (ys xs : List A) → StartsWith ys xs → ys ≡ xs ++ drop (length xs) ys
  rest_of ys xs h = sym (take-append-drop (length xs) ys) ∙ ap (λ (l : List A). l ++ drop (length xs) ys) h

  pub starts_self : (xs : List A) → StartsWith xs xs
  starts_self xs = subst (λ (l : List A). StartsWith l xs) (append-nil xs) (starts_more xs [])

  pub starts_trans : (xs ys zs : List A) → StartsWith zs ys → StartsWith ys xs → StartsWith zs xs
  starts_trans xs ys zs h i = let a = drop (length xs) ys in let b = drop (length ys) zs in
      let e : zs ≡ xs ++ (a ++ b) = rest_of zs ys h ∙ ap (λ (l : List A). l ++ b) (rest_of ys xs i) ∙ append_assoc xs a b in
      subst (λ (l : List A). StartsWith l xs) (sym e) (starts_more xs (a ++ b))

  pub extends_self : (x : Shown A) → Extends x x
  extends_self x = (starts_self x.list, λ c. refl)

  pub extends_trans : (x y z : Shown A) → Extends z y → Extends y x → Extends z x
  extends_trans x y z h i = (starts_trans x.list y.list z.list h.0 i.0, λ c. let same = i.1 c in h.1 (ap (λ (s : Shown A). s.closed) same ∙ c) ∙ same)

  -- an open list may become any list that begins with it
  pub extends_open : (x y : Shown A) → x.closed ≡ false → StartsWith y.list x.list → Extends y x
  extends_open x y o s = (s, λ c. absurd (false≢true (sym o ∙ c)))

  -- of two beginnings of one list one begins the other
  pub prefix_total : (xs ys zs : List A) → IsPrefix xs zs → IsPrefix ys zs → length xs ≤ length ys → IsPrefix xs ys
  prefix_total [] ys zs p q le = (ys, refl)
  prefix_total (x ∷ xs) [] zs p q le = absurd (omega arith)
  prefix_total (x ∷ xs) (y ∷ ys) [] p q le = absurd (cc (p.1))
  prefix_total (x ∷ xs) (y ∷ ys) (z ∷ zs) p q le =
      let heads : x ≡ y = cc (p.1, q.1) in
      let rest = prefix_total xs ys zs (p.0, cc (p.1)) (q.0, cc (q.1)) (omega arith) in
      (rest.0, cc (heads, rest.1))
