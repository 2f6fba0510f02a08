-- What the loops of the workers keep.
use Rattle.std.proofs.Common.{◌≡◌, ◌∙◌, ℕ, ◌+◌, ◌<◌, ◌≤◌, Ok, Result, Vec, Global, IfOk, List, [], ◌∷◌, ◌++◌, All, length, map, subst, ap, sym, arith, length-append}
use Rattle.std.proofs.lemmas.List.{append-nil, map-append}
use Rattle.std.proofs.lemmas.List.Elements.{All-push}
use Rattle.std.proofs.lemmas.List.Concat.{flat_map-append}
use Rattle.tb_base.specs.declared.memory.Memory.{Memory}
use Rattle.reduce_workers.specs.declared.rule.Hand.{Hand}
use Rattle.reduce_workers.specs.Claim.{hand}
use Rattle.reduce_workers.specs.Reductions.{ReducedData}
use Rattle.reduce_workers.specs.Seats.{ClaimData, SeatData, IsDone, IsOpen, drawn_of}
use Rattle.reduce_workers.specs.Work.{Worked, piece_of, pieces_of}
use Rattle.reduce_workers.proofs.Loops.{all_front, all_last}

-- numbers that are drawn in rising order are at most as many as their bound
abbrev pub Short : List ℕ → Type 0
Short xs = (n : ℕ) → All (λ x. x < n) xs → length xs ≤ n

-- a worker has reduced the pieces that it drew
pub record Works (c : ClaimData) (f : ℕ → ReducedData) (seat : SeatData) (done : List (ℕ × ReducedData)) : Type 0 where
  pub stands : IsOpen c (drawn_of seat) seat
  pub short : Short (drawn_of seat)
  pub all : done ≡ map (piece_of f) (drawn_of seat)

-- one piece more
pub works_more : (c : ClaimData) (f : ℕ → ReducedData) (old new : SeatData) (done more : List (ℕ × ReducedData)) (n : ℕ) (one : ReducedData) → Works c f old done → All (λ x. x < n) (drawn_of old)
    → IsOpen c (drawn_of old ++ n ∷ []) new → one ≡ f n → more ≡ done ++ (n, one) ∷ [] → Works c f new more
works_more c f old new done more n one w rising open_now is e = record {
  stands = (open_now.0, open_now.1 ∙ ap (λ xs. hand c.pieces xs 1 0) (sym drawn));
  short = subst Short (sym drawn) (λ m all.
      let last : n < m = all_last (λ x. x < m) (drawn_of old) n all in
      let few : length (drawn_of old) ≤ n = w.short n rising in
      let long = length-append (drawn_of old) (n ∷ []) in
      omega (arith, last, few, long));
  all = e ∙ ap (λ xs. xs ++ (n, one) ∷ []) w.all ∙ ap (λ r. map (piece_of f) (drawn_of old) ++ (n, r) ∷ []) is ∙ sym (map-append (piece_of f) (drawn_of old) (n ∷ [])) ∙ ap (map (piece_of f)) (sym drawn);
}
  where
    drawn : drawn_of new ≡ drawn_of old ++ n ∷ []
    drawn = ap (λ (h : Hand). h.drawn) open_now.1

-- what a worker brings, or that memory ran out
abbrev Brought : Type 0
Brought = Result (SeatData × Vec (ℕ × ReducedData) Global) Memory

pub record Collects (c : ClaimData) (f : ℕ → ReducedData) (n : ℕ) (left : List Brought) (seats : List SeatData) (all : List (ℕ × ReducedData)) : Type 0 where
  pub count : length seats + length left ≡ n
  pub ok : All (λ b. IfOk b (Worked c f)) left
  pub done : All (IsDone c) seats
  pub both : all ≡ pieces_of f seats

pub collects_more : (c : ClaimData) (f : ℕ → ReducedData) (n : ℕ) (before left : List Brought) (seats : List SeatData) (all : List (ℕ × ReducedData)) (one : SeatData × Vec (ℕ × ReducedData) Global)
    → Collects c f n before seats all → before ≡ left ++ Ok one ∷ [] → Collects c f n left (seats ++ one.0 ∷ []) (all ++ one.1.items)
collects_more c f n before left seats all one i split =
    let F : Brought → Type 0 = λ b. IfOk b (Worked c f) in
    let ok : All F (left ++ Ok one ∷ []) = subst (All F) split i.ok in
    let mine : Worked c f one = all_last F left (Ok one) ok in
    let count = i.count in
    let len : length before ≡ length left + 1 = ap length split ∙ length-append left (Ok one ∷ []) in
    let more = length-append seats (one.0 ∷ []) in
    let lists : SeatData → List (ℕ × ReducedData) = λ s. map (piece_of f) (drawn_of s) in
    record {
      count = omega arith;
      ok = all_front F left (Ok one ∷ []) ok;
      done = All-push (IsDone c) seats one.0 i.done mine.0;
      both = ap (λ xs. xs ++ one.1.items) i.both ∙ ap (λ xs. pieces_of f seats ++ xs) (mine.1 ∙ sym (append-nil (lists one.0))) ∙ sym (flat_map-append lists seats (one.0 ∷ []));
    }
