-- One row of transfers.txt more beside those that were kept.
use Rattle.std.proofs.Common.{◌≡◌, ◌∙◌, refl, sym, ap, ℕ, List, [], ◌∷◌, ◌++◌, get_or, Bool, true, false, ◌&&◌, ◌||◌, Option, Some, None, arith}
use Rattle.std.specs.Prelude.{All, bytes_eq, is_some, not, position, unwrap_or, ◌==◌}
use Rattle.std.specs.List.{list_any}
use Rattle.std.proofs.lemmas.Bool.{and_parts, eq-eqb}
use Rattle.std.proofs.lemmas.Bool.Decides.{nat_tests}
use Rattle.std.proofs.lemmas.List.Elements.{All-push, All-head, All-tail}
use Rattle.std.proofs.lemmas.List.Folds.{list_any-append}
use Rattle.std.proofs.lemmas.List.Quantifiers.{position-Some}
use Rattle.std.proofs.lemmas.Slice.Eq.{bytes_eq-Decides}
use Rattle.tb_base.proofs.Found.{found}
use Rattle.gtfs_rows.specs.StopsFile.{StopData}
use Rattle.gtfs_rows.specs.TransfersFile.{TransferData}
use Rattle.gtfs_rows.specs.Faults.{spot}
use Rattle.gtfs_rows.specs.declared.columns.transfers.TheConstants as transfers
use Rattle.gtfs_rows.specs.declared.fault.FeedFile.TheVariants as file
use Rattle.gtfs_rows.specs.declared.fault.FeedFault.TheVariants as fault
use Rattle.footpaths.specs.Links.{wrong_transfer}
use Rattle.service_trips.specs.Faults.{first_wrong}
use Rattle.trip_table.specs.Ends.{AreIdsOf, HasBoth, KnowsEnds, ends_in, place_in}
use Rattle.trip_table.specs.References.{same_key}
use Rattle.trip_table.specs.declared.seen.SequenceKey.{SequenceKey}

place_some : (ids : List (List ℕ)) (id : List ℕ) → list_any (bytes_eq id) ids ≡ true → position (bytes_eq id) ids ≡ Some (place_in ids id)
place_some ids id e = by_option (position (bytes_eq id) ids) (found (bytes_eq id) ids ∙ e)
  where
    by_option : (o : Option ℕ) → is_some o ≡ true → o ≡ Some (unwrap_or o 0)
    by_option None e = cc
    by_option (Some k) e = refl

-- two ids have one place only where they are equal
same_place : (ids : List (List ℕ)) (a b : List ℕ) → list_any (bytes_eq a) ids ≡ true → list_any (bytes_eq b) ids ≡ true → place_in ids a ≡ place_in ids b → a ≡ b
same_place ids a b h k e =
    let p = position-Some (bytes_eq a) ids (place_in ids a) [] (place_some ids a h) in
    let q = position-Some (bytes_eq b) ids (place_in ids b) [] (place_some ids b k) in
    (bytes_eq-Decides a (get_or ids (place_in ids a) [])).0 p.1 ∙ ap (λ n. get_or ids n []) e ∙ sym ((bytes_eq-Decides b (get_or ids (place_in ids b) [])).0 q.1)

same_bool : (a b : Bool) → (a ≡ true → b ≡ true) → (b ≡ true → a ≡ true) → a ≡ b
same_bool true b f g = sym (f refl)
same_bool false true f g = g refl
same_bool false false f g = refl

places_tell : (ids : List (List ℕ)) (a b : List ℕ) → list_any (bytes_eq a) ids ≡ true → list_any (bytes_eq b) ids ≡ true → (place_in ids a == place_in ids b) ≡ bytes_eq a b
places_tell ids a b h k =
    same_bool _ _ (λ t. (bytes_eq-Decides a b).1 (same_place ids a b h k (grind (arith, nat_tests, t))))
    (λ t. eq-eqb (place_in ids a) (place_in ids b) (ap (place_in ids) ((bytes_eq-Decides a b).0 t)))

same_ends : (ids : List (List ℕ)) (r e : TransferData) → HasBoth ids r → HasBoth ids e → same_key (ends_in ids r) (ends_in ids e) ≡ (bytes_eq r.from e.from && bytes_eq r.to e.to)
same_ends ids r e h k = rw (places_tell ids r.from e.from h.from k.from, places_tell ids r.to e.to h.to k.to) refl

any_same : {X : Type 0} (p q : X → Bool) (P : X → Type 0) (xs : List X) → ((x : X) → P x → p x ≡ q x) → All P xs → list_any p xs ≡ list_any q xs
any_same p q P [] f h = refl
any_same p q P (x ∷ xs) f h = rw (f x (All-head P x xs h), any_same p q P xs f (All-tail P x xs h)) refl

-- the ends of a row were seen exactly where a kept row has them
seen_before : (ids : List (List ℕ)) (seen : List SequenceKey) (kept : List TransferData) (r : TransferData) → KnowsEnds ids seen kept → HasBoth ids r → list_any (same_key (ends_in ids r)) seen ≡ list_any (λ e. bytes_eq r.from e.from && bytes_eq r.to e.to) kept
seen_before ids seen kept r known there = known.ends (ends_in ids r) ∙ any_same _ _ (HasBoth ids) kept (λ e k. same_ends ids r e there k) known.there

from_not : (a b : Bool) → a ≡ not b → b ≡ not a
from_not a true e = rw e refl
from_not a false e = rw e refl

position_there : (ids : List (List ℕ)) (id : List ℕ) (k : ℕ) → Some k ≡ position (bytes_eq id) ids → (list_any (bytes_eq id) ids ≡ true) × (place_in ids id ≡ k)
position_there ids id k e = (sym (found (bytes_eq id) ids) ∙ ap is_some (sym e), ap (λ o. unwrap_or o 0) (sym e))

position_none : (ids : List (List ℕ)) (id : List ℕ) → None ≡ position (bytes_eq id) ids → list_any (bytes_eq id) ids ≡ false
position_none ids id e = sym (found (bytes_eq id) ids) ∙ ap is_some (sym e)

same_record : (a b c d : ℕ) → a ≡ c → b ≡ d → (let k : SequenceKey = record { trip_row = a; sequence = b } in k) ≡ record { trip_row = c; sequence = d }
same_record a b c d e f = rw (e, f) refl

module _ (ids : List (List ℕ)) (stops : List StopData) (are : AreIdsOf ids stops) (kept : List TransferData) (r : TransferData) where
  -- its first end isn't there
  pub no_origin : None ≡ position (bytes_eq r.from) ids → Some (fault.UnknownStop (spot file.Transfers r.row transfers.FROM_STOP_ID)) ≡ first_wrong (wrong_transfer stops [] kept r)
  no_origin e = rw (← are r.from, position_none ids r.from e) refl

  -- its second end isn't there
  pub no_target : (k : ℕ) → Some k ≡ position (bytes_eq r.from) ids → None ≡ position (bytes_eq r.to) ids → Some (fault.UnknownStop (spot file.Transfers r.row transfers.TO_STOP_ID)) ≡ first_wrong (wrong_transfer stops [] kept r)
  no_target k h e = rw (← are r.from, ← are r.to, (position_there ids r.from k h).0, position_none ids r.to e) refl

  both_there : (j k : ℕ) → Some j ≡ position (bytes_eq r.from) ids → Some k ≡ position (bytes_eq r.to) ids → HasBoth ids r
  both_there j k h e = record { from = (position_there ids r.from j h).0; to = (position_there ids r.to k e).0 }

  key_is : (j k : ℕ) → Some j ≡ position (bytes_eq r.from) ids → Some k ≡ position (bytes_eq r.to) ids → record { trip_row = j; sequence = k } ≡ ends_in ids r
  key_is j k h e = rw ((position_there ids r.from j h).1, (position_there ids r.to k e).1) refl

  -- a kept row has its ends
  pub ends_twice : (j k : ℕ) (seen : List SequenceKey) (fresh : Bool) → KnowsEnds ids seen kept → Some j ≡ position (bytes_eq r.from) ids → Some k ≡ position (bytes_eq r.to) ids → fresh ≡ not (list_any (same_key (record { trip_row = j; sequence = k })) seen)
      → fresh ≡ false → Some (fault.DuplicateTransfer (spot file.Transfers r.row transfers.FROM_STOP_ID)) ≡ first_wrong (wrong_transfer stops [] kept r)
  ends_twice j k seen fresh known h e told n =
      let there = both_there j k h e in
      let yes : list_any (λ e. bytes_eq r.from e.from && bytes_eq r.to e.to) kept ≡ true =
      sym (seen_before ids seen kept r known there) ∙ ap (λ q. list_any (same_key q) seen) (sym (key_is j k h e)) ∙ from_not fresh _ told ∙ ap not n in
      rw (← are r.from, ← are r.to, there.from, there.to, yes) refl

  -- none has
  pub ends_fresh : (j k : ℕ) (seen : List SequenceKey) (fresh : Bool) → KnowsEnds ids seen kept → Some j ≡ position (bytes_eq r.from) ids → Some k ≡ position (bytes_eq r.to) ids → fresh ≡ not (list_any (same_key (record { trip_row = j; sequence = k })) seen)
      → fresh ≡ true → None ≡ first_wrong (wrong_transfer stops [] kept r)
  ends_fresh j k seen fresh known h e told y =
      let there = both_there j k h e in
      let no : list_any (λ e. bytes_eq r.from e.from && bytes_eq r.to e.to) kept ≡ false =
      sym (seen_before ids seen kept r known there) ∙ ap (λ q. list_any (same_key q) seen) (sym (key_is j k h e)) ∙ from_not fresh _ told ∙ ap not y in
      rw (← are r.from, ← are r.to, there.from, there.to, no) refl

  -- it is known too
  pub knows_more : (j k : ℕ) (seen new : List SequenceKey) → KnowsEnds ids seen kept → Some j ≡ position (bytes_eq r.from) ids → Some k ≡ position (bytes_eq r.to) ids
      → ((q : SequenceKey) → list_any (same_key q) new ≡ list_any (same_key q) (seen ++ record { trip_row = j; sequence = k } ∷ [])) → KnowsEnds ids new (kept ++ r ∷ [])
  knows_more j k seen new known h e added = record {
    there = All-push (HasBoth ids) kept r known.there (both_there j k h e);
    ends = λ q.
        let one = record { trip_row = j; sequence = k } ∷ [] in
        added q ∙ list_any-append (same_key q) seen one ∙ ap (λ b. b || list_any (same_key q) one) (known.ends q) ∙ ap (λ x. list_any (λ e. same_key q (ends_in ids e)) kept || (same_key q x || false)) (key_is j k h e)
        ∙ sym (list_any-append (λ e. same_key q (ends_in ids e)) kept (r ∷ []));
  }

  -- what is known stays so where its ends were seen before
  pub knows_same : (j k : ℕ) (seen new : List SequenceKey) (fresh : Bool) → KnowsEnds ids seen kept → fresh ≡ not (list_any (same_key (record { trip_row = j; sequence = k })) seen) → fresh ≡ false
      → ((q : SequenceKey) → list_any (same_key q) new ≡ list_any (same_key q) (seen ++ record { trip_row = j; sequence = k } ∷ [])) → KnowsEnds ids new kept
  knows_same j k seen new fresh known told n added = record {
    there = known.there;
    ends = λ q.
        let key : SequenceKey = record { trip_row = j; sequence = k } in
        added q ∙ list_any-append (same_key q) seen (key ∷ []) ∙ absorbed q key seen (from_not fresh _ told ∙ ap not n) ∙ known.ends q;
  }
    where
      same_is : (p q : SequenceKey) → same_key p q ≡ true → p ≡ q
      same_is p q t = let both = and_parts (p.trip_row == q.trip_row) (p.sequence == q.sequence) t in let a : p.trip_row ≡ q.trip_row = grind (arith, nat_tests, both) in let b : p.sequence ≡ q.sequence = grind (arith, nat_tests, both) in same_record p.trip_row p.sequence q.trip_row q.sequence a b

      absorb_by : (a b : Bool) → (b ≡ true → a ≡ true) → (a || (b || false)) ≡ a
      absorb_by true b f = refl
      absorb_by false true f = sym (f refl)
      absorb_by false false f = refl

      absorbed : (q key : SequenceKey) (seen : List SequenceKey) → list_any (same_key key) seen ≡ true → (list_any (same_key q) seen || (same_key q key || false)) ≡ list_any (same_key q) seen
      absorbed q key seen there = absorb_by (list_any (same_key q) seen) (same_key q key) (λ t. ap (λ x. list_any (same_key x) seen) (same_is q key t) ∙ there)
