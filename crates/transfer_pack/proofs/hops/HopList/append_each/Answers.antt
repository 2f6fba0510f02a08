use Rattle.std.proofs.Common.{◌≡◌, ◌∙◌, ℕ, ◌+◌, ◌++◌, ◌∷◌, [], List, Some, ap, sym, take}
use Rattle.std.specs.Prelude.{slice_get}
use Rattle.std.proofs.lemmas.List.{append_assoc, take_more}
use Rattle.std.proofs.lemmas.Option.{get_or_from_slice_get, slice_get_within}
use Rattle.tb_base.specs.declared.transfer.Hop.{Hop}
use Rattle.transfer_pack.specs.Words.{lent}
use Rattle.transfer_pack.proofs.hops.HopList.append_each.Goals as goal

-- hops, and one more of those that are lent
next_added : (start hops next more : List Hop) (k : ℕ) (h : Hop) → slice_get more k ≡ Some h → hops ≡ start ++ take k more → next ≡ hops ++ h ∷ [] → next ≡ start ++ take (k + 1) more
next_added start hops next more k h at is pushed =
    pushed ∙ ap (λ hs. hs ++ h ∷ []) is ∙ append_assoc start (take k more) (h ∷ [])
    ∙ ap (λ hs. start ++ hs) (ap (λ x. take k more ++ x ∷ []) (sym (get_or_from_slice_get more k h h at)) ∙ sym (take_more more k h (slice_get_within more k h at)))

pub loop-place-preserved : goal.loop-place-preserved
loop-place-preserved c =
    next_added c.args.self.now c.loop-place.self c.push.new.self (lent c.args.more.now) c.loop-place.place c.at.result c.at.ensures c.loop-place.invariant c.in_ok-push.ensures
