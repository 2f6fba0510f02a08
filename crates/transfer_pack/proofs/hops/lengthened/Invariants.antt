use Rattle.std.proofs.Common.{◌≡◌, map, take}
use Rattle.transfer_pack.specs.Words.{hop_in}
use Rattle.transfer_pack.proofs.hops.lengthened.Given as goal

abbrev pub invariant-loop-word : goal.invariant-loop-word
invariant-loop-word l = l.hops.items ≡ map hop_in (take l.word-index l.words)
