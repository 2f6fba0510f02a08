use Rattle.std.proofs.Common.{◌∙◌, sym, ap, arith, ◌+◌, ◌-◌, ◌≤◌, length, map, replicate, None}
use Rattle.std.proofs.lemmas.List.{length-map}
use Rattle.std.proofs.lemmas.List.Elements.{All-weaker}
use Rattle.segment_queue.specs.Words.{mark_in}
use Rattle.segment_queue.proofs.MarkWords.{none_marked, unmarked}
use Rattle.segment_queue.proofs.marks.Marks.begin.Goals as goal

pub returns-then-self-ge-INDICES : goal.returns-then-self-ge-INDICES
returns-then-self-ge-INDICES c =
    rw (← c.self.view_is) (none_marked (c.self.inside.floor - 10000000) _ c.self.inside.words.items
    (All-weaker (λ w. c.self.inside.floor ≤ w) (λ w. c.self.inside.floor - 10000000 + 10000000 ≤ w) (λ w h. omega (arith, h, c.if-self-ge-INDICES.true)) c.self.inside.words.items c.self.invariant.1)
    (length-map c.self.inside.words.items (mark_in c.self.inside.floor)))

pub returns : goal.returns
returns c =
    rw (← c.self.view_is)
    (ap (map (mark_in 4280000000)) c.unmark.ensures ∙ unmarked 4280000000 (length c.self.inside.words.items) (omega arith)
    ∙ ap (λ n. replicate n None) (sym (length-map c.self.inside.words.items (mark_in c.self.inside.floor))))
