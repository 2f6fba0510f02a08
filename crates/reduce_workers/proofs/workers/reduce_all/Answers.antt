use Rattle.std.proofs.Common.{◌∙◌, ◌<◌, sym, subst, All, arith}
use Rattle.reduce_workers.specs.Reductions.{piece_reduced}
use Rattle.reduce_workers.specs.Work.{IsPieceOf}
use Rattle.reduce_workers.proofs.Placing.{all_pieces, drawn_once, pieces_within, place_filled}
use Rattle.reduce_workers.proofs.workers.reduce_all.Goals as goal

pub place-requires : goal.place-requires
place-requires g c =
    let f = piece_reduced c.args.table.now c.args.lines.now.lines in
    let drawn = c.gather-drawn.ensures in
    let same = c.in_ok-claim.ensures.pieces ∙ c.piece_count.ensures ∙ sym c.piece_count-2.ensures in
    pieces_within c.piece_count-2.result c.in_ok-seats.done.items (drawn_once f c.in_ok-seats.done.items c.in_ok-seats.seats.items _ c.in_ok-claim.claim.pieces c.piece_count-2.result c.in_ok-seats.ensures.pieces drawn.lists drawn.once same)

pub join_pieces-requires-clause-each : goal.join_pieces-requires-clause-each
join_pieces-requires-clause-each g c n lt =
    let f = piece_reduced c.args.table.now c.args.lines.now.lines in
    let drawn = c.gather-drawn.ensures in
    let done = c.in_ok-seats.done.items in
    let brought = c.in_ok-seats.ensures.pieces in
    let same = c.in_ok-claim.ensures.pieces ∙ c.piece_count.ensures ∙ sym c.piece_count-2.ensures in
    let each : All (IsPieceOf f) done = subst (All (IsPieceOf f)) (sym brought) (all_pieces f c.in_ok-seats.seats.items) in
    let within : n < c.piece_count-2.result = omega (arith, lt, c.in_ok-slots.ensures.long) in
    place_filled c.piece_count-2.result done c.in_ok-slots.slots.items f (drawn_once f done c.in_ok-seats.seats.items _ c.in_ok-claim.claim.pieces c.piece_count-2.result brought drawn.lists drawn.once same)
    (c.in_ok-slots.ensures.placed f each) n within
