use Rattle.live_turns.proofs.live.office.reply_to.Goals as goal

pub shown_reply-requires : goal.shown_reply-requires
shown_reply-requires c = rw c.table.ensures c.in_ok-reply.ensures.numbers
