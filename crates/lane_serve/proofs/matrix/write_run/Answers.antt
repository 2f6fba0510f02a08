use mir.Syntax.{erased}
use Rattle.std.proofs.Common.{subst, sym, take}
use Rattle.std.specs.Io.KnownBytes.{Appends}
use Rattle.query_gate.specs.Dealing.{joined_texts}
use Rattle.lane_serve.proofs.Sent.{clerk_sync}
use Rattle.lane_serve.proofs.matrix.write_run.Goals as goal

pub answer_all-requires-sync-O : goal.answer_all-requires-sync-O
answer_all-requires-sync-O g c κs within = record { shared = λ x b o. (clerk_sync (record { mir = erased; lft = _ })).shared x b o }

pub returns-in-Ok-write_texts-clause-written : goal.returns-in-Ok-write_texts-clause-written
returns-in-Ok-write_texts-clause-written g c =
    let written = g.K.Sink.written in record {
      texts = c.in-Ok.texts.items;
      rows = c.in-Ok.ensures.replies;
      written = subst (λ texts. Appends (written c.args.sink.now) (written c.write_texts.new.sink) (joined_texts texts)) c.as_slice.ensures.value c.in-Ok-write_texts.ensures.written;
    }

pub returns-in-Ok-clause-cut : goal.returns-in-Ok-clause-cut
returns-in-Ok-clause-cut g c =
    let written = g.K.Sink.written in
    let p = c.in-Err-WriteFault.ensures.prefix in (
      c.in-Ok.texts.items,
      p.0,
      c.in-Ok.ensures.replies,
      subst (λ texts. Appends (written c.args.sink.now) (written c.write_texts.new.sink) (take p.0 (joined_texts texts))) c.as_slice.ensures.value p.1,
    )
