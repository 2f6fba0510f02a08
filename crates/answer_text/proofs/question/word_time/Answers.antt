use Rattle.std.proofs.Common.{sym, w32}
use Rattle.std.proofs.lemmas.Int.{to_z-of_z}
use Rattle.gtfs_rows.proofs.FileTimes.{file_time, file_time-fits}
use Rattle.answer_text.proofs.question.word_time.Goals as goal

pub returns-in-Some-clause-time : goal.returns-in-Some-clause-time
returns-in-Some-clause-time c =
    let within = file_time c.bytes.result.now c.in-Some.time (sym c.in-Some.ensures) in
    rw (to_z-of_z w32 c.in-Some.time (file_time-fits c.in-Some.time within)) within
