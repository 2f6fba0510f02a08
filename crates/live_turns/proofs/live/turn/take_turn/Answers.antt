use Rattle.std.proofs.Common.{◌∙◌, ◌++◌, ap, ap₂, sym, subst, vec_len}
use Rattle.history.specs.Lists.{Extends, Shown}
use Rattle.edition_store.specs.Editions.{EditionData}
use Rattle.live_turns.specs.LiveTurns.{HearsSome, IsLiveTurn, LineSideData}
use Rattle.query_gate.specs.Dealing.{joined_texts}
use Rattle.live_turns.proofs.LivePublisher.{where_err}
use Rattle.live_turns.proofs.LiveRuns.{hears_all, replies_are, turn_is}
use Rattle.live_turns.proofs.live.turn.take_turn.Goals as goal

pub returns-clause-turn : goal.returns-clause-turn
returns-clause-turn g c =
    let s = c.side.inside in
    let tell = c.in_ok-tell_news.ensures.told in
    let pinned = c.in_ok-pinned.pinned in
    let asked = c.in_ok-asked.asked.items in
    let texts = c.in_ok-texts.texts.items in
    let before : LineSideData = record {
      mode = s.mode;
      lanes = vec_len s.desks;
      live = record { kept = s.seat; next = s.next; told = s.news };
      given = s.giver;
    } in
    let now : LineSideData = record {
      mode = s.mode;
      lanes = vec_len c.answer_asked.new.desks;
      live = record { kept = c.pin.new.self; next = c.hear_all.new.next; told = c.tell_news.new.news };
      given = c.hear_all.new.giver;
    } in
    let later = subst (λ (k : Shown EditionData). Extends k s.seat) (sym c.in_ok-pinned.ensures.kept) c.in_ok-pinned.ensures.later in
    let replies = replies_are s.mode c.pin.new.self pinned s.next c.args.lines.now asked _ texts c.in_ok-pinned.ensures.kept c.as_slice.ensures.value c.in_ok-asked.ensures.asked c.in_ok-texts.ensures.replies in
    let text = c.into_bytes.ensures ∙ c.in_ok-add_texts.ensures ∙ ap₂ (λ t v. t ++ joined_texts v) (tell.2 ∙ ap (λ t. t ++ tell.0) c.new-text.ensures) c.as_slice-2.ensures.value in
    subst (λ (a : LineSideData). IsLiveTurn a.mode a c.args.lines.now c.into_bytes.result.items now) c.side.view_is
    (turn_is s.mode before now c.args.lines.now tell.0 (joined_texts texts) c.into_bytes.result.items later tell.1 text c.in_ok-asked.ensures.next replies c.in_ok-asked.ensures.given)

pub returns-in_err-texts-clause-refused : goal.returns-in_err-texts-clause-refused
returns-in_err-texts-clause-refused g c =
    let s = c.side.inside in
    let before : LineSideData = record {
      mode = s.mode;
      lanes = vec_len s.desks;
      live = record { kept = s.seat; next = s.next; told = s.news };
      given = s.giver;
    } in
    let now : LineSideData = record {
      mode = s.mode;
      lanes = vec_len c.answer_asked.new.desks;
      live = record { kept = c.pin.new.self; next = c.hear_all.new.next; told = c.tell_news.new.news };
      given = c.hear_all.new.giver;
    } in
    where_err c.from_residual-in_err-texts.result _
    (subst (λ (a : LineSideData). HearsSome a.mode a now c.args.lines.now) c.side.view_is (hears_all s.mode before now c.args.lines.now c.in_ok-asked.ensures.given c.in_ok-tell_news.ensures.later))

pub returns-in_err-add_texts-clause-refused : goal.returns-in_err-add_texts-clause-refused
returns-in_err-add_texts-clause-refused g c =
    let s = c.side.inside in
    let before : LineSideData = record {
      mode = s.mode;
      lanes = vec_len s.desks;
      live = record { kept = s.seat; next = s.next; told = s.news };
      given = s.giver;
    } in
    let now : LineSideData = record {
      mode = s.mode;
      lanes = vec_len c.answer_asked.new.desks;
      live = record { kept = c.pin.new.self; next = c.hear_all.new.next; told = c.tell_news.new.news };
      given = c.hear_all.new.giver;
    } in
    where_err c.from_residual-in_err-add_texts.result _
    (subst (λ (a : LineSideData). HearsSome a.mode a now c.args.lines.now) c.side.view_is (hears_all s.mode before now c.args.lines.now c.in_ok-asked.ensures.given c.in_ok-tell_news.ensures.later))
