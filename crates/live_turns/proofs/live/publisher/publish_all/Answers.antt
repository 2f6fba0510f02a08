use Rattle.live_turns.proofs.LivePublisher.{where_ok}
use Rattle.live_turns.proofs.live.publisher.publish_all.Goals as goal

pub returns-in-Ok-clause-rose : goal.returns-in-Ok-clause-rose
returns-in-Ok-clause-rose g c =
    where_ok c.publish_named.result _ _ (λ f. f (g.F.Folder.faults c.args.folder.now) c.publish_words.ensures.later c.in-Ok.ensures.rose) c.publish_named.ensures.rose
