use Rattle.std.proofs.Common.{◌≡◌, ◌∷◌, [], subst, take, rules}
use Rattle.edition_build.specs.Plans.{BeginsWithFirst, outcome_of}
use Rattle.live_turns.specs.declared.live.news.Became.TheVariants as became
use Rattle.live_turns.proofs.LivedRuns.{begins_live, first_news, take_one}
use Rattle.live_turns.proofs.live.lived.live_from.Goals as goal

pub live_behind-requires-clause-begins : goal.live_behind-requires-clause-begins
live_behind-requires-clause-begins g c κs within =
    let files = g.F.Folder.files c.args.folder.now in
    let options = c.args.building.now.options in
    let words = c.args.words.now in
    let w = c.index-words-0.result in
    let e = c.args.first in
    let x = c.in-Ok.news in
    let b = c.in-Ok-begin in
    let one : take 1 words ≡ w ∷ [] = take_one words w w c.requires.some c.index-words-0.is in
    let is : x ≡ record { word = w.word; became = became.Outcome (outcome_of 1 e) } = search rules in
    let good = subst (λ m. BeginsWithFirst files options m words (e ∷ [])) c.requires.mirrored c.requires.first in
    begins_live files options c.args.mode words w e x b.publisher c.in-Ok.day b.items b.tells c.args.lanes b.side one is good (search rules) (search rules) (search rules) (search rules) c.requires.lanes (search rules)

pub live_behind-requires-clause-told : goal.live_behind-requires-clause-told
live_behind-requires-clause-told g c κs within =
    let words = c.args.words.now in
    let w = c.index-words-0.result in
    let e = c.args.first in
    let x = c.in-Ok.news in
    let one : take 1 words ≡ w ∷ [] = take_one words w w c.requires.some c.index-words-0.is in
    let is : x ≡ record { word = w.word; became = became.Outcome (outcome_of 1 e) } = search rules in
    first_news words w e x one is
