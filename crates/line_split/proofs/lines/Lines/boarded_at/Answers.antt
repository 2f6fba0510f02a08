use Rattle.std.proofs.Common.{◌≡◌, ◌∙◌, ap, refl, arith, ◌+◌, ◌*◌, ◌<◌, length, [], get_or, take, drop}
use Rattle.line_split.specs.Layout.{start_of}
use Rattle.line_split.specs.LinesOf.{line_events}
use Rattle.line_split.proofs.DepartureLemmas.{run_of}
use Rattle.line_split.proofs.lines.Lines.boarded_at.Goals as goal

pub part-requires : goal.part-requires
part-requires c =
    let s = c.self.inside in
    let b = c.args.boarding.now in
    let line : c.args.boarding.now.line < length c.self.inside.lines = rw (← c.self.view_is) at c.requires.berth.line in
    let at : c.args.boarding.now.at < length (line_events c.self.inside.table.value (get_or c.self.inside.lines c.args.boarding.now.line [])) = rw (← c.self.view_is) at c.requires.berth.at in
    let start : c.args.boarding.now.start ≡ start_of c.self.inside.table.value c.self.inside.lines c.args.boarding.now.line + c.args.boarding.now.at * length (get_or c.self.inside.lines c.args.boarding.now.line []) = rw (← c.self.view_is) at c.requires.start in
    let count : c.args.boarding.now.count ≡ length (get_or c.self.inside.lines c.args.boarding.now.line []) = rw (← c.self.view_is) at c.requires.count in
    let run = run_of s.table.value s.lines b.line b.at (start_of s.table.value s.lines b.line) (length (get_or s.lines b.line [])) s.departures.items line at refl refl c.self.invariant.departures in
    omega (arith, run.within, start, count, ap length c.as_slice.ensures.value)

pub returns : goal.returns
returns c =
    let s = c.self.inside in
    let b = c.args.boarding.now in
    let line : c.args.boarding.now.line < length c.self.inside.lines = rw (← c.self.view_is) at c.requires.berth.line in
    let at : c.args.boarding.now.at < length (line_events c.self.inside.table.value (get_or c.self.inside.lines c.args.boarding.now.line [])) = rw (← c.self.view_is) at c.requires.berth.at in
    let start : c.args.boarding.now.start ≡ start_of c.self.inside.table.value c.self.inside.lines c.args.boarding.now.line + c.args.boarding.now.at * length (get_or c.self.inside.lines c.args.boarding.now.line []) = rw (← c.self.view_is) at c.requires.start in
    let count : c.args.boarding.now.count ≡ length (get_or c.self.inside.lines c.args.boarding.now.line []) = rw (← c.self.view_is) at c.requires.count in
    let run = run_of s.table.value s.lines b.line b.at (start_of s.table.value s.lines b.line) (length (get_or s.lines b.line [])) s.departures.items line at refl refl c.self.invariant.departures in
    rw (← c.self.view_is) (c.part.ensures ∙ (λ i. take (count i) (drop (start i) (c.as_slice.ensures.value i))) ∙ run.is)
