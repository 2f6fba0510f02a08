use Rattle.std.proofs.Common.{◌∙◌, ◌<◌, ap, length, get_or, subst, sym}
use Rattle.std.proofs.lemmas.List.{get_or-map}
use Rattle.line_split.specs.LinesOf.{trip_before}
use Rattle.line_split.proofs.lines.Lines.before.Goals as goal

pub returns : goal.returns
returns c =
    let s = c.self.inside in
    let t = c.args.trip in
    let inside : t < length s.table.value.trips = subst (λ k. t < length k.table.trips) (sym c.self.view_is) c.requires in
    let within : t < length s.places.items = subst (λ n. t < n) (sym c.self.invariant.trips) inside in
    let read = c.index-2.ensures ∙ ap (λ i. get_or s.before.items i c.index-2.result.now) c.index.ensures
    ∙ ap (λ xs. get_or xs t c.index-2.result.now) c.self.invariant.before ∙ get_or-map (trip_before s.lines) s.places.items t (0, 0) c.index-2.result.now within in
    rw (← c.self.view_is) record {
      place = get_or s.places.items t (0, 0);
      stands = c.self.invariant.places t inside;
      is = read;
    }
