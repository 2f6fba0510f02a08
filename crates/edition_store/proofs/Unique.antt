-- The mirror of the mirror is the timetable itself.
use Rattle.std.proofs.Common.{◌≡◌, ◌∙◌, sym, ap, subst, refl, ℕ, ◌<◌, ◌==◌, ◌⊎◌, inl, inr, true, List, [], ◌∷◌, ◌++◌, length, get_or, map, Option, Some, find, arith}
use Rattle.std.specs.Prelude.{AllPairs, reverse}
use Rattle.std.specs.Option.{option_map}
use Rattle.std.proofs.lemmas.Bool.{eq-eqb}
use Rattle.std.proofs.lemmas.Bool.Decides.{nat_tests}
use Rattle.std.proofs.lemmas.Grind.{reverse_onto}
use Rattle.std.proofs.lemmas.List.{ext_get_or, map-append, reverse-reverse}
use Rattle.tb_base.specs.declared.table.Event.{Event}
use Rattle.tb_base.specs.declared.table.Path.{Path}
use Rattle.tb_base.specs.TimetableData.{FootpathData, TimetableData, TripData}
use Rattle.tb_base.specs.Soundness.{IsSound}
use Rattle.tb_base.specs.Walking.{footpath_secs}
use Rattle.tb_base.proofs.Lists.{option_map-back}
use Rattle.tb_base.proofs.Members.{find_first, find_found}
use Rattle.tb_base.proofs.Ordered.{Member, same_members}
use Rattle.edition_store.specs.Mirror.{IsMirror, mirror_event, mirror_events, mirror_trip}
use Rattle.edition_store.proofs.Back.{time_back}

map-reverse : {X Y : Type 0} (f : X → Y) (xs : List X) → map f (reverse xs) ≡ reverse (map f xs)
map-reverse f [] = refl
map-reverse f (x ∷ xs) =
    ap (map f) (reverse_onto xs x []) ∙ (map-append f (reverse xs) (x ∷ []) ∙ (ap (λ ys. ys ++ f x ∷ []) (map-reverse f xs) ∙ sym (reverse_onto (map f xs) (f x) [])))

event_twice : (e : Event) → mirror_event (mirror_event e) ≡ e
event_twice e = λ i. record { stop = e.stop; arr = time_back e.arr i; dep = time_back e.dep i; board = e.board; alight = e.alight }

map_twice : (es : List Event) → map mirror_event (map mirror_event es) ≡ es
map_twice [] = refl
map_twice (e ∷ es) = λ i. event_twice e i ∷ map_twice es i

events_twice : (es : List Event) → mirror_events (mirror_events es) ≡ es
events_twice es =
    ap reverse (map-reverse mirror_event (map mirror_event es)) ∙ (reverse-reverse (map mirror_event (map mirror_event es)) ∙ map_twice es)

trips_twice : (ts : List TripData) → map mirror_trip (map mirror_trip ts) ≡ ts
trips_twice [] = refl
trips_twice (t ∷ ts) = λ i. record { name = t.name; day = t.day; events = events_twice t.events i } ∷ trips_twice ts i

pub mirror_back : (T M : TimetableData) → IsMirror T M → IsMirror M T
mirror_back T M m = record {
  stops = sym m.stops;
  stations = sym m.stations;
  trips = sym (ap (map mirror_trip) m.trips ∙ trips_twice T.trips);
  footpaths = record { change = sym m.footpaths.change; secs = λ p q. sym (m.footpaths.secs q p) };
}

-- rows in order in which the same footpaths are found are the same
abbrev secs_of : Option Path → Option ℕ
secs_of o = option_map (λ (f : Path). f.secs) o

found_itself : (xs : List Path) (x : Path) → AllPairs (λ (f g : Path). f.to < g.to) xs → Member x xs → find (λ (f : Path). f.to == x.to) xs ≡ Some x
found_itself xs x up h =
    let r : (u : Path) × (find (λ (f : Path). f.to == x.to) xs ≡ Some u) × Member u xs × ((u.to == x.to) ≡ true) × ((u ≡ x) ⊎ (u.to < x.to)) =
    find_first (λ (f g : Path). f.to < g.to) (λ (f : Path). f.to == x.to) xs x up h (eq-eqb x.to x.to refl) in
    elim r.4 [ inl e ↦ r.1 ∙ ap (λ (f : Path). Some f) e | inr before ↦ absurd (grind (arith, nat_tests, before, r.3)) ]

members_same : (xs ys : List Path) → AllPairs (λ (f g : Path). f.to < g.to) xs → ((q : ℕ) → secs_of (find (λ (f : Path). f.to == q) xs) ≡ secs_of (find (λ (f : Path). f.to == q) ys)) → (x : Path) → Member x xs → Member x ys
members_same xs ys up same x h =
    let found : secs_of (find (λ (f : Path). f.to == x.to) ys) ≡ Some x.secs = sym (same x.to) ∙ ap secs_of (found_itself xs x up h) in
    let r : (y : Path) × (find (λ (f : Path). f.to == x.to) ys ≡ Some y) × (y.secs ≡ x.secs) = option_map-back (λ (f : Path). f.secs) (find (λ (f : Path). f.to == x.to) ys) x.secs found in
    let k : Member r.0 ys × ((r.0.to == x.to) ≡ true) = find_found (λ (f : Path). f.to == x.to) ys r.0 r.1 in
    let to : r.0.to ≡ x.to = grind (arith, nat_tests, k.1) in
    let is : r.0 ≡ x = (λ i. record { to = to i; secs = r.2 i }) in
    subst (λ f. Member f ys) is k.0

rows_same : (xs ys : List Path) → AllPairs (λ (f g : Path). f.to < g.to) xs → AllPairs (λ (f g : Path). f.to < g.to) ys
    → ((q : ℕ) → secs_of (find (λ (f : Path). f.to == q) xs) ≡ secs_of (find (λ (f : Path). f.to == q) ys)) → xs ≡ ys
rows_same xs ys up vp same =
    same_members (λ (f g : Path). f.to < g.to) (λ f g before after. omega (arith, before, after)) xs ys up vp (members_same xs ys up same) (members_same ys xs vp (λ q. sym (same q)))

paths_same : (F G : FootpathData) → length F.paths ≡ length G.paths → ((p : ℕ) → p < length F.paths → AllPairs (λ (f g : Path). f.to < g.to) (get_or F.paths p []))
    → ((p : ℕ) → p < length G.paths → AllPairs (λ (f g : Path). f.to < g.to) (get_or G.paths p [])) → ((p q : ℕ) → footpath_secs F p q ≡ footpath_secs G p q) → F.paths ≡ G.paths
paths_same F G long up vp same =
    ext_get_or [] F.paths G.paths long (λ p inside. rows_same (get_or F.paths p []) (get_or G.paths p []) (up p inside) (vp p (omega (arith, long, inside))) (same p))

pub mirror_twice : (T M N : TimetableData) → IsSound T → IsSound N → IsMirror T M → IsMirror M N → N ≡ T
mirror_twice T M N t n one two =
    let stops : N.stops ≡ T.stops = two.stops ∙ one.stops in
    let change : N.footpaths.change ≡ T.footpaths.change = two.footpaths.change ∙ one.footpaths.change in
    let long : length N.footpaths.paths ≡ length T.footpaths.paths = n.footpaths.rows ∙ (ap length change ∙ sym t.footpaths.rows) in
    let paths : N.footpaths.paths ≡ T.footpaths.paths =
    paths_same N.footpaths T.footpaths long (λ p inside. n.footpaths.ascending p [] inside) (λ p inside. t.footpaths.ascending p [] inside) (λ p q. two.footpaths.secs p q ∙ one.footpaths.secs q p) in
    λ i. record {
      stops = stops i;
      stations = (two.stations ∙ one.stations) i;
      trips = (two.trips ∙ (ap (map mirror_trip) one.trips ∙ trips_twice T.trips)) i;
      footpaths = record { change = change i; paths = paths i };
    }
