-- A stop is what begins it, its name, and what stands behind its name.
use Rattle.std.proofs.Common.{◌≡◌, ◌∙◌, ap, sym, ℕ, List, [], ◌∷◌, ◌++◌, codes, append_assoc}
use Rattle.std.specs.Prelude.{slice_index_or}
use Rattle.json.specs.Print.{escape}
use Rattle.tb_base.specs.declared.query.Value.{Value}
use Rattle.tb_base.specs.TimetableData.{TimetableData}
use Rattle.answer_text.specs.Journeys.{stop_name}
use Rattle.answer_json.specs.Frames.{between, framed, string_json}
use Rattle.answer_json.specs.Reached.{behind_name, from_name, stop_json, to_next_name, triple_json}
use Rattle.answer_json.specs.declared.frame.Frame.{Frame}
use Rattle.answer_json.specs.declared.frame.Frame.TheVariants as frame

named : (name values : List ℕ) → codes "[" ++ string_json name ++ codes "," ++ values ++ codes "]" ≡ codes "[\"" ++ (escape name ++ (codes "\"," ++ values ++ codes "]"))
unfolding string_json
named name values =
    ap (λ l. 91 ∷ 34 ∷ l)
    (append_assoc (escape name ++ 34 ∷ [] ++ 44 ∷ []) values (93 ∷ []) ∙ append_assoc (escape name ++ 34 ∷ []) (44 ∷ []) (values ++ 93 ∷ []) ∙ append_assoc (escape name) (34 ∷ []) (44 ∷ values ++ 93 ∷ []))

pub begun : (T : TimetableData) (lists : List (List Value)) (stop : ℕ) → stop_json T lists stop ≡ codes "[\"" ++ from_name T lists stop
begun T lists stop = named (stop_name T stop) (framed frame.Array triple_json (slice_index_or lists stop []))

pub up_to_next : (frame : Frame) (T : TimetableData) (lists : List (List Value)) (stop : ℕ) → to_next_name frame T lists stop ≡ from_name T lists stop ++ (between frame ++ codes "[\"")
up_to_next frame T lists stop =
    let name = escape (stop_name T stop) in
    let values = behind_name (slice_index_or lists stop []) in
    ap (λ l. name ++ l) (append_assoc values (between frame) (codes "[\"")) ∙ sym (append_assoc name values (between frame ++ codes "[\""))
