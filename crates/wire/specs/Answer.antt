-- The bytes of the gateway's answers: the full one, and the short one for a message that was not
-- opened.
use Rattle.std.specs.Prelude.{◌≡◌, ℕ, List, [], ◌∷◌, replicate, Result}
use Rattle.fields.specs.Field.{length_under}
use Rattle.fields.specs.Kind.{map_with}
use Rattle.wire.specs.Layout.{laying_into}
use Rattle.wire.specs.declared.answer.Answer.{Answer}
use Rattle.fields.specs.declared.field.Field.TheVariants.{Kind, Request, Course, Amount, Code}
use Rattle.wire.specs.declared.parts.Parts.{Parts}

abbrev pub full_map : ℕ
full_map = map_with (Kind ∷ Request ∷ Course ∷ Amount ∷ Code ∷ [])

abbrev pub short_map : ℕ
short_map = map_with (Code ∷ [])

-- the maps and lengths of the two
abbrev pub AnswersComeOut : Type 0
AnswersComeOut =
    ((full_map ≡ 0xE500) × (length_under full_map ≡ 24))
    × ((short_map ≡ 0x0100) × (length_under short_map ≡ 3))

abbrev pub answer_parts : Answer → Parts
answer_parts a = record {
  kind = a.kind;
  request = a.request;
  course = a.course;
  xid = replicate 20 0;
  card = replicate 10 0;
  amount = a.amount;
  batch = 0;
  code = a.code;
}

-- into a buffer of so many bytes
abbrev pub full_into : ℕ → Answer → Result (List ℕ) ℕ
full_into room a = laying_into room full_map (answer_parts a)

abbrev pub short_into : ℕ → ℕ → Result (List ℕ) ℕ
short_into room code =
    laying_into room short_map
    (answer_parts (record { kind = 0; request = 0; course = 0; amount = 0; code = code }))
