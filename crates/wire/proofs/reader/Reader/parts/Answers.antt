use Rattle.std.proofs.Common.{ℕ, List, sym, refl, ap, ◌∙◌, arith, rules}
use Rattle.std.specs.Int.Digits.{number_from_digits}
use Rattle.fields.specs.Field.{fields_from}
use Rattle.wire.specs.Layout.{piece_in}
use Rattle.wire.proofs.Numbers.{read_1, read_4, read_8}
use Rattle.wire.proofs.Reading.{as_first, fields_of_kind, still}
use Rattle.wire.proofs.reader.Reader.parts.Goals as goal

abbrev piece : ℕ → ℕ → List ℕ → List ℕ
piece bit map bytes = piece_in map bytes bit

pub field-requires : goal.field-requires
field-requires c = (omega arith, (c.requires ∙ sym (fields_of_kind c.args.self.now.kind).0, refl))

pub returns : goal.returns
returns c =
    let s₁ = c.field.ensures.same in
    let s₂ = still c.field-2.ensures.same s₁ in
    let s₃ = still c.field-3.ensures.same s₂ in
    let s₄ = still c.field-4.ensures.same s₃ in
    let s₅ = still c.field-5.ensures.same s₄ in
    let s₆ = still c.field-6.ensures.same s₅ in
    let s₇ = still c.field-7.ensures.same s₆ in
    let p₂ = c.field-2.ensures.value ∙ as_first (piece 1) _ _ _ _ s₁ in
    let p₃ = c.field-3.ensures.value ∙ as_first (piece 2) _ _ _ _ s₂ in
    let p₄ = c.field-4.ensures.value ∙ as_first (piece 3) _ _ _ _ s₃ in
    let p₅ = c.field-5.ensures.value ∙ as_first (piece 4) _ _ _ _ s₄ in
    let p₆ = c.field-6.ensures.value ∙ as_first (piece 5) _ _ _ _ s₅ in
    let p₇ = c.field-7.ensures.value ∙ as_first (piece 6) _ _ _ _ s₆ in
    let p₈ = c.field-8.ensures.value ∙ as_first (piece 7) _ _ _ _ s₇ in
    let kind = read_1 c.field.result c.from_be_bytes.result (search rules) c.from_be_bytes.ensures ∙ ap (number_from_digits 256) c.field.ensures.value in
    let request = read_8 c.field-2.result c.from_be_bytes-2.result (search rules) c.from_be_bytes-2.ensures ∙ ap (number_from_digits 256) p₂ in
    let course = read_4 c.field-3.result c.from_be_bytes-3.result (search rules) c.from_be_bytes-3.ensures ∙ ap (number_from_digits 256) p₃ in
    let amount = read_8 c.field-6.result c.from_be_bytes-4.result (search rules) c.from_be_bytes-4.ensures ∙ ap (number_from_digits 256) p₆ in
    let batch = read_4 c.field-7.result c.from_be_bytes-5.result (search rules) c.from_be_bytes-5.ensures ∙ ap (number_from_digits 256) p₇ in
    let code = read_1 c.field-8.result c.from_be_bytes-6.result (search rules) c.from_be_bytes-6.ensures ∙ ap (number_from_digits 256) p₈ in
    let last = c.field-8.ensures.left ∙ as_first (λ map _. fields_from map 8) _ _ _ _ s₇ in
    record { value = cc; all = last ∙ (fields_of_kind c.args.self.now.kind).1 }
