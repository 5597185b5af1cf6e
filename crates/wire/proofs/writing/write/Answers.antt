use Rattle.std.proofs.Common.{◌≡◌, ℕ, ltb, length, [], ◌∷◌, Some, None, Err, sym, ap, ◌∙◌}
use Rattle.std.proofs.lemmas.Result.{err_from_is_err_and}
use Rattle.fields.specs.Kind.{map_of, length_of}
use Rattle.fields.specs.Refusal.{refusal_number}
use Rattle.wire.specs.Buffer.{over_front, length_written, numbered}
use Rattle.wire.specs.Checks.{first_failing, unless}
use Rattle.wire.specs.Layout.{laying_into}
use Rattle.wire.specs.Writing.{bytes_for, parts_of, writing_checks, writing_into}
use Rattle.wire.specs.declared.message.Fields.{Fields}
use Rattle.wire.specs.declared.parts.Parts.{Parts}
use Rattle.wire.proofs.Chains.{after_passed, before_failed}
use Rattle.wire.proofs.Trips.{round_trip, writing_inverts}
use Rattle.wire.proofs.writing.write.Goals as goal

-- a check of the content that fails is not made good by room in the buffer
refused : (room : ℕ) (m : Fields) (n : ℕ) → first_failing (writing_checks m) ≡ Some n → writing_into room m ≡ Err n
refused room m n failed = ap (λ o. unless o (bytes_for m)) (before_failed (writing_checks m) ((1, ltb room (length_of m.kind)) ∷ []) n failed)

-- where the content passes, laying it out is writing
accepted : (room : ℕ) (m : Fields) (map : ℕ) (p : Parts) → first_failing (writing_checks m) ≡ None → map ≡ map_of m.kind → p ≡ parts_of m → laying_into room map p ≡ writing_into room m
accepted room m map p passed mapped made =
    ap (λ x. laying_into room x p) mapped
    ∙ ap (laying_into room (map_of m.kind)) made
    ∙ sym (ap (λ o. unless o (bytes_for m)) (after_passed (writing_checks m) ((1, ltb room (length_of m.kind)) ∷ []) passed))

pub returns-in_err-kind : goal.returns-in_err-kind
returns-in_err-kind c =
    let m = c.args.fields.now in
    let buffer = c.args.buffer.now in
    let p = err_from_is_err_and c.from_residual.result c.from_residual.ensures.1 in
    let is = refused (length buffer) m _ c.in_err-kind.ensures.refused in
    let value = ap numbered p.1 ∙ ap Err (ap refusal_number p.2) ∙ sym (ap length_written is) in
    let after = sym (ap (λ r. over_front r buffer) is) in
    record { value = value; after = after; inverse = writing_inverts m buffer _ _ value after; round_trip = round_trip }

pub returns : goal.returns
returns c =
    let m = c.args.fields.now in
    let buffer = c.args.buffer.now in
    let ok = c.in_ok-kind.ensures in
    let is = accepted (length buffer) m c.map.result.bits c.in_ok-kind.parts ok.passed (c.map.ensures ∙ ap map_of ok.kind) ok.parts in
    let value = c.lay.ensures.value ∙ ap length_written is in
    let after = c.lay.ensures.after ∙ ap (λ r. over_front r buffer) is in
    record { value = value; after = after; inverse = writing_inverts m buffer _ _ value after; round_trip = round_trip }
