-- What is known of an opened message, from what it says of itself.
use Rattle.std.proofs.Common.{◌≡◌, ℕ, ◌<◌, ◌≤◌, false, leb, length, get_or, is_some, Some, None, Ok, Option, refl, ap, ◌∙◌, arith}
use Rattle.std.proofs.lemmas.Bool.{and_parts, leb-true, not-false, true≢false}
use Rattle.fields.specs.Kind.{amount_bounds, kind_from, most_pence}
use Rattle.fields.proofs.Bounds.{most_amount}
use Rattle.std.proofs.ByRecursion.{All-from_get_or}
use Rattle.wire.specs.Checks.{first_failing, unless}
use Rattle.wire.specs.Opening.{message_in, opening, opening_checks}
use Rattle.wire.specs.RoundTrip.{Bytes}
use Rattle.wire.specs.Writing.{bytes_for, trimmed, writing_checks}
use Rattle.wire.specs.declared.message.Fields.{Fields}
use Rattle.wire.proofs.Chains.{none_fails}

none_there : (o : Option ℕ) → is_some o ≡ false → o ≡ None
none_there None none = refl
none_there (Some n) none = absurd (true≢false none)

module _ (m : Fields) (accepted : is_some (first_failing (writing_checks m)) ≡ false) where
  pub accepted_amount : trimmed m ≡ m → m.amount ≤ most_pence
  accepted_amount trim =
      let allowed = not-false _ (none_fails (writing_checks m) (none_there (first_failing (writing_checks m)) accepted) 2) in
      let amount = (trimmed m).amount in
      let bounds = amount_bounds (kind_from m.kind) in
      let within = leb-true amount bounds.1 (and_parts (leb bounds.0 amount) (leb amount bounds.1) allowed).1 in
      omega (arith, within, most_amount (kind_from m.kind), ap (λ x. x.amount) trim)

-- its bytes open to it
pub opens_again : (m : Fields) → is_some (first_failing (opening_checks (bytes_for m))) ≡ false → message_in (bytes_for m) ≡ m → opening (bytes_for m) ≡ Ok m
opens_again m opens spelled =
    ap (λ o. unless o (message_in (bytes_for m))) (none_there (first_failing (opening_checks (bytes_for m))) opens) ∙ ap Ok spelled

pub spelled_bytes : (m : Fields) → ((k : ℕ) → k < length (bytes_for m) → get_or (bytes_for m) k 0 < 256) → Bytes (bytes_for m)
spelled_bytes m each = All-from_get_or (λ x. x < 256) (bytes_for m) 0 each
