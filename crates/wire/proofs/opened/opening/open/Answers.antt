use Rattle.std.proofs.Common.{◌≡◌, ℕ, ◌<◌, List, length, Ok, Err, Result, IfOk, sym}
use Rattle.std.proofs.ByRecursion.{All-from_get_or}
use Rattle.fields.specs.declared.refusal.Refusal.{Refusal}
use Rattle.wire.specs.Answered.{answered}
use Rattle.wire.specs.Opening.{opening}
use Rattle.wire.specs.RoundTrip.{Bytes}
use Rattle.wire.specs.Writing.{bytes_for}
use Rattle.wire.specs.declared.opened.Opened.{Opened}
use Rattle.wire.proofs.Trips.{opening_inverts, own_bytes}
use Rattle.wire.proofs.opened.opening.open.Goals as goal

pub returns-in-Some-clause-inverse : goal.returns-in-Some-clause-inverse
returns-in-Some-clause-inverse c =
    let b = c.args.message.now in
    opening_inverts (length c.args.strip.now) b (answered c.open_on.result) (All-from_get_or (λ x. x < 256) b 0 (λ i within. (c.type_inv.message i).fits)) c.open_on.ensures.value

opened_from : (b : List ℕ) → Bytes b → (answer : Result Opened Refusal) → answered answer ≡ opening b → IfOk answer (λ opened. bytes_for opened.fields ≡ b)
opened_from b are (Ok opened) is = own_bytes b are opened.fields (sym is)
opened_from b are (Err e) is = tt

pub returns-in-Some-clause-own_bytes : goal.returns-in-Some-clause-own_bytes
returns-in-Some-clause-own_bytes c =
    let b = c.args.message.now in
    opened_from b (All-from_get_or (λ x. x < 256) b 0 (λ i within. (c.type_inv.message i).fits)) c.open_on.result c.open_on.ensures.value
