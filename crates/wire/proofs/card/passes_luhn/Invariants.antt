use Rattle.std.proofs.Common.{◌≡◌, ◌+◌, ◌*◌, ◌≤◌, drop}
use Rattle.wire.specs.Card.{luhn_sum}
use Rattle.wire.proofs.card.passes_luhn.Given as goal

abbrev pub invariant-loop-i : goal.invariant-loop-i
invariant-loop-i l = (l.sum + luhn_sum (drop l.i l.digits) ≡ luhn_sum l.digits) × (l.sum ≤ 9 * l.i)
