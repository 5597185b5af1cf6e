use Rattle.std.proofs.Common.{◌≡◌, ◌*◌, length, take}
use Rattle.wire.specs.Card.{halves}
use Rattle.wire.proofs.card.split.Given as goal

abbrev pub invariant-loop-i : goal.invariant-loop-i
invariant-loop-i l = (length l.all ≡ 20) × (take (2 * l.i) l.all ≡ halves (take l.i l.bytes))
