use Rattle.std.proofs.Common.{◌≡◌, ◌*◌, length, take}
use Rattle.wire.specs.Card.{pairs}
use Rattle.wire.proofs.card.join.Given as goal

abbrev pub invariant-loop-i : goal.invariant-loop-i
invariant-loop-i l = (length l.byte-items ≡ 10) × (take l.i l.byte-items ≡ pairs (take (2 * l.i) l.all))
