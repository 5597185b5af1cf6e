use Rattle.wire.proofs.Decimals.{Filling}
use Rattle.wire.proofs.card.fill.Given as goal

abbrev pub invariant-loop-i : goal.invariant-loop-i
invariant-loop-i l = Filling l.number l.rest l.i l.all
