use Rattle.layers.proofs.Digits.{Shortening}
use Rattle.layers.proofs.range_split.leading_six.Given as goal

abbrev pub invariant-loop-front : goal.invariant-loop-front
invariant-loop-front l = Shortening l.number l.front

abbrev pub decreases-loop-front : goal.decreases-loop-front
decreases-loop-front l = l.front
