use Rattle.std.proofs.Common.{refl}
use Rattle.layers.specs.Digits.{leading_six}
use Rattle.layers.specs.Examples.{LineExample, SplitExample}
use Rattle.layers.proofs.examples.examples_stand.Goals as goal

line : LineExample
line = record { going = (refl, refl); returning = (refl, refl); heard = (refl, refl); none_left = (refl, refl); lost_below = refl }

split : SplitExample
unfolding leading_six
split = record { inside = refl; at_the_end = refl; outside = refl; whole = refl }

pub returns : goal.returns
returns c = record { hold = (line, split) }
