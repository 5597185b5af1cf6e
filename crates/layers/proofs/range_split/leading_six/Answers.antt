use Rattle.std.proofs.Common.{arith}
use Rattle.layers.proofs.Digits.{shortening_none, shortening_more, shortening_value, shortening_digits}
use Rattle.layers.proofs.range_split.leading_six.Goals as goal

pub loop-front-init : goal.loop-front-init
loop-front-init c = shortening_none c.args.number (omega arith)

pub loop-front-preserved : goal.loop-front-preserved
loop-front-preserved c = shortening_more c.args.number c.loop-front.front c.loop-front-test.true c.loop-front.invariant

pub returns : goal.returns
returns c =
    record {
      value = shortening_value c.args.number c.loop-front.front c.loop-front-test.false c.loop-front.invariant;
      digits = shortening_digits c.args.number c.loop-front.front c.loop-front-test.false c.loop-front.invariant;
    }
