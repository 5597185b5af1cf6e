use Rattle.std.proofs.Common.{◌-◌, arith}
use Rattle.wire.proofs.Spread.{luhn_more}
use Rattle.wire.proofs.card.passes_luhn.Goals as goal

pub loop-i-preserved : goal.loop-i-preserved
loop-i-preserved c =
    let i = c.loop-i.i in
    let weight = c.luhn_weight-sum.ensures in (
      omega (arith, c.loop-i.invariant.0, weight.value, luhn_more c.args.digits.now i (18 - i) (omega arith) (omega arith)),
      omega (arith, c.loop-i.invariant.1, weight.small),
    )
