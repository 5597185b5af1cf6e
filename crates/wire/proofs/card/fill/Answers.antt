use Rattle.std.proofs.Common.{arith}
use Rattle.wire.proofs.Decimals.{filling_none, filling_more, filling_all}
use Rattle.wire.proofs.card.fill.Goals as goal

pub loop-i-init : goal.loop-i-init
loop-i-init c = filling_none c.args.number c.args.count c.requires.counted (omega (arith, c.requires.few))

pub bounds-all-i : goal.bounds-all-i
bounds-all-i c = omega (arith, c.loop-i.invariant.few)

pub loop-i-preserved : goal.loop-i-preserved
loop-i-preserved c = filling_more _ _ _ _ c.loop-i-test.true c.loop-i.invariant

pub returns : goal.returns
returns c = filling_all _ _ _ _ (omega arith) c.loop-i.invariant
