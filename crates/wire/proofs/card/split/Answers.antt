use Rattle.std.proofs.Common.{arith, length-set}
use Rattle.wire.proofs.Halves.{halves_more}
use Rattle.wire.proofs.card.split.Goals as goal

pub loop-i-preserved : goal.loop-i-preserved
loop-i-preserved c =
    let long = c.loop-i.invariant.0 in
    (simp length-set long, halves_more c.args.bytes.now c.loop-i.all c.loop-i.i (omega arith) (omega arith) c.loop-i.invariant.1)
