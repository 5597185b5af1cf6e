use Rattle.std.proofs.Common.{arith}
use Rattle.std.proofs.lemmas.Int.Digits.{number_more}
use Rattle.wire.proofs.Numbers.{so_far_fits}
use Rattle.wire.proofs.card.number.Goals as goal

pub overflow_mul-value : goal.overflow_mul-value
overflow_mul-value c =
    let fits = so_far_fits _ _ c.loop-digit-test.true c.requires.few c.requires.decimal in
    record { fits = omega (arith, c.loop-digit.invariant) }

pub overflow_add-value : goal.overflow_add-value
overflow_add-value c =
    let fits = so_far_fits _ _ c.loop-digit-test.true c.requires.few c.requires.decimal in
    record { fits = omega (arith, c.loop-digit.invariant, c.from.ensures) }

pub loop-digit-preserved : goal.loop-digit-preserved
loop-digit-preserved c = omega (arith, c.loop-digit.invariant, c.from.ensures, number_more 10 c.args.digits.now c.loop-digit.digit-index c.loop-digit-test.true)
