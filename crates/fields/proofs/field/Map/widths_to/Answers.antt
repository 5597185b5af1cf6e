use Rattle.std.proofs.Common.{arith}
use Rattle.std.proofs.lemmas.Bool.Decides.{nat_tests}
use Rattle.fields.proofs.Places.{width_small, widths_to_small, widths_to_more}
use Rattle.fields.proofs.field.Map.widths_to.Goals as goal

pub overflow_add-total : goal.overflow_add-total
overflow_add-total c = omega (arith, widths_to_small c.args.self.bits c.loop-bit.bit, width_small c.loop-bit.bit)

pub loop-bit-preserved : goal.loop-bit-preserved
loop-bit-preserved c = grind (arith, nat_tests, widths_to_more c.args.self.bits c.loop-bit.bit)
