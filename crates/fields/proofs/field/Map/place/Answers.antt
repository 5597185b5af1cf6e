use Rattle.std.proofs.Common.{arith}
use Rattle.fields.proofs.Places.{bit_small, widths_to_small}
use Rattle.fields.proofs.field.Map.place.Goals as goal

pub widths_to-requires : goal.widths_to-requires
widths_to-requires c = omega (arith, bit_small c.args.field)

pub overflow_add-result : goal.overflow_add-result
overflow_add-result c = omega (arith, bit_small c.args.field, widths_to_small c.args.self.bits c.bit.result)
