use Rattle.std.proofs.Common.{arith}
use Rattle.fields.proofs.Places.{widths_to_small}
use Rattle.fields.proofs.field.Map.length.Goals as goal

pub overflow_add-result : goal.overflow_add-result
overflow_add-result c = omega (arith, widths_to_small c.args.self.bits 16)
