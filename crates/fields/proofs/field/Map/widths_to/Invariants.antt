use Rattle.std.proofs.Common.{◌≡◌}
use Rattle.fields.specs.Field.{widths_to}
use Rattle.fields.proofs.field.Map.widths_to.Given as goal

abbrev pub invariant-loop-bit : goal.invariant-loop-bit
invariant-loop-bit l = l.total ≡ widths_to l.self.bits l.bit
