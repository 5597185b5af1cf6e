-- No kind allows an amount above the largest of a message.
use Rattle.std.proofs.Common.{◌≤◌, Some, None, Option, arith}
use Rattle.fields.specs.Kind.{amount_bounds, most_pence}
use Rattle.fields.specs.declared.kind.Kind.{Kind}
use Rattle.fields.specs.declared.kind.Kind.TheVariants.{AuthReq}

pub most_amount : (kind : Option Kind) → (amount_bounds kind).1 ≤ most_pence
most_amount None = omega arith
most_amount (Some AuthReq) = omega arith
most_amount (Some _) = omega arith
