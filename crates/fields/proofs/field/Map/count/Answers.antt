use Rattle.std.proofs.Common.{rules}
use Rattle.fields.proofs.Places.{ones_are_fields}
use Rattle.fields.proofs.field.Map.count.Goals as goal

pub returns-clause-counted : goal.returns-clause-counted
returns-clause-counted c = ones_are_fields c.args.self.bits (search rules)
