use Rattle.std.proofs.Common.{sym, ap, ◌∙◌}
use Rattle.rules.specs.Table.{has_bit}
use Rattle.rules.proofs.Table.{names_kind}
use Rattle.rules.proofs.checks.Row.names.Goals as goal

pub returns : goal.returns
returns c = ap (has_bit c.args.self.now.1) c.from.ensures ∙ sym (names_kind c.args.kind c.args.self.now.1)
