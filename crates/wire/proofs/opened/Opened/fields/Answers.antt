use Rattle.wire.proofs.Accepted.{accepted_amount}
use Rattle.wire.proofs.opened.Opened.fields.Goals as goal

pub returns-clause-small : goal.returns-clause-small
returns-clause-small c = let o = c.args.self.now in accepted_amount o.fields o.accepted o.trim
