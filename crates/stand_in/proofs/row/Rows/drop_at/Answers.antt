use Rattle.stand_in.proofs.Rows.{kept_dropped}
use Rattle.stand_in.proofs.row.Rows.drop_at.Goals as goal

pub invariant_of-self : goal.invariant_of-self
invariant_of-self c = kept_dropped c.self.inside.rows c.args.place c.self.invariant
