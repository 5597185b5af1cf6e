use Rattle.std.proofs.Common.{sym, ◌∙◌, arith}
use Rattle.stand_in.proofs.Sent.{goes, stays}
use Rattle.stand_in.proofs.stand_in.StandIn.send_row.Goals as goal

pub returns-in-Done-clause-holds : goal.returns-in-Done-clause-holds
returns-in-Done-clause-holds g c =
    rw c.drop_at.ensures
    (goes c.put.ensures.means c.args.self.now.rows c.args.place c.at.ensures.kept.one (omega (arith, c.requires, c.at.ensures.kept.sixteen)) (sym c.at.ensures.row ∙ c.in-Stands.is) c.in-Done.is)

pub returns-in-Refused-clause-holds : goal.returns-in-Refused-clause-holds
returns-in-Refused-clause-holds g c =
    stays c.put.ensures.means c.args.self.now.rows c.args.place c.at.ensures.kept.one (omega (arith, c.requires, c.at.ensures.kept.sixteen)) (sym c.at.ensures.row ∙ c.in-Stands.is)
