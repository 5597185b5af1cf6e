use Rattle.std.proofs.Common.{sym, ap, ◌∙◌}
use Rattle.stand_in.specs.Rows.{row_amount}
use Rattle.stand_in.proofs.Rows.{found_amount, found_nothing}
use Rattle.stand_in.specs.declared.row.Row.TheVariants.{Free}
use Rattle.stand_in.proofs.row.Rows.find.Goals as goal

pub returns-in-Some-clause-own : goal.returns-in-Some-clause-own
returns-in-Some-clause-own c =
    c.amount.ensures
    ∙ found_amount c.self.inside.rows c.args.pair c.in-Some.place Free (sym c.place_for.ensures.place ∙ c.in-Some.is)
    ∙ ap (λ rows. row_amount rows c.args.pair) c.self.view_is

pub returns-in-None-clause-own : goal.returns-in-None-clause-own
returns-in-None-clause-own c =
    sym (found_nothing c.self.inside.rows c.args.pair (sym c.place_for.ensures.place ∙ c.in-None.is))
    ∙ ap (λ rows. row_amount rows c.args.pair) c.self.view_is
