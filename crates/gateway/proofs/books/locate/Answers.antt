use Rattle.std.proofs.Common.{length, sym, ap, ◌∙◌}
use Rattle.std.specs.Option.{unwrap_or}
use Rattle.rows.proofs.First.{first_from_cases}
use Rattle.gateway.proofs.books.locate.Goals as goal

pub returns-in-Some-clause-place : goal.returns-in-Some-clause-place
returns-in-Some-clause-place g c =
    ap (λ place. unwrap_or place (length c.args.rows.now)) (sym c.in-Some.is ∙ first_from_cases _ _ _ c.search.ensures)

pub returns-in-None-clause-place : goal.returns-in-None-clause-place
returns-in-None-clause-place g c =
    ap (λ place. unwrap_or place (length c.args.rows.now)) (sym c.in-None.is ∙ first_from_cases _ _ _ c.search.ensures)
