use Rattle.std.proofs.Common.{ap, sym, ◌∙◌, arith}
use Rattle.stand_in.specs.Rows.{dropped, place_for}
use Rattle.stand_in.proofs.Rows.{drop_found, drop_nothing, kept_dropped, within_found}
use Rattle.stand_in.proofs.row.Rows.drop_row.Goals as goal

pub bounds-self-inside-place : goal.bounds-self-inside-place
bounds-self-inside-place c =
    within_found c.self.inside.rows c.args.pair c.self.invariant c.in-Some.place (ap (λ rows. place_for rows c.args.pair) c.self.view_is ∙ sym c.requires ∙ c.in-Some.is)

pub offset_bounds-self-inside-place : goal.offset_bounds-self-inside-place
offset_bounds-self-inside-place c =
    let within = within_found c.self.inside.rows c.args.pair c.self.invariant c.in-Some.place (ap (λ rows. place_for rows c.args.pair) c.self.view_is ∙ sym c.requires ∙ c.in-Some.is) in
    omega (arith, within)

pub invariant_of-self : goal.invariant_of-self
invariant_of-self c = kept_dropped c.self.inside.rows c.in-Some.place c.self.invariant

pub returns-in-Some : goal.returns-in-Some
returns-in-Some c =
    drop_found c.self.inside.rows c.args.pair c.in-Some.place (ap (λ rows. place_for rows c.args.pair) c.self.view_is ∙ sym c.requires ∙ c.in-Some.is)
    ∙ ap (λ rows. dropped rows c.args.pair) c.self.view_is

pub returns-in_default : goal.returns-in_default
returns-in_default c = drop_nothing c.args.self.now c.args.pair (sym c.requires ∙ c.in_default.is)
