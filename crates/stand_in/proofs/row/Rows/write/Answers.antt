use Rattle.std.proofs.Common.{sym, ap, ◌∙◌, arith}
use Rattle.stand_in.specs.Rows.{place_for}
use Rattle.stand_in.proofs.Rows.{kept_written, within_found}
use Rattle.stand_in.proofs.row.Rows.write.Goals as goal

pub bounds-self-inside-place : goal.bounds-self-inside-place
bounds-self-inside-place c =
    within_found c.self.inside.rows c.args.pair c.self.invariant c.in-Some.place (ap (λ rows. place_for rows c.args.pair) c.self.view_is ∙ sym c.requires ∙ c.in-Some.is)

pub offset_bounds-self-inside-place : goal.offset_bounds-self-inside-place
offset_bounds-self-inside-place c =
    let within = within_found c.self.inside.rows c.args.pair c.self.invariant c.in-Some.place (ap (λ rows. place_for rows c.args.pair) c.self.view_is ∙ sym c.requires ∙ c.in-Some.is) in
    omega (arith, within)

pub invariant_of-self : goal.invariant_of-self
invariant_of-self c =
    kept_written c.self.inside.rows c.args.pair c.in-Some.place c.args.amount (ap (λ rows. place_for rows c.args.pair) c.self.view_is ∙ sym c.requires ∙ c.in-Some.is) c.self.invariant
