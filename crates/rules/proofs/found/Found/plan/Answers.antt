use Rattle.std.proofs.Common.{◌≡◌, ℕ, None, Some, Option, sym, ap, ◌∙◌, subst}
use Rattle.wire.specs.declared.message.Fields.{Fields}
use Rattle.rules.specs.Checks.{book_checks, refusal}
use Rattle.rules.specs.Ledger.{Ledger}
use Rattle.rules.specs.Plan.{Decides, own_row, put_for, refusing}
use Rattle.rules.specs.Recalled.{Recalls}
use Rattle.rules.specs.Rules.{choose}
use Rattle.rules.specs.declared.plan.Plan.TheVariants.{Put}
use Rattle.rules.specs.declared.remembered.Recalled.TheVariants.{Open}
use Rattle.rules.proofs.Plans.{planned, puts_again, refusal_found, refuses, sound_found}
use Rattle.rules.proofs.found.Found.plan.Goals as goal

-- what is recalled, by the place of the answer
recalls_at : (l : Ledger) (m : Fields) (at known : Option ℕ) → at ≡ known → Recalls (Open at) l m → Recalls (Open known) l m
recalls_at l m at known is = subst (λ x. Recalls (Open x) l m) is

pub returns-in-Some : goal.returns-in-Some
returns-in-Some c l finds recalls =
    let found = c.args.self.now in
    let m = c.args.message.now.fields in
    let at = c.in-Some.place in
    planned found l m finds (λ f places. Put (put_for f places m (own_row f places) (Some at)))
    (puts_again l m c.args.message.now.known at (recalls_at l m c.args.silent_at (Some at) c.in-Some.is recalls) (sound_found found l m finds)) (Put c.put.result)
    (ap Put (c.put.ensures ∙ ap (λ row. put_for found.facts found.places m row (Some at)) c.own_row.ensures))

pub returns-in-Some-book_refusal : goal.returns-in-Some-book_refusal
returns-in-Some-book_refusal c l finds recalls =
    let found = c.args.self.now in
    let m = c.args.message.now.fields in
    let o = c.in-Some-book_refusal.outcome in
    let checked : refusal m.kind (book_checks found.facts m) ≡ Some o = cc in
    subst (λ x. Decides x l m) (sym (c.refuse.ensures ∙ ap (λ x. refusing x o) c.fields-m.ensures.value))
    (refuses l m o c.args.message.now.known (refusal_found found l m finds (recalls_at l m c.args.silent_at None c.in-None.is recalls) ∙ ap (choose None None) checked))

pub returns-in-None-book_refusal : goal.returns-in-None-book_refusal
returns-in-None-book_refusal c l finds recalls =
    let found = c.args.self.now in
    let m = c.args.message.now.fields in
    let checked : refusal m.kind (book_checks found.facts m) ≡ None = cc in
    c.carry_out.ensures l finds (refusal_found found l m finds (recalls_at l m c.args.silent_at None c.in-None.is recalls) ∙ ap (choose None None) checked)
