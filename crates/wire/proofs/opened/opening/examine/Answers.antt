use Rattle.std.proofs.Common.{◌≡◌, ◌<◌, get_or, is_some, Ok, sym, ap, ◌∙◌, subst}
use Rattle.std.proofs.ByRecursion.{All-from_get_or}
use Rattle.std.proofs.lemmas.Result.{err_from_is_err_and}
use Rattle.wire.specs.Checks.{first_failing}
use Rattle.wire.specs.Opening.{message_in, opening, opening_checks}
use Rattle.wire.specs.RoundTrip.{Bytes}
use Rattle.wire.proofs.Examined.{refused_frame, opened_is, well_formed}
use Rattle.wire.proofs.Trips.{opened_kind, own_bytes, went_through}
use Rattle.wire.proofs.opened.opening.examine.Goals as goal

pub returns-in_err-kind : goal.returns-in_err-kind
returns-in_err-kind c =
    let p = err_from_is_err_and c.from_residual.result c.from_residual.ensures.1 in
    rw (p.1, p.2) (sym (refused_frame c.args.message.now _ c.in_err-kind.ensures.refused))

pub invariant_of-result : goal.invariant_of-result
invariant_of-result c =
    let ok = c.in_ok-kind.ensures in
    let b = c.args.message.now in
    let m = c.fields_of.result in
    let found = sym c.in_ok-card.ensures.ok_part ∙ c.card_number.ensures in
    let formed = well_formed b c.in_ok-kind.kind ok.framed c.in_ok-kind.parts ok.parts c.in_ok-card.card found c.allows.result c.allows.ensures m c.fields_of.ensures c.if-not-allows.false in
    let opens : opening b ≡ Ok m =
    sym (opened_is b c.in_ok-kind.kind ok.framed c.in_ok-kind.parts ok.parts c.in_ok-card.card found c.allows.result c.allows.ensures m c.fields_of.ensures c.if-not-allows.false) in
    let are : Bytes b = All-from_get_or (λ x. x < 256) b 0 (λ i within. (c.type_inv.message i).fits) in
    let own = own_bytes b are m opens in
    let again = went_through (first_failing (opening_checks b)) (message_in b) m opens in
    record {
      known = opened_kind b m opens;
      trim = formed.0;
      accepted = formed.1;
      opens = ap (λ x. is_some (first_failing (opening_checks x))) own ∙ ap is_some again.0;
      spelled = ap message_in own ∙ again.1;
      bytes = λ k within. subst (λ x. get_or x k 0 < 256) (sym own) (c.type_inv.message k).fits;
    }

pub returns : goal.returns
returns c =
    let ok = c.in_ok-kind.ensures in
    let found = sym c.in_ok-card.ensures.ok_part ∙ c.card_number.ensures in
    opened_is c.args.message.now c.in_ok-kind.kind ok.framed c.in_ok-kind.parts ok.parts c.in_ok-card.card found c.allows.result c.allows.ensures c.fields_of.result c.fields_of.ensures c.if-not-allows.false
