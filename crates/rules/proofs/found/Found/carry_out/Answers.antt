use Rattle.std.proofs.Common.{◌≡◌, ◌≤◌, None, sym, ap, ◌∙◌, subst}
use Rattle.fields.specs.Kind.{kind_number, most_pence}
use Rattle.wire.specs.declared.message.Fields.{Fields}
use Rattle.rules.specs.Change.{capturing, closing_batch, crediting, opening_batch, reversing_capture, reversing_credit}
use Rattle.rules.specs.Found.{pair_in}
use Rattle.rules.specs.Plan.{own_or_new_row, own_row, put_for}
use Rattle.rules.specs.declared.plan.Plan.TheVariants.{Commit, Put, Read}
use Rattle.rules.proofs.Plans.{authorises, bounded_found, captures, closes, credits, lowers, opens, planned, reads, reverses_capture, reverses_credit, sound_found}
use Rattle.rules.proofs.found.Found.carry_out.Goals as goal

small : (m n : Fields) → m ≡ n → m.amount ≤ most_pence → n.amount ≤ most_pence
small m n same = subst (λ (x : Fields). x.amount ≤ most_pence) same

pub returns-in-AuthReq : goal.returns-in-AuthReq
returns-in-AuthReq c l finds goes =
    let found = c.args.self.now in
    let message = c.args.message.now in
    let m = message.fields in
    planned found l m finds (λ f places. Put (put_for f places m (own_or_new_row f places m) None))
    (authorises l m message.known goes (sym c.kind.ensures ∙ ap kind_number c.in-AuthReq.is) (sound_found found l m finds)) (Put c.put.result)
    (ap Put (c.put.ensures ∙ ap (λ row. put_for found.facts found.places m row None) (c.own_or_new_row.ensures ∙ ap (own_or_new_row found.facts found.places) c.fields-m.ensures.value)))

pub returns-in-AuthRevReq : goal.returns-in-AuthRevReq
returns-in-AuthRevReq c l finds goes =
    let found = c.args.self.now in
    let message = c.args.message.now in
    let m = message.fields in
    planned found l m finds (λ f places. Put (put_for f places m (own_row f places) None))
    (lowers l m message.known goes (sym c.kind.ensures ∙ ap kind_number c.in-AuthRevReq.is) (sound_found found l m finds)) (Put c.put-in-AuthRevReq.result)
    (ap Put (c.put-in-AuthRevReq.ensures ∙ ap (λ row. put_for found.facts found.places m row None) c.own_row.ensures))

pub returns-in-CapReq : goal.returns-in-CapReq
returns-in-CapReq c l finds goes =
    let found = c.args.self.now in
    let message = c.args.message.now in
    let m = message.fields in
    planned found l m finds (λ f places. Commit (capturing f places m))
    (captures l m message.known goes (small c.fields-m.result m c.fields-m.ensures.value c.fields-m.ensures.small) (sound_found found l m finds) (bounded_found found l m finds)
    (sym c.kind.ensures ∙ ap kind_number c.in-CapReq.is))
    (Commit c.capture.result) (ap Commit c.capture.ensures)

pub returns-in-CapRevReq : goal.returns-in-CapRevReq
returns-in-CapRevReq c l finds goes =
    let found = c.args.self.now in
    let message = c.args.message.now in
    let m = message.fields in
    planned found l m finds (λ f places. Commit (reversing_capture f places m))
    (reverses_capture l m message.known goes (small c.fields-m.result m c.fields-m.ensures.value c.fields-m.ensures.small) (sound_found found l m finds) (bounded_found found l m finds)
    (sym c.kind.ensures ∙ ap kind_number c.in-CapRevReq.is))
    (Commit c.reverse_capture.result) (ap Commit c.reverse_capture.ensures)

pub returns-in-CredReq : goal.returns-in-CredReq
returns-in-CredReq c l finds goes =
    let found = c.args.self.now in
    let message = c.args.message.now in
    let m = message.fields in
    planned found l m finds (λ f places. Commit (crediting f places m))
    (credits l m message.known goes (small c.fields-m.result m c.fields-m.ensures.value c.fields-m.ensures.small) (sound_found found l m finds) (bounded_found found l m finds)
    (sym c.kind.ensures ∙ ap kind_number c.in-CredReq.is))
    (Commit c.credit.result) (ap Commit c.credit.ensures)

pub returns-in-CredRevReq : goal.returns-in-CredRevReq
returns-in-CredRevReq c l finds goes =
    let found = c.args.self.now in
    let message = c.args.message.now in
    let m = message.fields in
    planned found l m finds (λ f places. Commit (reversing_credit f places m))
    (reverses_credit l m message.known goes (small c.fields-m.result m c.fields-m.ensures.value c.fields-m.ensures.small) (sound_found found l m finds) (bounded_found found l m finds)
    (sym c.kind.ensures ∙ ap kind_number c.in-CredRevReq.is))
    (Commit c.reverse_credit.result) (ap Commit c.reverse_credit.ensures)

pub returns-in-BatchOpen : goal.returns-in-BatchOpen
returns-in-BatchOpen c l finds goes =
    let found = c.args.self.now in
    let message = c.args.message.now in
    let m = message.fields in
    planned found l m finds (λ f places. Commit (opening_batch m)) (opens l m message.known goes (sym c.kind.ensures ∙ ap kind_number c.in-BatchOpen.is)) (Commit c.open_batch.result)
    (ap Commit (c.open_batch.ensures ∙ ap opening_batch c.fields-m.ensures.value))

pub returns-in-BatchClose : goal.returns-in-BatchClose
returns-in-BatchClose c l finds goes =
    let found = c.args.self.now in
    let message = c.args.message.now in
    let m = message.fields in
    planned found l m finds (λ f places. Commit (closing_batch f places m))
    (closes l m message.known goes (sym c.kind.ensures ∙ ap kind_number c.in-BatchClose.is) (bounded_found found l m finds)) (Commit c.close_batch.result)
    (ap Commit (c.close_batch.ensures ∙ ap (closing_batch found.facts found.places) c.fields-m.ensures.value))

pub returns-in-Inquiry : goal.returns-in-Inquiry
returns-in-Inquiry c l finds goes =
    let found = c.args.self.now in
    let message = c.args.message.now in
    let m = message.fields in
    planned found l m finds (λ f places. Read (pair_in f places m)) (reads l m message.known goes (sym c.kind.ensures ∙ ap kind_number c.in-Inquiry.is)) (Read c.pair.result)
    (ap Read c.pair.ensures)
