use Rattle.std.proofs.Common.{◌≡◌, Bool, true, eqb, List, sym, ap, ◌∙◌, subst}
use Rattle.rows.specs.First.{row_with}
use Rattle.wire.specs.declared.message.Fields.{Fields}
use Rattle.rules.specs.Found.{place_in}
use Rattle.rules.specs.Ledger.{Ledger, of_request}
use Rattle.rules.specs.Recalled.{Recalls, recalled_in}
use Rattle.rules.specs.Sound.{all_answers_sound}
use Rattle.rules.specs.declared.remembered.Remembered.{Remembered}
use Rattle.rules.specs.declared.remembered.RequestKey.{RequestKey}
use Rattle.rules.proofs.Recalling.{recalls_inquiry, recalls_none, recalls_row}
use Rattle.gateway.proofs.books.Books.recall.Goals as goal

-- what a search gives under the message's key, in the rows of the books
under : {A : Type 0} (search : (Remembered → Bool) → List Remembered → A) (rows answers : List Remembered) (key : RequestKey) (n m : Fields) (a : A) → a ≡ search (of_request key.course key.request) rows
    → key ≡ record { course = n.course; request = n.request } → n ≡ m → rows ≡ answers → a ≡ search (of_request m.course m.request) answers
under search rows answers key n m a gives by same are =
    gives
    ∙ ap (λ (k : RequestKey). search (of_request k.course k.request) rows) by
    ∙ ap (λ (f : Fields). search (of_request f.course f.request) rows) same
    ∙ ap (search (of_request m.course m.request)) are

pub returns-then-is_inquiry : goal.returns-then-is_inquiry
returns-then-is_inquiry c =
    let l = c.args.self.now in
    let m = c.args.message.now.fields in
    let sound = subst (λ (x : Ledger). all_answers_sound x.purchases x.answers ≡ true) c.self.view_is c.self.invariant.answers in
    recalls_inquiry l m c.args.message.now.known sound (ap (λ (f : Fields). eqb f.kind 9) (sym c.fields-m.ensures.value) ∙ sym c.if-is_inquiry.ensures)

pub returns-in-Some : goal.returns-in-Some
returns-in-Some c =
    let l = c.args.self.now in
    let n = c.fields-m.result in
    let m = c.args.message.now.fields in
    let rows = c.as_slice-answers.result.now in
    let row = c.in-Some.row in
    let sound = subst (λ (x : Ledger). all_answers_sound x.purchases x.answers ≡ true) c.self.view_is c.self.invariant.answers in
    let same = c.fields-m.ensures.value in
    let are : rows ≡ l.answers = c.as_slice-answers.ensures.value ∙ ap (λ (x : Ledger). x.answers) c.self.view_is in
    let found = under row_with rows l.answers c.of.result n m c.locate-row.result.0 c.locate-row.ensures.row c.of.ensures same are in
    let place = under place_in rows l.answers c.of.result n m c.locate-row.result.1 c.locate-row.ensures.place c.of.ensures same are in
    let is = c.of-in-Some.ensures ∙ ap (λ p. recalled_in row p n) place ∙ ap (recalled_in row (place_in (of_request m.course m.request) l.answers)) same in
    subst (λ x. Recalls x l m) (sym is)
    (recalls_row l m c.args.message.now.known sound (ap (λ (f : Fields). eqb f.kind 9) (sym same) ∙ sym c.if-is_inquiry.ensures) row (sym found ∙ c.in-Some.is))

pub returns-in-None : goal.returns-in-None
returns-in-None c =
    let l = c.args.self.now in
    let n = c.fields-m.result in
    let m = c.args.message.now.fields in
    let rows = c.as_slice-answers.result.now in
    let are : rows ≡ l.answers = c.as_slice-answers.ensures.value ∙ ap (λ (x : Ledger). x.answers) c.self.view_is in
    let found = under row_with rows l.answers c.of.result n m c.locate-row.result.0 c.locate-row.ensures.row c.of.ensures c.fields-m.ensures.value are in
    recalls_none l m c.args.message.now.known (sym found ∙ c.in-None.is)
