-- What a message that is past all checks answers and leaves, by its kind.
use Rattle.std.proofs.Common.{◌≡◌, ℕ, true, false, cond, not, ◌&&◌, eqb, [], ◌∷◌, ◌++◌, is_some, refl, ap, ◌∙◌}
use Rattle.std.proofs.lemmas.Bool.{and_from, and_left, and_right, cond_both, cond-true, not_from_false, not_from_true}
use Rattle.fields.specs.Kind.{is_kind, kind_from}
use Rattle.host.specs.declared.PutReply.{PutReply}
use Rattle.host.specs.declared.PutReply.TheVariants.{Done, Refused, Silent}
use Rattle.host.specs.declared.ReadReply.TheVariants.{Holds, Silent as NoAnswer}
use Rattle.wire.specs.declared.message.Fields.{Fields}
use Rattle.rules.specs.Checks.{among}
use Rattle.rules.specs.Ledger.{Ledger, answer_row, purchase_row}
use Rattle.rules.specs.Outcome.{outcome_code}
use Rattle.rules.specs.Rules.{Reply, add_purchase, answer_with, answered, books_by, kind_amount, kind_moves, moved, noted, on_put, on_read, outcome_of, remembered, remembers, uncalled, with_purchase}
use Rattle.rules.specs.declared.outcome.Outcome.{Outcome}
use Rattle.rules.specs.declared.outcome.Performed.{Performed}
use Rattle.rules.specs.Way.{Through}
use Rattle.rules.proofs.Ways.{by_kind}

module _ (l : Ledger) (m : Fields) (k : ℕ) (kind : m.kind ≡ k) (reply : Reply) where
  -- the answer of a success is its kind's, and so is what is moved
  pub answered_at : answered l m reply ≡ answer_with m reply (kind_amount (kind_from k) (moved l m reply) m reply)
  answered_at = ap (λ n. answer_with m reply (kind_amount (kind_from n) (moved l m reply) m reply)) kind

  pub moved_at : moved l m reply ≡ kind_moves (kind_from k) m reply l
  moved_at = ap (λ n. kind_moves (kind_from n) m reply l) kind

  -- whether it is remembered
  remembers_at : (o : Outcome) → remembers m o ≡ (not (eqb k 9) && not (among (outcome_code o) (8 ∷ 9 ∷ [])))
  remembers_at o = ap (λ n. not (eqb n 9) && not (among (outcome_code o) (8 ∷ 9 ∷ []))) kind

  -- and the answer is remembered
  pub remembered_at : (answer : Performed) (x : Ledger) → (not (eqb k 9) && not (among (outcome_code answer.outcome) (8 ∷ 9 ∷ []))) ≡ true → remembered m answer x ≡ noted m answer x
  remembered_at answer x kept = cond-true (remembers m answer.outcome) (noted m answer x) x (remembers_at answer.outcome ∙ kept)

-- no reply of the host is an outcome that is forgotten
pub replied_kept : (reply : Reply) → among (outcome_code (outcome_of reply)) (8 ∷ 9 ∷ []) ≡ false
replied_kept uncalled = refl
replied_kept (on_put Done) = refl
replied_kept (on_put Refused) = refl
replied_kept (on_put Silent) = refl
replied_kept (on_read (Holds amount)) = refl
replied_kept (on_read NoAnswer) = refl

-- nor is that of a put
pub put_kept : (reply : PutReply) → not (among (outcome_code (outcome_of (on_put reply))) (8 ∷ 9 ∷ [])) ≡ true
put_kept reply = not_from_false _ (replied_kept (on_put reply))

module _ (m : Fields) (o : Outcome) where
  -- which answers are forgotten: those by 8 and 9, and those to inquiries
  pub forgets : among (outcome_code o) (8 ∷ 9 ∷ []) ≡ true → remembers m o ≡ false
  forgets is = and_right (not (eqb m.kind 9)) _ (not_from_true _ is)

  pub forgets_inquiry : eqb m.kind 9 ≡ true → remembers m o ≡ false
  forgets_inquiry is = and_left (not (eqb m.kind 9)) _ (not_from_true _ is)

  -- all others are remembered
  pub keeps_answer : eqb m.kind 9 ≡ false → among (outcome_code o) (8 ∷ 9 ∷ []) ≡ false → remembers m o ≡ true
  keeps_answer other is = and_from _ _ (not_from_false _ other) (not_from_false _ is)

module _ {A : Type 0} (part : Ledger → A) (m : Fields) where
  -- a part of the books that no remembered answer touches
  pub remembered_part : (answer : Performed) (l : Ledger) → part (noted m answer l) ≡ part l → part (remembered m answer l) ≡ part l
  remembered_part answer l same = cond_both (remembers m answer.outcome) (noted m answer l) l (λ x. part x ≡ part l) (λ kept. same) (λ forgotten. refl)

  -- or that no new purchase does
  pub with_purchase_part : (l : Ledger) → part (add_purchase m l) ≡ part l → part (with_purchase m l) ≡ part l
  with_purchase_part l same = cond_both (is_some (purchase_row l m)) l (add_purchase m l) (λ x. part x ≡ part l) (λ known. refl) (λ new. same)

-- a remembered answer stands behind the others
pub remembered_answers : (m : Fields) (answer : Performed) (l x : Ledger) → remembers m answer.outcome ≡ true → x.answers ≡ l.answers
    → (remembered m answer x).answers ≡ (noted m answer l).answers
remembered_answers m answer l x kept same =
    ap (λ t. (cond t (noted m answer x) x).answers) kept ∙ ap (λ rows. rows ++ answer_row m answer ∷ []) same

-- a part of the books that no remembered answer touches is what the kind makes of it
pub left_at : {A : Type 0} (part : Ledger → A) (l : Ledger) (m : Fields) (k : ℕ) → m.kind ≡ k → (reply : Reply)
    → ((x : Ledger) → part (noted m (answered l m reply) x) ≡ part x)
    → part (books_by Through l m reply) ≡ part (kind_moves (kind_from k) m reply l)
left_at part l m k kind reply untouched =
    remembered_part part m (answered l m reply) (moved l m reply) (untouched (moved l m reply)) ∙ ap part (moved_at l m k kind reply)

-- no kind moves the memory
pub moved_answers : (l : Ledger) (m : Fields) (reply : Reply) → is_kind m.kind ≡ true → (moved l m reply).answers ≡ l.answers
moved_answers l m reply = by_kind (λ k. (kind_moves (kind_from k) m reply l).answers ≡ l.answers) (record {
  authorisation = with_purchase_part (λ x. x.answers) m l refl;
  authorisation_reversal = refl;
  capture = refl;
  capture_reversal = refl;
  credit = refl;
  credit_reversal = refl;
  batch_open = refl;
  batch_close = refl;
  inquiry = refl;
}) m.kind
