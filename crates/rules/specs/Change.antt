-- What performing a message writes into the books, by its kind, and what the books are after it.
use Rattle.std.specs.Prelude.{◌≡◌, ℕ, ◌+◌, ◌-◌, ◌<◌, Bool, true, List, [], ◌∷◌, ◌++◌, length, is_some, Some, None, Option, slice_set}
use Rattle.std.specs.Int.{w64}
use Rattle.std.proofs.Common.{of_z}
use Rattle.rows.specs.First.{row_with}
use Rattle.wire.specs.declared.message.Fields.{Fields}
use Rattle.rules.specs.Ledger.{Ledger, answer_row, batch_in, most_answers, most_batches, most_purchases, of_xid, purchase_in, uncredited}
use Rattle.rules.specs.Rules.{Reply, answer_of, books_after, close, minus, new_batch, plus, success, with_captured, with_credited}
use Rattle.rules.specs.Sound.{most_total, sound_answer, sound_purchase, within}
use Rattle.rules.specs.declared.batch.Batch.{Batch}
use Rattle.rules.specs.declared.facts.Facts.{Facts}
use Rattle.rules.specs.declared.found.Places.{Places}
use Rattle.rules.specs.declared.outcome.Performed.{Performed}
use Rattle.rules.specs.declared.plan.Change.{Change}
use Rattle.rules.specs.declared.plan.RowWrite.{RowWrite}
use Rattle.rules.specs.declared.plan.RowWrite.TheVariants.{Replace, Append}
use Rattle.rules.specs.declared.purchase.Purchase.{Purchase}

-- a list of rows after a write, if there is one
abbrev pub rows_after : {R : Type 0} → Option (RowWrite R) → List R → List R
rows_after None rows = rows
rows_after (Some (Replace place row)) rows = slice_set rows place row
rows_after (Some (Append row)) rows = rows ++ row ∷ []

-- the books after a change
abbrev pub ledger_after : Change → Ledger → Ledger
ledger_after change l = record {
  purchases = rows_after change.purchase l.purchases;
  answers = rows_after (Some change.remembered) l.answers;
  batches = rows_after change.batch l.batches;
}

-- there is a place for what is written, and the row passes a test
abbrev pub FitsIn : {R : Type 0} → ℕ → (R → Bool) → Option (RowWrite R) → List R → Type 0
FitsIn most test None rows = Unit {0}
FitsIn most test (Some (Replace place row)) rows = (place < length rows) × (test row ≡ true)
FitsIn most test (Some (Append row)) rows = (length rows < most) × (test row ≡ true)

-- each XID that had a row has one afterwards
abbrev pub KeepsKnown : List Purchase → List Purchase → Type 0
KeepsKnown before after =
    (xid : List ℕ)
    → is_some (row_with (of_xid xid) before) ≡ true → is_some (row_with (of_xid xid) after) ≡ true

-- the books have room for the change, and it keeps what always holds of their rows
pub record Fits (change : Change) (l : Ledger) : Type 0 where
  pub purchase : FitsIn most_purchases sound_purchase change.purchase l.purchases
  pub known : KeepsKnown l.purchases (rows_after change.purchase l.purchases)
  pub batch :
      let answers = rows_after (Some change.remembered) l.answers in
      FitsIn most_batches (within (most_total (length answers))) change.batch l.batches
  pub remembered :
      let purchases = rows_after change.purchase l.purchases in
      FitsIn most_answers (sound_answer purchases) (Some change.remembered) l.answers

-- the answer, and the books after the change, are those of the rules, given the host's reply
pub record Follows (change : Change) (l : Ledger) (m : Fields) (reply : Reply) : Type 0 where
  pub answer : change.answer ≡ answer_of l m reply
  pub books : ledger_after change l ≡ books_after l m reply
  pub fits : Fits change l

-- a refusal moves nothing
abbrev pub refusal_noted : Fields → Performed → Change
refusal_noted m answer = record {
  answer = answer;
  purchase = None;
  batch = None;
  remembered = Append (answer_row m answer);
}

-- captures, credits and their reversals rewrite the purchase and the batch, and answer what of the
-- capture is not credited
abbrev pub booking : Places → Fields → Purchase → Batch → Change
booking places m p b = record {
  answer = success (uncredited p);
  purchase = Some (Replace places.purchase p);
  batch = Some (Replace places.batch b);
  remembered = Append (answer_row m (success (uncredited p)));
}

abbrev pub capturing : Facts → Places → Fields → Change
capturing f places m =
    booking places m (with_captured m.amount m.batch (purchase_in f)) (plus m.amount (batch_in f))

abbrev pub reversing_capture : Facts → Places → Fields → Change
reversing_capture f places m =
    let p = purchase_in f in
    booking places m (with_captured 0 p.batch p) (minus p.captured (batch_in f))

abbrev pub crediting : Facts → Places → Fields → Change
crediting f places m =
    let p = purchase_in f in
    booking places m (with_credited (p.credited + m.amount) p) (minus m.amount (batch_in f))

abbrev pub reversing_credit : Facts → Places → Fields → Change
reversing_credit f places m =
    let p = purchase_in f in
    booking places m (with_credited (p.credited - m.amount) p) (plus m.amount (batch_in f))

-- a new batch, and one that is closed, whose total is answered
abbrev pub opening_batch : Fields → Change
opening_batch m = record {
  answer = success 0;
  purchase = None;
  batch = Some (Append (new_batch m));
  remembered = Append (answer_row m (success 0));
}

abbrev pub closing_batch : Facts → Places → Fields → Change
closing_batch f places m =
    let answer = success (of_z w64 (batch_in f).total) in
    record {
      answer = answer;
      purchase = None;
      batch = Some (Replace places.batch (close (batch_in f)));
      remembered = Append (answer_row m answer);
    }
