-- The books by their rows, and what a message finds in them.
use Rattle.std.specs.Prelude.{ℕ, ◌-◌, Bool, false, not, ◌&&◌, List, [], length, replicate, pos, None, Option, ◌==◌, nat_lt}
use Rattle.std.specs.Option.{unwrap_or}
use Rattle.rows.specs.First.{first_with, row_with}
use Rattle.wire.specs.declared.message.Fields.{Fields}
use Rattle.wire.specs.Bytes.{same_bytes}
use Rattle.rules.specs.declared.batch.Batch.{Batch}
use Rattle.rules.specs.declared.facts.Facts.{Facts}
use Rattle.rules.specs.declared.outcome.Performed.{Performed}
use Rattle.rules.specs.declared.purchase.Purchase.{Purchase}
use Rattle.rules.specs.declared.remembered.Remembered.{Remembered}

pub record Ledger : Type 0 where
  pub purchases : List Purchase
  pub answers : List Remembered
  pub batches : List Batch

abbrev pub no_ledger : Ledger
no_ledger = record { purchases = []; answers = []; batches = [] }

-- how many rows the books have room for
abbrev pub most_purchases : ℕ
most_purchases = 64

abbrev pub most_answers : ℕ
most_answers = 256

abbrev pub most_batches : ℕ
most_batches = 8

-- a purchase is looked for by its XID, a batch by course and number, a remembered answer by course
-- and request number
abbrev pub of_xid : List ℕ → Purchase → Bool
of_xid xid p = same_bytes p.xid xid

abbrev pub of_batch : ℕ → ℕ → Batch → Bool
of_batch course number b = b.course == course && b.number == number

abbrev pub of_request : ℕ → ℕ → Remembered → Bool
of_request course request r = r.fields.course == course && r.fields.request == request

-- what stands for a purchase or a batch that is not there
abbrev pub no_purchase : Purchase
no_purchase = record {
  xid = replicate 20 0;
  course = 0;
  card = record { number = 0 };
  authorised = 0;
  captured = 0;
  credited = 0;
  batch = 0;
  doubt = None;
}

abbrev pub no_batch : Batch
no_batch = record { course = 0; number = 0; closed = false; total = pos 0 }

-- what of a capture is not credited
abbrev pub uncredited : Purchase → ℕ
uncredited p = p.captured - p.credited

-- a message and its answer, as they are remembered
abbrev pub answer_row : Fields → Performed → Remembered
answer_row m answer = record { fields = m; answer = answer }

-- what a message finds
abbrev pub purchase_row : Ledger → Fields → Option Purchase
purchase_row l m = row_with (of_xid m.xid) l.purchases

abbrev pub batch_row : Ledger → Fields → Option Batch
batch_row l m = row_with (of_batch m.course m.batch) l.batches

abbrev pub remembered_of : Ledger → Fields → Option Remembered
remembered_of l m = row_with (of_request m.course m.request) l.answers

-- the place of the purchase's row
abbrev pub purchase_at : Ledger → Fields → Option ℕ
purchase_at l m = first_with (of_xid m.xid) l.purchases

-- something of a purchase is captured, in a batch that is open; a missing one is read as open
abbrev pub captured_in_open : Ledger → Purchase → Bool
captured_in_open l p =
    nat_lt 0 p.captured
    && not (unwrap_or (row_with (of_batch p.course p.batch) l.batches) no_batch).closed

-- all that the checks from 9 on look at beside the message
abbrev pub facts_of : Ledger → Fields → Facts
facts_of l m = record {
  answers = length l.answers;
  purchases = length l.purchases;
  batches = length l.batches;
  purchase = purchase_row l m;
  batch = batch_row l m;
  captured_in_open = captured_in_open l (unwrap_or (purchase_row l m) no_purchase);
}

-- the purchase and the batch among them, each a row of zeros where the books have none
abbrev pub purchase_in : Facts → Purchase
purchase_in f = unwrap_or f.purchase no_purchase

abbrev pub batch_in : Facts → Batch
batch_in f = unwrap_or f.batch no_batch

abbrev pub purchase_of : Ledger → Fields → Purchase
purchase_of l m = purchase_in (facts_of l m)

abbrev pub batch_of : Ledger → Fields → Batch
batch_of l m = batch_in (facts_of l m)
