-- The law over the books: they show what the history says.
use Rattle.std.specs.Prelude.{◌≡◌, ℕ, List, map, pos, Some}
use Rattle.std.specs.Option.{unwrap_or}
use Rattle.rows.specs.First.{row_with}
use Rattle.wire.specs.RoundTrip.{Iff}
use Rattle.rules.specs.Ledger.{Ledger, no_batch, no_purchase, of_batch, of_xid}
use Rattle.rules.specs.declared.batch.Batch.{Batch}
use Rattle.rules.specs.declared.purchase.Purchase.{Purchase}
use Rattle.law.specs.Batches.{BatchName, batch_sum, batches, is_closed}
use Rattle.law.specs.Purchases.{InDoubt, PurchaseName, authorised, captured, credited, purchases}
use Rattle.law.specs.History.{Entry}

-- a row of the books, by its XID, its course and its card
abbrev pub name_of : Purchase → PurchaseName
name_of p = record { xid = p.xid; course = p.course; card = p.card }

-- what the books show of an XID; one that they do not know shows 0 throughout, and no doubt
abbrev pub booked_of : Ledger → List ℕ → Purchase
booked_of l xid = unwrap_or (row_with (of_xid xid) l.purchases) no_purchase

-- what the books show of an XID is what the history says of it
pub record SameAmounts (h : List Entry) (xid : List ℕ) (p : Purchase) : Type 0 where
  pub same_authorised : p.authorised ≡ authorised h xid
  pub same_captured : p.captured ≡ captured h xid
  pub same_credited : pos p.credited ≡ credited h xid
  pub same_doubt : (amount : ℕ) → Iff (p.doubt ≡ Some amount) (InDoubt h xid amount)

-- a row of the books, by its course and number
abbrev pub batch_name : Batch → BatchName
batch_name b = record { course = b.course; number = b.number }

-- what the books show under a course and number; where they have no batch, an open one with total 0
abbrev pub batch_under : Ledger → ℕ → ℕ → Batch
batch_under l course number = unwrap_or (row_with (of_batch course number) l.batches) no_batch

pub record Booked (h : List Entry) (l : Ledger) : Type 0 where
  -- the books show the same purchases in the same order, with the same amounts and doubts
  pub same_purchases : map name_of l.purchases ≡ purchases h
  pub same_amounts : (xid : List ℕ) → SameAmounts h xid (booked_of l xid)
  -- the same batches in the same order, open or closed; each total is the sum of its batch, repeats
  -- counted once
  pub same_batches : map batch_name l.batches ≡ batches h
  pub same_closed : (course number : ℕ)
      → (batch_under l course number).closed ≡ is_closed h course number
  pub totals : (course number : ℕ)
      → (batch_under l course number).total ≡ batch_sum h course number
