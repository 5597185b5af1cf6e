-- The checks of performing, as a table of rows: number, outcome, kinds, cause. The first row that
-- applies refuses the message.
use Rattle.std.specs.Prelude.{◌≡◌, ℕ, Bool, false, not, ◌&&◌, ◌||◌, List, [], ◌∷◌, Some, None, Option, ◌==◌, if◌then◌else◌}
use Rattle.wire.specs.declared.message.Fields.{Fields}
use Rattle.rules.specs.Causes.{holds}
use Rattle.rules.specs.Outcome.{outcome_code}
use Rattle.rules.specs.Same.{same_fields}
use Rattle.rules.specs.declared.checks.Cause.TheVariants.{NoRowForAnswer, NoSuchPurchase, OtherCourse, OtherCard, HasDoubt, SomeAuthorised, NoRowForPurchase, NoneAuthorised, SomeCaptured, NoneCaptured, NotBelowAuthorised, AboveAuthorised, AboveUncredited, AboveCredited, NoSuchBatch, ClosedBatch, CreditedOrOpenElsewhere, BatchExists, NoRowForBatch}
use Rattle.rules.specs.declared.facts.Facts.{Facts}
use Rattle.rules.specs.declared.outcome.Outcome.{Outcome}
use Rattle.rules.specs.declared.outcome.Outcome.TheVariants.{RequestNumberUsed, MemoryFull, UnknownXid, PiAuthMismatch, InDoubt, PiPreviouslyUsed, PurchasesFull, NothingAuthorised, DuplicateRequest, NothingCaptured, AmountOutOfBounds, BatchUnknown, BatchClosed, NotReversible, BatchNumberUsed, BatchesFull}
use Rattle.rules.specs.declared.remembered.Remembered.{Remembered}

pub record Check : Type 0 where
  pub number : ℕ
  pub outcome : Outcome
  pub kinds : List ℕ
  pub cause : Bool

abbrev pub check : ℕ → Outcome → List ℕ → Bool → Check
check number outcome kinds cause =
    record { number = number; outcome = outcome; kinds = kinds; cause = cause }

abbrev pub among : ℕ → List ℕ → Bool
among k [] = false
among k (x ∷ xs) = k == x || among k xs

-- whether a row refuses a message of a kind
abbrev pub refuses : ℕ → Check → Bool
refuses k row = among k row.kinds && row.cause

-- the first row whose kinds have the message's kind and whose cause holds
abbrev pub refusal : ℕ → List Check → Option Outcome
refusal k [] = None
refusal k (row ∷ rows) = if refuses k row then Some row.outcome else refusal k rows

-- the course and request number are remembered with other fields
abbrev pub used_otherwise : Option Remembered → Fields → Bool
used_otherwise None m = false
used_otherwise (Some r) m = not (same_fields r.fields m)

-- checked before a repeat is looked for
abbrev pub request_checks : Option Remembered → Fields → List Check
request_checks r m =
    check 8 RequestNumberUsed (1 ∷ 2 ∷ 3 ∷ 4 ∷ 5 ∷ 6 ∷ 7 ∷ 8 ∷ []) (used_otherwise r m) ∷ []

-- checked of a message that is no repeat
abbrev pub book_checks : Facts → Fields → List Check
book_checks f m =
    check 9 MemoryFull (1 ∷ 2 ∷ 3 ∷ 4 ∷ 5 ∷ 6 ∷ 7 ∷ 8 ∷ []) (holds NoRowForAnswer f m)
    ∷ check 10 UnknownXid (2 ∷ 3 ∷ 4 ∷ 5 ∷ 6 ∷ 9 ∷ []) (holds NoSuchPurchase f m)
    ∷ check 11 PiAuthMismatch (1 ∷ 2 ∷ 3 ∷ 4 ∷ 5 ∷ 6 ∷ 9 ∷ []) (holds OtherCourse f m)
    ∷ check 11 PiAuthMismatch (1 ∷ []) (holds OtherCard f m)
    ∷ check 12 InDoubt (1 ∷ 2 ∷ 3 ∷ 4 ∷ 5 ∷ 6 ∷ []) (holds HasDoubt f m)
    ∷ check 13 PiPreviouslyUsed (1 ∷ []) (holds SomeAuthorised f m)
    ∷ check 14 PurchasesFull (1 ∷ []) (holds NoRowForPurchase f m)
    ∷ check 15 NothingAuthorised (2 ∷ 3 ∷ []) (holds NoneAuthorised f m)
    ∷ check 16 DuplicateRequest (2 ∷ 3 ∷ []) (holds SomeCaptured f m)
    ∷ check 17 NothingCaptured (4 ∷ 5 ∷ 6 ∷ []) (holds NoneCaptured f m)
    ∷ check 18 AmountOutOfBounds (2 ∷ []) (holds NotBelowAuthorised f m)
    ∷ check 18 AmountOutOfBounds (3 ∷ []) (holds AboveAuthorised f m)
    ∷ check 18 AmountOutOfBounds (5 ∷ []) (holds AboveUncredited f m)
    ∷ check 18 AmountOutOfBounds (6 ∷ []) (holds AboveCredited f m)
    ∷ check 19 BatchUnknown (3 ∷ 4 ∷ 5 ∷ 6 ∷ 8 ∷ []) (holds NoSuchBatch f m)
    ∷ check 20 BatchClosed (3 ∷ 4 ∷ 5 ∷ 6 ∷ 8 ∷ []) (holds ClosedBatch f m)
    ∷ check 21 NotReversible (4 ∷ []) (holds CreditedOrOpenElsewhere f m)
    ∷ check 22 BatchNumberUsed (7 ∷ []) (holds BatchExists f m)
    ∷ check 23 BatchesFull (7 ∷ []) (holds NoRowForBatch f m)
    ∷ []

-- the numbers beside the outcomes are their codes
abbrev numbers_of : List Check → List ℕ
numbers_of [] = []
numbers_of (row ∷ rows) = row.number ∷ numbers_of rows

abbrev codes_of : List Check → List ℕ
codes_of [] = []
codes_of (row ∷ rows) = outcome_code row.outcome ∷ codes_of rows

abbrev pub Numbered : Type 0
Numbered =
    (r : Option Remembered) (f : Facts) (m : Fields)
    → (codes_of (request_checks r m) ≡ numbers_of (request_checks r m))
    × (codes_of (book_checks f m) ≡ numbers_of (book_checks f m))
