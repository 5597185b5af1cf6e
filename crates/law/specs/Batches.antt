-- The batches of a history, which of them are closed, and the sum of each. A word with the ending
-- `_after` is the step of another: what that is after one message more.
use Rattle.std.specs.Prelude.{ℕ, Bool, false, not, ◌&&◌, ◌||◌, if◌then◌else◌, List, [], ◌∷◌, ◌++◌, ℤ, pos, ◌+ℤ◌, ◌-ℤ◌, is_some, Some, None, Option, ◌==◌}
use Rattle.fields.specs.declared.kind.Kind.TheVariants.{CapReq, CapRevReq, CredReq, CredRevReq, BatchOpen, BatchClose}
use Rattle.rows.specs.First.{first_with}
use Rattle.wire.specs.declared.message.Fields.{Fields}
use Rattle.law.specs.History.{Entry, of_kind, success_of}
use Rattle.law.specs.Purchases.{captured}

-- a batch by its course and number
pub record BatchName : Type 0 where
  pub course : ℕ
  pub number : ℕ

abbrev pub numbered : ℕ → ℕ → BatchName → Bool
numbered course number b = b.course == course && b.number == number

-- a batch open that succeeds makes a batch; the first one counts
abbrev pub batches_after : Option Fields → List BatchName → List BatchName
batches_after None before = before
batches_after (Some m) before =
    if of_kind BatchOpen m && not (is_some (first_with (numbered m.course m.batch) before))
    then before ++ (record { course = m.course; number = m.batch }) ∷ []
    else before

abbrev pub batches : List Entry → List BatchName
batches [] = []
batches (e ∷ h) = batches_after (success_of e h) (batches h)

-- a message that names the batch of this course and number
abbrev pub is_under : ℕ → ℕ → Fields → Bool
is_under course number m = m.course == course && m.batch == number

-- a batch close of this course and number succeeded
abbrev pub closed_after : Option Fields → ℕ → ℕ → Bool → Bool
closed_after None course number before = before
closed_after (Some m) course number before =
    (of_kind BatchClose m && is_under course number m) || before

abbrev pub is_closed : List Entry → ℕ → ℕ → Bool
is_closed [] course number = false
is_closed (e ∷ h) course number =
    closed_after (success_of e h) course number (is_closed h course number)

-- captures and credit reversals are added, credits subtracted, and for each capture reversal the
-- amount captured for its XID at that moment
abbrev pub counted : Fields → (List ℕ → ℕ) → ℤ → ℤ
counted m captured_before sum =
    if of_kind CapReq m || of_kind CredRevReq m then sum +ℤ pos m.amount
    else if of_kind CredReq m then sum -ℤ pos m.amount
    else if of_kind CapRevReq m then sum -ℤ pos (captured_before m.xid)
    else sum

-- what succeeds under a batch's course and number is counted
abbrev pub sum_after : Option Fields → (List ℕ → ℕ) → ℕ → ℕ → ℤ → ℤ
sum_after None captured_before course number sum = sum
sum_after (Some m) captured_before course number sum =
    if is_under course number m then counted m captured_before sum else sum

abbrev pub batch_sum : List Entry → ℕ → ℕ → ℤ
batch_sum [] course number = pos 0
batch_sum (e ∷ h) course number =
    sum_after (success_of e h) (captured h) course number (batch_sum h course number)
