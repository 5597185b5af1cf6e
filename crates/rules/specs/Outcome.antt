-- The code of each outcome, and its reason in words.
use Rattle.std.specs.Prelude.{ℕ, List, codes}
use Rattle.rules.specs.declared.outcome.Outcome.{Outcome}
use Rattle.rules.specs.declared.outcome.Outcome.TheVariants.{Success, RequestNumberUsed, MemoryFull, UnknownXid, PiAuthMismatch, InDoubt, PiPreviouslyUsed, PurchasesFull, NothingAuthorised, DuplicateRequest, NothingCaptured, AmountOutOfBounds, BatchUnknown, BatchClosed, NotReversible, BatchNumberUsed, BatchesFull, HostRefused, HostSilent}

abbrev pub outcome_code : Outcome → ℕ
outcome_code Success = 0
outcome_code RequestNumberUsed = 8
outcome_code MemoryFull = 9
outcome_code UnknownXid = 10
outcome_code PiAuthMismatch = 11
outcome_code InDoubt = 12
outcome_code PiPreviouslyUsed = 13
outcome_code PurchasesFull = 14
outcome_code NothingAuthorised = 15
outcome_code DuplicateRequest = 16
outcome_code NothingCaptured = 17
outcome_code AmountOutOfBounds = 18
outcome_code BatchUnknown = 19
outcome_code BatchClosed = 20
outcome_code NotReversible = 21
outcome_code BatchNumberUsed = 22
outcome_code BatchesFull = 23
outcome_code HostRefused = 24
outcome_code HostSilent = 25

abbrev pub outcome_reason : Outcome → List ℕ
outcome_reason Success = codes "done"
outcome_reason RequestNumberUsed = codes "request number used"
outcome_reason MemoryFull = codes "memory full"
outcome_reason UnknownXid = codes "unknown purchase"
outcome_reason PiAuthMismatch = codes "another course's purchase or another card"
outcome_reason InDoubt = codes "purchase in doubt"
outcome_reason PiPreviouslyUsed = codes "already authorised"
outcome_reason PurchasesFull = codes "purchases full"
outcome_reason NothingAuthorised = codes "nothing authorised"
outcome_reason DuplicateRequest = codes "already captured"
outcome_reason NothingCaptured = codes "nothing captured"
outcome_reason AmountOutOfBounds = codes "amount out of bounds"
outcome_reason BatchUnknown = codes "batch unknown"
outcome_reason BatchClosed = codes "batch closed"
outcome_reason NotReversible = codes "capture not reversible"
outcome_reason BatchNumberUsed = codes "batch number used"
outcome_reason BatchesFull = codes "batches full"
outcome_reason HostRefused = codes "refused by the bank"
outcome_reason HostSilent = codes "not answered"
