-- A file of records, each a length byte and a message: what stands at its front, and which records
-- it has.
use Rattle.std.specs.Prelude.{ℕ, zero, suc, if◌then◌else◌, List, [], ◌∷◌, length, take, drop, Some, None, Option, Result, Ok, Err, nat_lt}
use Rattle.std.specs.Borrow.{Bor}
use Rattle.std.specs.Option.{option_map_or}
use Rattle.fields.specs.declared.record.Cut.{Cut}
use Rattle.fields.specs.declared.record.Records.{Records}

-- a message of this length and the bytes after it, or no message where the bytes run out
abbrev pub cut_at : ℕ → List ℕ → Option (List ℕ × List ℕ)
cut_at long rest = if nat_lt (length rest) long then None else Some (take long rest, drop long rest)

-- nothing at the end; else what the length byte cuts off
abbrev pub first_record : List ℕ → Option (Option (List ℕ × List ℕ))
first_record [] = None
first_record (long ∷ rest) = Some (cut_at long rest)

-- what each case of the answer means
abbrev pub seen :
    Option (Result (Bor (List ℕ) × Bor (List ℕ)) Cut) → Option (Option (List ℕ × List ℕ))
seen None = None
seen (Some (Err _)) = Some None
seen (Some (Ok (message, after))) = Some (Some (message.now, after.now))

-- the first so many records: each message in order, and none for the cut record that ends them
abbrev pub records_to : ℕ → List ℕ → List (Option (List ℕ))
records_to zero bytes = []
records_to (suc n) [] = []
records_to (suc n) (long ∷ rest) =
    option_map_or (λ parts. Some parts.0 ∷ records_to n parts.1) (cut_at long rest) (None ∷ [])

-- the records of a file, each of a byte at least
abbrev pub records_in : List ℕ → List (Option (List ℕ))
records_in bytes = records_to (length bytes) bytes

-- those of what is left to go over
abbrev pub records_left : Records → List (Option (List ℕ))
records_left records = records_in records.rest.now

-- the message that came, or none for a cut record
abbrev pub shown : Result (Bor (List ℕ)) Cut → Option (List ℕ)
shown (Ok message) = Some message.now
shown (Err _) = None
