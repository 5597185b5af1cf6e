-- A record that is taken from the front of what a reader has left.
use Rattle.std.specs.Prelude.{◌≡◌, ℕ, Bool, true, false, List, Option, Some, None, Result, Ok, Err, ⊤}
use Rattle.std.specs.Borrow.{Bor}
use Rattle.fields.specs.Record.{first_record}
use Rattle.fields.specs.declared.record.Cut.{Cut}

-- nothing at the end, a message with the bytes after it left, or a record that the end cuts
abbrev pub IsFront : Option (Result (Bor (List ℕ)) Cut) → List ℕ → Option (List ℕ) → Type 0
IsFront None before after = first_record before ≡ None
IsFront (Some (Ok message)) before None = ⊥
IsFront (Some (Ok message)) before (Some after) =
    first_record before ≡ Some (Some (message.now, after))
IsFront (Some (Err _)) before after = first_record before ≡ Some None

-- where the bytes that a reader has left are known, the record is the one at their front
abbrev pub TakesRecord : Option (List ℕ)
    → Option (Result (Bor (List ℕ)) Cut) → Option (List ℕ) → Type 0
TakesRecord None taken after = ⊤
TakesRecord (Some before) taken after = IsFront taken before after

-- a message and what comes after it stand at the front
abbrev pub is_message : Option (Option (List ℕ × List ℕ)) → Bool
is_message None = false
is_message (Some None) = false
is_message (Some (Some parts)) = true

abbrev pub has_whole_record : List ℕ → Bool
has_whole_record bytes = is_message (first_record bytes)
