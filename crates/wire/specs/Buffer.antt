-- A lent buffer after something was written to its front: the bytes past it stay, and after a
-- refusal all of them.
use Rattle.std.specs.Prelude.{ℕ, List, ◌++◌, length, drop, Ok, Err, Result}
use Rattle.fields.specs.Refusal.{refusal_number}
use Rattle.fields.specs.declared.refusal.Refusal.{Refusal}

abbrev pub over_front : Result (List ℕ) ℕ → List ℕ → List ℕ
over_front (Ok bytes) buffer = bytes ++ drop (length bytes) buffer
over_front (Err n) buffer = buffer

-- how many bytes were written
abbrev pub length_written : Result (List ℕ) ℕ → Result ℕ ℕ
length_written (Ok bytes) = Ok (length bytes)
length_written (Err n) = Err n

-- what a call answered, each refusal by its number
abbrev pub numbered : Result ℕ Refusal → Result ℕ ℕ
numbered (Ok n) = Ok n
numbered (Err e) = Err (refusal_number e)
