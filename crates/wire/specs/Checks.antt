-- A list of checks, each with its number and whether it fails: the first that fails decides.
use Rattle.std.specs.Prelude.{ℕ, Bool, if◌then◌else◌, List, [], ◌∷◌, Some, None, Ok, Err, Option, Result}

abbrev pub first_failing : List (ℕ × Bool) → Option ℕ
first_failing [] = None
first_failing (check ∷ checks) = if check.1 then Some check.0 else first_failing checks

-- the value, or the number of the check that failed
abbrev pub unless : {A : Type 0} → Option ℕ → A → Result A ℕ
unless None x = Ok x
unless (Some n) x = Err n
