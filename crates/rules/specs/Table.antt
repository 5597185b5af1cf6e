-- The code's table of checks: what its rows are. Its sets of kinds are told by bits.
use Rattle.std.specs.Prelude.{ℕ, ◌/◌, ◌%◌, ◌^◌, Bool, List, [], ◌∷◌, filter, ◌==◌}
use Rattle.wire.specs.declared.message.Fields.{Fields}
use Rattle.rules.specs.Causes.{holds}
use Rattle.rules.specs.Checks.{Check, check}
use Rattle.rules.specs.Outcome.{outcome_code}
use Rattle.rules.specs.declared.checks.Row.{Row}
use Rattle.rules.specs.declared.facts.Facts.{Facts}

-- the kinds in a set, by the bit of each kind's number
abbrev pub has_bit : ℕ → ℕ → Bool
has_bit bits k = (bits / 2 ^ k) % 2 == 1

abbrev pub all_kinds : List ℕ
all_kinds = 1 ∷ 2 ∷ 3 ∷ 4 ∷ 5 ∷ 6 ∷ 7 ∷ 8 ∷ 9 ∷ []

abbrev pub kinds_in : ℕ → List ℕ
kinds_in bits = filter (has_bit bits) all_kinds

-- a row of the code's table
abbrev pub row_of : Facts → Fields → Row → Check
row_of f m row = check (outcome_code row.0) row.0 (kinds_in row.1) (holds row.2 f m)
