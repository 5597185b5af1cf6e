-- Where a row is written that goes into its own place or else into a free one.
use Rattle.std.specs.Prelude.{ℕ, Bool, List, slice_set, Option, Some, None}
use Rattle.std.specs.Option.{option_or}
use Rattle.rows.specs.First.{first_with}

-- the place of the first row that passes its own test, else of the first that passes the other
abbrev pub first_either : {R : Type 0} → (R → Bool) → (R → Bool) → List R → Option ℕ
first_either own free rows = option_or (first_with own rows) (first_with free rows)

-- the list with a row written at the place found; the same list where none was found
abbrev pub set_at : {R : Type 0} → Option ℕ → R → List R → List R
set_at None row rows = rows
set_at (Some place) row rows = slice_set rows place row
