-- The rows of a stand-in: which one is a pair's, what is written, and that a pair has one at most.
use Rattle.std.specs.Prelude.{◌≡◌, ℕ, Bool, true, false, not, ◌&&◌}
use Rattle.std.specs.Prelude.{List, [], ◌∷◌, length, replicate, Option, Some, None, is_some}
use Rattle.rows.specs.Either.{first_either, set_at}
use Rattle.rows.specs.First.{first_with, row_with}
use Rattle.rows.specs.declared.RowKey.{RowKey}
use Rattle.rows.specs.declared.RowKey.TheVariants as key
use Rattle.host.specs.Parts.{Pence, same_pair}
use Rattle.host.specs.declared.Pair.{Pair}
use Rattle.stand_in.specs.declared.row.Row.{Row}
use Rattle.stand_in.specs.declared.row.Row.TheVariants.{Free, Stands}

abbrev pub is_free : Row → Bool
is_free Free = true
is_free (Stands pair amount) = false

-- a row that stands is its pair's, one of amount 0 too
abbrev pub is_row : Pair → Row → Bool
is_row pair Free = false
is_row pair (Stands pair' amount) = same_pair pair' pair

abbrev pub has_key : Row → RowKey Pair → Bool
has_key row (key.Of pair) = is_row pair row
has_key row key.Free = is_free row

-- sixteen, all free
abbrev pub no_rows : List Row
no_rows = replicate 16 Free

-- the amount of the pair's row, where one stands
abbrev pub amount_in : Option Row → Option Pence
amount_in None = None
amount_in (Some Free) = None
amount_in (Some (Stands pair amount)) = Some amount

abbrev pub row_amount : List Row → Pair → Option Pence
row_amount rows pair = amount_in (row_with (is_row pair) rows)

-- an amount is written into the pair's row, or else into the first free one
abbrev pub place_for : List Row → Pair → Option ℕ
place_for rows pair = first_either (is_row pair) is_free rows

abbrev pub written : List Row → Pair → Pence → List Row
written rows pair amount = set_at (place_for rows pair) (Stands pair amount) rows

-- the pair's row is dropped
abbrev pub dropped : List Row → Pair → List Row
dropped rows pair = set_at (first_with (is_row pair) rows) Free rows

-- a pair has one row at most
abbrev pub one_each : List Row → Bool
one_each [] = true
one_each (Free ∷ rows) = one_each rows
one_each (Stands pair amount ∷ rows) =
    not (is_some (row_with (is_row pair) rows)) && one_each rows

-- what always holds of them
pub record Kept (rows : List Row) : Type 0 where
  pub sixteen : length rows ≡ 16
  pub one : one_each rows ≡ true
