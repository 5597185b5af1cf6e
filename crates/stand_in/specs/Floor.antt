-- No row is ever above the floor, so the rows come to at most so many times the floor.
use Rattle.std.specs.Prelude.{◌≡◌, ◌*◌, ◌≤◌, Bool, true, nat_le, List, length, sum_by}
use Rattle.std.specs.List.{list_all}
use Rattle.host.specs.Parts.{Pence, PutSteps}
use Rattle.host.specs.declared.Pair.{Pair}
use Rattle.host.specs.declared.PutReply.{PutReply}
use Rattle.stand_in.specs.Put.{rows_after}
use Rattle.stand_in.specs.Rows.{no_rows}
use Rattle.stand_in.specs.Sent.{RowsSent}
use Rattle.stand_in.specs.declared.row.Row.{Row}
use Rattle.stand_in.specs.declared.row.Row.TheVariants.{Free, Stands}

-- a row is within the floor
abbrev pub row_within : Pence → Row → Bool
row_within floor Free = true
row_within floor (Stands pair amount) = nat_le amount floor

abbrev pub rows_within : Pence → List Row → Bool
rows_within floor rows = list_all (row_within floor) rows

-- what a row comes to
abbrev pub amount_at : Row → Pence
amount_at Free = 0
amount_at (Stands pair amount) = amount

-- in a new stand-in all rows are within the floor; a put keeps that, whatever is answered below,
-- and so does sending on, over any host; and then they come to at most so many times the floor
pub record FloorHolds {H : Type 0} (step : PutSteps H) : Type 0 where
  pub at_first : (floor : Pence) → rows_within floor no_rows ≡ true
  pub after_put :
      (rows : List Row) (floor : Pence) (pair : Pair) (amount : Pence) (below : PutReply)
      → rows_within floor rows ≡ true
      → rows_within floor (rows_after rows floor pair amount below) ≡ true
  pub after_sending : (floor : Pence) (rows : List Row) (before : H) (left : List Row) (after : H)
      → RowsSent step rows before left after
      → rows_within floor rows ≡ true → rows_within floor left ≡ true
  pub in_all : (floor : Pence) (rows : List Row)
      → rows_within floor rows ≡ true → sum_by amount_at rows ≤ length rows * floor
