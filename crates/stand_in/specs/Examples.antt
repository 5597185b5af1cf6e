-- Worked examples of a stand-in with a floor of 1000, on rows that are written out.
use Rattle.std.specs.Prelude.{◌≡◌, List, ◌∷◌, replicate, if◌then◌else◌, ◌==◌}
use Rattle.std.specs.Option.{unwrap_or}
use Rattle.host.specs.Parts.{Pence, ReferenceNumber}
use Rattle.host.specs.declared.Pair.{Pair}
use Rattle.host.specs.declared.PutReply.{PutReply}
use Rattle.host.specs.declared.PutReply.TheVariants.{Done, Refused, Silent}
use Rattle.stand_in.specs.Put.{answer_to, rows_after}
use Rattle.stand_in.specs.Rows.{row_amount}
use Rattle.stand_in.specs.Sent.{RowsSent}
use Rattle.stand_in.specs.declared.row.Row.{Row}
use Rattle.stand_in.specs.declared.row.Row.TheVariants.{Free, Stands}

-- one card's pair under a reference, and its row
abbrev under : ReferenceNumber → Pair
under reference = record { card = record { number = 4111111111111111 }; reference = reference }

abbrev row : ReferenceNumber → Pence → Row
row reference amount = Stands (under reference) amount

-- two rows before fourteen free ones
abbrev rows : Row → Row → List Row
rows first second = first ∷ second ∷ replicate 14 Free

-- the rows before a put, its reference and amount, what is answered below, the answer, and the rows
-- after
abbrev PutGives : List Row → ReferenceNumber → Pence → PutReply → PutReply → List Row → Type 0
PutGives before reference amount below answer after =
    (answer_to before 1000 (under reference) amount below ≡ answer)
    × (rows_after before 1000 (under reference) amount below ≡ after)

-- what is held under a reference over these rows, where so much is held below
abbrev held_over : List Row → ReferenceNumber → Pence → Pence
held_over before reference below = unwrap_or (row_amount before (under reference)) below

-- a host below that answers done under reference 1 and refuses any other
abbrev pub answers : Unit {0} → Pair → Pence → PutReply → Unit {0} → Type 0
answers before pair amount reply after =
    reply ≡ (if pair.reference == 1 then Done else Refused)

pub record StandInExample : Type 0 where
  pub at_the_floor : PutGives (rows Free Free) 1 1000 Silent Done (rows (row 1 1000) Free)
  pub above_the_floor :
      PutGives (rows (row 1 1000) Free) 2 1001 Silent Silent (rows (row 1 1000) Free)
  pub to_none : PutGives (rows (row 1 1000) Free) 1 0 Silent Done (rows (row 1 0) Free)
  pub nothing_held : (below : Pence) → held_over (rows (row 1 0) Free) 1 below ≡ 0
  pub first_free :
      PutGives (rows (row 1 0) Free) 3 700 Silent Done (rows (row 1 0) (row 3 700))
  pub within_row :
      PutGives (rows (row 1 0) (row 3 700)) 3 300 Refused Done (rows (row 1 0) (row 3 300))
  pub above_row :
      PutGives (rows (row 1 0) (row 3 300)) 3 301 Refused Refused (rows (row 1 0) (row 3 300))
  pub sent : RowsSent answers (rows (row 1 0) (row 3 300)) tt (rows Free (row 3 300)) tt
  pub done : PutGives (rows Free (row 3 300)) 3 0 Done Done (rows Free Free)
