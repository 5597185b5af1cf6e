-- What a stand-in makes of a put, by what the host below answered to it.
use Rattle.std.specs.Prelude.{Bool, true, false, if◌then◌else◌, ◌&&◌, ◌||◌, nat_le}
use Rattle.std.specs.Prelude.{List, Option, Some, None, is_some}
use Rattle.host.specs.Parts.{Pence}
use Rattle.host.specs.declared.Fate.{Fate}
use Rattle.host.specs.declared.Fate.TheVariants.{Heard, LostGoing}
use Rattle.host.specs.declared.Pair.{Pair}
use Rattle.host.specs.declared.PutReply.{PutReply}
use Rattle.host.specs.declared.PutReply.TheVariants.{Done, Refused, Silent}
use Rattle.stand_in.specs.Rows.{dropped, place_for, row_amount, written}
use Rattle.stand_in.specs.declared.row.Row.{Row}

-- the amount is at most that of the pair's row
abbrev pub covered : Option Pence → Pence → Bool
covered None amount = false
covered (Some own) amount = nat_le amount own

-- whether the stand-in takes an amount on itself: by the floor and the amount, by the amount of the
-- pair's row and whether there is a place for it, and by what was answered below
abbrev pub takes : Pence → Pence → Option Pence → Bool → PutReply → Bool
takes floor amount own has_place Done = false
takes floor amount own has_place Refused = covered own amount
takes floor amount own has_place Silent =
    (nat_le amount floor || covered own amount) && has_place

-- a put of the amount for the pair, over these rows and this floor
module _ (rows : List Row) (floor : Pence) (pair : Pair) (amount : Pence) where
  abbrev pub taken : PutReply → Bool
  taken = takes floor amount (row_amount rows pair) (is_some (place_for rows pair))

  -- the answer
  abbrev pub answer_to : PutReply → PutReply
  answer_to below = if taken below then Done else below

  -- the rows after
  abbrev pub rows_after : PutReply → List Row
  rows_after Done = dropped rows pair
  rows_after Refused = if taken Refused then written rows pair amount else rows
  rows_after Silent = if taken Silent then written rows pair amount else rows

  -- whether a hold would be raised; `assent` is whether it would be below
  abbrev pub assent_to : PutReply → Bool → Bool
  assent_to Done assent = true
  assent_to Refused assent = false
  assent_to Silent assent = if taken Silent then true else assent

  -- the fate of the put; `fate` is that below
  abbrev pub fate_of : PutReply → Fate → Fate
  fate_of Done fate = Heard
  fate_of Refused fate = Heard
  fate_of Silent fate =
      if taken Silent then Heard
      else if is_some (row_amount rows pair) then LostGoing
      else fate
