-- Sending on: the host below is told to send on first, and then each row that stands is put below
-- once, in row order, and dropped if and only if that is done.
use Rattle.std.specs.Prelude.{◌≡◌, ℕ, List, [], ◌∷◌, slice_index_or, slice_set}
use Rattle.host.specs.Parts.{Pence, PutSteps}
use Rattle.host.specs.declared.Pair.{Pair}
use Rattle.host.specs.declared.PutReply.{PutReply}
use Rattle.host.specs.declared.PutReply.TheVariants.{Done, Refused, Silent}
use Rattle.stand_in.specs.declared.row.Row.{Row}
use Rattle.stand_in.specs.declared.row.Row.TheVariants.{Free, Stands}
use Rattle.stand_in.specs.declared.stand_in.StandIn.{StandIn}

-- what is left of a row once it was put below and answered so
abbrev pub left_of : PutReply → Pair → Pence → Row
left_of Done pair amount = Free
left_of Refused pair amount = Stands pair amount
left_of Silent pair amount = Stands pair amount

module _ {H : Type 0} (step : PutSteps H) where
  -- one row: the host below before, what is left of the row, and the host below after
  abbrev pub RowSent : Row → H → Row → H → Type 0
  RowSent Free before left after = (left ≡ Free) × (after ≡ before)
  RowSent (Stands pair amount) before left after =
      (reply : PutReply) × step before pair amount reply after × (left ≡ left_of reply pair amount)

  -- the rows, one after the other
  abbrev pub RowsSent : List Row → H → List Row → H → Type 0
  RowsSent [] before left after = (left ≡ []) × (after ≡ before)
  RowsSent (row ∷ rows) before left after =
      (first : Row) × (between : H) × (others : List Row)
      × RowSent row before first between × RowsSent rows between others after
      × (left ≡ first ∷ others)

  -- the row at a place of a stand-in
  pub record SendsRow (place : ℕ) (before after : StandIn H) : Type 0 where
    pub left : Row
    pub sent : RowSent (slice_index_or before.rows place Free) before.below left after.below
    pub rows : after.rows ≡ slice_set before.rows place left
    pub floor : after.floor ≡ before.floor

  -- all its rows
  pub record SendsRows (before after : StandIn H) : Type 0 where
    pub rows : RowsSent before.rows before.below after.rows after.below
    pub floor : after.floor ≡ before.floor

  -- the same once the host below was told to send on
  pub record StandInSends (send : H → H → Type 0) (before after : StandIn H) : Type 0 where
    pub below : H
    pub first : send before.below below
    pub rows : RowsSent before.rows below after.rows after.below
    pub floor : after.floor ≡ before.floor
