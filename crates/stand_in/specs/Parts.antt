-- A stand-in as a host: its four parts, from its rows, its floor and the parts of the host below,
-- and what one call makes of it.
use Rattle.std.specs.Prelude.{◌≡◌, Option, Some, None}
use Rattle.std.specs.Option.{unwrap_or}
use Rattle.host.specs.Meaning.{put_answer}
use Rattle.host.specs.Parts.{Assents, Holdings, Pence, PutFates, PutSteps, ReadFates, ReadSteps}
use Rattle.host.specs.declared.Fate.{Fate}
use Rattle.host.specs.declared.Fate.TheVariants.{Heard}
use Rattle.host.specs.declared.Pair.{Pair}
use Rattle.host.specs.declared.PutReply.{PutReply}
use Rattle.host.specs.declared.ReadReply.{ReadReply}
use Rattle.host.specs.declared.ReadReply.TheVariants.{Holds}
use Rattle.stand_in.specs.Put.{answer_to, assent_to, fate_of, rows_after}
use Rattle.stand_in.specs.Rows.{row_amount}
use Rattle.stand_in.specs.declared.stand_in.StandIn.{StandIn}

-- the fate of a read: heard where the pair has a row
abbrev read_fate_with : Option Pence → Fate → Fate
read_fate_with None below = below
read_fate_with (Some own) below = Heard

module _ {H : Type 0} where
  -- held is the amount of the pair's row, or else what is held below
  abbrev pub stand_in_held : (H → Holdings) → StandIn H → Holdings
  stand_in_held held s pair = unwrap_or (row_amount s.rows pair) (held s.below pair)

  abbrev pub stand_in_read_fate : (H → ReadFates) → StandIn H → ReadFates
  stand_in_read_fate fate s pair =
      read_fate_with (row_amount s.rows pair) (fate s.below pair)

  -- what a put goes by is what the host below would answer to it
  abbrev pub stand_in_assent :
      (H → PutFates) → (H → Holdings) → (H → Assents) → StandIn H → Assents
  stand_in_assent fate held assent s pair amount =
      let below = put_answer (fate s.below) (held s.below) (assent s.below) pair amount in
      assent_to s.rows s.floor pair amount below (assent s.below pair amount)

  abbrev pub stand_in_put_fate :
      (H → PutFates) → (H → Holdings) → (H → Assents) → StandIn H → PutFates
  stand_in_put_fate fate held assent s pair amount =
      let below = put_answer (fate s.below) (held s.below) (assent s.below) pair amount in
      fate_of s.rows s.floor pair amount below (fate s.below pair amount)

  -- one put: it is made once below, and answer and rows go by what was answered there
  pub record StandInPut
      (step : PutSteps H) (before : StandIn H) (pair : Pair) (amount : Pence)
      (answer : PutReply) (after : StandIn H)
      : Type 0 where
    pub below : PutReply
    pub made : step before.below pair amount below after.below
    pub answered : answer ≡ answer_to before.rows before.floor pair amount below
    pub rows : after.rows ≡ rows_after before.rows before.floor pair amount below
    pub floor : after.floor ≡ before.floor

  -- one read: the pair's row answers it, and the host below is not called; without a row it is made
  -- once below
  abbrev pub AnsweredBy :
      Option Pence → ReadSteps H → H → Pair → ReadReply → H → Type 0
  AnsweredBy (Some own) step before pair answer after = (answer ≡ Holds own) × (after ≡ before)
  AnsweredBy None step before pair answer after = step before pair answer after

  pub record StandInRead
      (step : ReadSteps H) (before : StandIn H) (pair : Pair)
      (answer : ReadReply) (after : StandIn H)
      : Type 0 where
    pub answered :
        AnsweredBy (row_amount before.rows pair) step before.below pair answer after.below
    pub rows : after.rows ≡ before.rows
    pub floor : after.floor ≡ before.floor
