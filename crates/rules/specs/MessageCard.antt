-- The card of a message.
use Rattle.host.specs.declared.Card.{Card}
use Rattle.wire.specs.declared.message.Fields.{Fields}

abbrev pub message_card : Fields → Card
message_card m = record { number = m.card }
