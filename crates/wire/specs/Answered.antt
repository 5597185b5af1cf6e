-- What opening answers: the fields of the opened message, or a refusal by its number.
use Rattle.std.specs.Prelude.{ℕ, Ok, Err, Result}
use Rattle.fields.specs.Refusal.{refusal_number}
use Rattle.wire.specs.declared.message.Fields.{Fields}
use Rattle.wire.specs.declared.opened.Opened.{Opened}
use Rattle.fields.specs.declared.refusal.Refusal.{Refusal}

abbrev pub answered : Result Opened Refusal → Result Fields ℕ
answered (Ok message) = Ok message.fields
answered (Err e) = Err (refusal_number e)
