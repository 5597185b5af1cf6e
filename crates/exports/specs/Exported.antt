-- What the numbers that cross to C stand for.
use Rattle.std.specs.Prelude.{ℕ, zero, suc, Result, Ok, Err}
use Rattle.exports.specs.declared.MessageFields.{MessageFields}
use Rattle.wire.specs.declared.message.Fields.{Fields}

-- the fields of a message, as Rattle has them
abbrev pub fields_of : MessageFields → Fields
fields_of c = record {
  kind = c.kind;
  request = c.request;
  course = c.course;
  xid = c.xid;
  card = c.card;
  amount = c.amount;
  batch = c.batch;
}

-- a call's number and what it gave out: 0 and a value, or the number of a refusal
abbrev pub given : {A : Type 0} → ℕ → A → Result A ℕ
given zero a = Ok a
given (suc n) a = Err (suc n)
