-- Writing: the bytes of a message, or the number of the first check that fails.
use Rattle.std.specs.Prelude.{ℕ, Bool, if◌then◌else◌, not, ◌&&◌, List, [], ◌∷◌, ◌++◌, replicate, Result, nat_lt}
use Rattle.std.specs.Int.Digits.{digits_of}
use Rattle.wire.specs.Card.{is_card, packed}
use Rattle.wire.specs.Checks.{first_failing, unless}
use Rattle.fields.specs.Field.{bit_of, stands}
use Rattle.fields.specs.Kind.{is_kind, map_of, length_of, amount_allowed}
use Rattle.wire.specs.Layout.{laid}
use Rattle.fields.specs.declared.field.Field.{Field}
use Rattle.fields.specs.declared.field.Field.TheVariants.{Xid, Card, Amount, Batch}
use Rattle.wire.specs.declared.message.Fields.{Fields}
use Rattle.wire.specs.declared.parts.Parts.{Parts}

-- whether the kind of these fields has this one
abbrev pub has : Fields → Field → Bool
has m f = stands (map_of m.kind) (bit_of f)

-- fields that the kind lacks are taken as 0
abbrev pub trimmed : Fields → Fields
trimmed m = record {
  kind = m.kind;
  request = m.request;
  course = m.course;
  xid = if has m Xid then m.xid else replicate 20 0;
  card = if has m Card then m.card else 0;
  amount = if has m Amount then m.amount else 0;
  batch = if has m Batch then m.batch else 0;
}

abbrev pub writing_checks : Fields → List (ℕ × Bool)
writing_checks m =
    (3, not (is_kind m.kind)) ∷
    (6, has m Card && not (is_card (digits_of 10 m.card))) ∷
    (7, not (amount_allowed m.kind (trimmed m).amount)) ∷
    []

-- the fields with the card packed
abbrev pub parts_of : Fields → Parts
parts_of m = record {
  kind = m.kind;
  request = m.request;
  course = m.course;
  xid = m.xid;
  card = if has m Card then packed m.card else replicate 10 0;
  amount = m.amount;
  batch = m.batch;
  code = 0;
}

abbrev pub bytes_for : Fields → List ℕ
bytes_for m = laid (map_of m.kind) (parts_of m)

abbrev pub writing : Fields → Result (List ℕ) ℕ
writing m = unless (first_failing (writing_checks m)) (bytes_for m)

-- into a buffer of so many bytes, which is the last check
abbrev pub writing_into : ℕ → Fields → Result (List ℕ) ℕ
writing_into room m =
    unless (first_failing (writing_checks m ++ (1, nat_lt room (length_of m.kind)) ∷ []))
    (bytes_for m)
