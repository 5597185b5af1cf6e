-- Opening: the message that bytes hold, or the number of the first check that fails.
use Rattle.std.specs.Prelude.{◌≡◌, ℕ, ◌%◌, Bool, not, ◌&&◌, ◌||◌, List, [], ◌∷◌, length, take, None, Option, Result, ◌==◌, nat_lt, slice_index}
use Rattle.std.specs.Int.Digits.{number_from_digits}
use Rattle.wire.specs.Card.{well_packed, card_number}
use Rattle.wire.specs.Checks.{first_failing, unless}
use Rattle.fields.specs.Field.{bit_of, stands}
use Rattle.wire.specs.Strip.{strip_length}
use Rattle.fields.specs.declared.field.Field.{Field}
use Rattle.fields.specs.declared.field.Field.TheVariants.{Card, Amount}
use Rattle.fields.specs.Kind.{kind_number, is_kind, map_of, length_of, amount_allowed}
use Rattle.wire.specs.Layout.{piece_in, parts_in}
use Rattle.fields.specs.declared.kind.Kind.{Kind}
use Rattle.wire.specs.declared.message.Fields.{Fields}
use Rattle.wire.specs.declared.parts.Parts.{Parts}

abbrev pub map_in : List ℕ → ℕ
map_in bytes = number_from_digits 256 (take 2 bytes)

-- field 1 comes first and is one byte wide
abbrev pub kind_in : List ℕ → ℕ
kind_in bytes = slice_index bytes 2

-- the last eight fields are reserved: their bits are the map's lower byte
abbrev pub reserved : ℕ → Bool
reserved map = not (map % 256 == 0)

-- under 3 bytes, field 1 missing, or a reserved bit set
abbrev pub is_no_message : List ℕ → Bool
is_no_message bytes =
    nat_lt (length bytes) 3
    || (not (stands (map_in bytes) (bit_of Field.Kind)) || reserved (map_in bytes))

-- the map has the card, and its ten bytes hold none
abbrev pub has_bad_card : List ℕ → Bool
has_bad_card bytes =
    stands (map_in bytes) (bit_of Card)
    && not (well_packed (piece_in (map_in bytes) bytes (bit_of Card)))

-- in pence; 0 where the map lacks it
abbrev pub amount_in : List ℕ → ℕ
amount_in bytes = number_from_digits 256 (piece_in (map_in bytes) bytes (bit_of Amount))

abbrev pub opening_checks : List ℕ → List (ℕ × Bool)
opening_checks bytes =
    (2, is_no_message bytes) ∷
    (3, not (is_kind (kind_in bytes))) ∷
    (4, not (map_in bytes == map_of (kind_in bytes))) ∷
    (5, not (length bytes == length_of (kind_in bytes))) ∷
    (6, has_bad_card bytes) ∷
    (7, not (amount_allowed (kind_in bytes) (amount_in bytes))) ∷
    []

-- the first n of these checks
abbrev pub up_to : ℕ → List ℕ → Option ℕ
up_to n bytes = first_failing (take n (opening_checks bytes))

-- what is known once the first four have passed
pub record Framed (bytes : List ℕ) (kind : Kind) : Type 0 where
  pub numbered : kind_number kind ≡ kind_in bytes
  pub mapped : map_in bytes ≡ map_of (kind_number kind)
  pub long : length bytes ≡ length_of (kind_number kind)
  pub passed : up_to 4 bytes ≡ None

-- the fields of a message, the card by this number
abbrev pub fields_with : Parts → ℕ → Fields
fields_with p card = record {
  kind = p.kind;
  request = p.request;
  course = p.course;
  xid = p.xid;
  card = card;
  amount = p.amount;
  batch = p.batch;
}

abbrev pub message_in : List ℕ → Fields
message_in bytes = let p = parts_in (map_in bytes) bytes in fields_with p (card_number p.card)

abbrev pub opening : List ℕ → Result Fields ℕ
opening bytes = unless (first_failing (opening_checks bytes)) (message_in bytes)

-- on a strip of so many bytes, which is the first check
abbrev pub opening_on : ℕ → List ℕ → Result Fields ℕ
opening_on strip bytes =
    unless (first_failing ((1, nat_lt strip strip_length) ∷ opening_checks bytes))
    (message_in bytes)
