-- How the fields that stand in a map are laid out in bytes, and read from them by place.
use Rattle.std.specs.Prelude.{ℕ, zero, suc, ◌+◌, if◌then◌else◌, List, [], ◌∷◌, ◌++◌, take, drop, replicate, Result, nat_lt, slice_index_or}
use Rattle.std.specs.Int.Digits.{number_from_digits}
use Rattle.wire.specs.Bytes.{bytes_of}
use Rattle.wire.specs.Checks.{first_failing, unless}
use Rattle.fields.specs.Field.{width, stands, place, length_under}
use Rattle.wire.specs.declared.parts.Parts.{Parts}

-- what each field holds, by bit
abbrev pub pieces : Parts → List (List ℕ)
pieces p =
    bytes_of 1 p.kind ∷
    bytes_of 8 p.request ∷
    bytes_of 4 p.course ∷
    p.xid ∷
    p.card ∷
    bytes_of 8 p.amount ∷
    bytes_of 4 p.batch ∷
    bytes_of 1 p.code ∷
    []

-- the first n fields, those that stand, one after the other
abbrev pub joined_to : ℕ → List (List ℕ) → ℕ → List ℕ
joined_to map ps zero = []
joined_to map ps (suc n) =
    joined_to map ps n ++ (if stands map n then slice_index_or ps n [] else [])

-- the map and then the fields that stand
abbrev pub laid : ℕ → Parts → List ℕ
laid map p = bytes_of 2 map ++ joined_to map (pieces p) 16

-- into a buffer of so many bytes
abbrev pub laying_into : ℕ → ℕ → Parts → Result (List ℕ) ℕ
laying_into room map p =
    unless (first_failing ((1, nat_lt room (length_under map)) ∷ [])) (laid map p)

-- a buffer with a field written at its place, if the map has it
abbrev pub placed : ℕ → ℕ → List ℕ → List ℕ → List ℕ
placed map bit piece buffer =
    if stands map bit
    then take (place map bit) buffer ++ (piece ++ drop (place map bit + width bit) buffer)
    else buffer

-- the field of this bit where it stands in the bytes of a message; zeros where the map lacks it
abbrev pub piece_in : ℕ → List ℕ → ℕ → List ℕ
piece_in map bytes bit =
    if stands map bit
    then take (width bit) (drop (place map bit) bytes)
    else replicate (width bit) 0

abbrev pub parts_in : ℕ → List ℕ → Parts
parts_in map bytes = record {
  kind = number_from_digits 256 (piece_in map bytes 0);
  request = number_from_digits 256 (piece_in map bytes 1);
  course = number_from_digits 256 (piece_in map bytes 2);
  xid = piece_in map bytes 3;
  card = piece_in map bytes 4;
  amount = number_from_digits 256 (piece_in map bytes 5);
  batch = number_from_digits 256 (piece_in map bytes 6);
  code = number_from_digits 256 (piece_in map bytes 7);
}
