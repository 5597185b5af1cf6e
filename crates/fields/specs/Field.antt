-- The sixteen fields of a message: their widths in bytes, and the place of each under a bit map.
use Rattle.std.specs.Prelude.{ℕ, zero, suc, ◌+◌, ◌-◌, ◌/◌, ◌%◌, ◌^◌, Bool, if◌then◌else◌, List, [], ◌∷◌, ◌==◌, slice_index}
use Rattle.fields.specs.declared.field.Field.{Field}
use Rattle.fields.specs.declared.field.Field.TheVariants.{Kind, Request, Course, Xid, Card, Amount, Batch, Code}

-- the width of each field, by bit; the last eight are reserved
abbrev pub widths : List ℕ
widths = 1 ∷ 8 ∷ 4 ∷ 20 ∷ 10 ∷ 8 ∷ 4 ∷ 1 ∷ 0 ∷ 0 ∷ 0 ∷ 0 ∷ 0 ∷ 0 ∷ 0 ∷ 0 ∷ []

abbrev pub width : ℕ → ℕ
width bit = slice_index widths bit

-- the bits are counted from the highest: field 1 has bit 0
abbrev pub bit_of : Field → ℕ
bit_of Kind = 0
bit_of Request = 1
bit_of Course = 2
bit_of Xid = 3
bit_of Card = 4
bit_of Amount = 5
bit_of Batch = 6
bit_of Code = 7

-- whether a map has the field of this bit
abbrev pub stands : ℕ → ℕ → Bool
stands map bit = (map / 2 ^ (15 - bit)) % 2 == 1

-- what the first n fields of a map take up together
abbrev pub widths_to : ℕ → ℕ → ℕ
widths_to map zero = 0
widths_to map (suc n) = widths_to map n + (if stands map n then width n else 0)

-- where the field of this bit begins: after the map's two bytes and the fields before it
abbrev pub place : ℕ → ℕ → ℕ
place map bit = 2 + widths_to map bit

-- how long a message with this map is
abbrev pub length_under : ℕ → ℕ
length_under map = place map 16

-- how many of the first n fields stand
abbrev pub fields_to : ℕ → ℕ → ℕ
fields_to map zero = 0
fields_to map (suc n) = fields_to map n + (if stands map n then 1 else 0)

-- how many stand from the field of this bit on
unfoldable pub fields_from : ℕ → ℕ → ℕ
fields_from map bit = fields_to map 16 - fields_to map bit
