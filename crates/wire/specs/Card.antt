-- A card: 13 to 19 decimal digits, the first not 0, that pass the Luhn check of ISO/IEC 7812-1; and
-- how ten bytes hold it.
use Rattle.std.specs.Prelude.{ℕ, ◌+◌, ◌-◌, ◌*◌, ◌/◌, ◌%◌, Bool, if◌then◌else◌, ◌&&◌, List, [], ◌∷◌, ◌++◌, length, drop, replicate, ◌==◌, nat_le, nat_lt, slice_index}
use Rattle.std.specs.List.{list_all}
use Rattle.std.specs.Int.Digits.{number_from_digits, digits_of}

-- what a digit counts in the Luhn sum: counted from the last digit every second one is doubled,
-- and then counts by the sum of its two digits
abbrev pub weight : ℕ → ℕ → ℕ
weight after digit = if after % 2 == 1 then 2 * digit / 10 + 2 * digit % 10 else digit

abbrev pub luhn_sum : List ℕ → ℕ
luhn_sum [] = 0
luhn_sum (digit ∷ digits) = weight (length digits) digit + luhn_sum digits

abbrev pub passes_luhn : List ℕ → Bool
passes_luhn digits = luhn_sum digits % 10 == 0

abbrev pub card_shaped : List ℕ → Bool
card_shaped digits =
    nat_le 13 (length digits) && (nat_le (length digits) 19 && nat_lt 0 (slice_index digits 0))

abbrev pub is_card : List ℕ → Bool
is_card digits = card_shaped digits && passes_luhn digits

-- the two halves of each byte, the higher first
abbrev pub halves : List ℕ → List ℕ
halves [] = []
halves (b ∷ bs) = b / 16 ∷ b % 16 ∷ halves bs

-- the digits before the first half that is none
abbrev pub digits_in : List ℕ → List ℕ
digits_in [] = []
digits_in (h ∷ hs) = if nat_lt h 10 then h ∷ digits_in hs else []

-- only F from here on
abbrev pub only_fill : List ℕ → Bool
only_fill hs = list_all (λ h. h == 15) hs

-- the digits of a card, and F in all the halves after them
abbrev pub well_filled : List ℕ → Bool
well_filled hs = card_shaped (digits_in hs) && only_fill (drop (length (digits_in hs)) hs)

-- whether ten bytes hold a card, and which
abbrev pub well_packed : List ℕ → Bool
well_packed bytes = well_filled (halves bytes) && passes_luhn (digits_in (halves bytes))

abbrev pub card_number : List ℕ → ℕ
card_number bytes = number_from_digits 10 (digits_in (halves bytes))

-- two halves to a byte
abbrev pub pairs : List ℕ → List ℕ
pairs [] = []
pairs (high ∷ []) = []
pairs (high ∷ (low ∷ hs)) = (high * 16 + low) ∷ pairs hs

-- the ten bytes that hold a card number
abbrev pub filled : List ℕ → List ℕ
filled digits = digits ++ replicate (20 - length digits) 15

abbrev pub packed : ℕ → List ℕ
packed card = pairs (filled (digits_of 10 card))
