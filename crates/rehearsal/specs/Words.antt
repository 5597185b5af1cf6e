-- The words of a line, and the numbers and names that they write.
use Rattle.std.specs.Prelude.{◌≡◌, ◌≢◌, ℕ, ◌-◌, ◌^◌, ◌<◌, ◌≤◌, ◌==◌, List, [], ◌++◌, Option, Some, None, length, replicate, slice_index_or}
use Rattle.std.specs.Borrow.{Bor}
use Rattle.std.specs.List.{before_first}
use Rattle.std.specs.Str.Parse.{IsNumeral, digits_value, without_leading_plus}

-- what a line says is what stands before its first `#`
abbrev pub said : List ℕ → List ℕ
said line = before_first (λ byte. byte == 35) line

-- a `&[&str]`
abbrev pub Words : Type 0
Words = List (Bor (List ℕ))

-- the text of a word, counted from 0; no text past the last
abbrev pub word : Words → ℕ → List ℕ
word words place = (slice_index_or words place (record { ref_ptr = (0, 0); now = [] })).now

-- what the text begins, if anything, where each has the word that `text_of` gives it
abbrev pub Begins : {W : Type 0} → (W → List ℕ) → List ℕ → Option W → Type 0
Begins {W} text_of text None = (begun : W) → text_of begun ≢ text
Begins text_of text (Some begun) = text_of begun ≡ text

-- decimal digits, which a `+` may lead
abbrev pub IsNumber : List ℕ → Type 0
IsNumber text = IsNumeral 10 (without_leading_plus text)

abbrev pub number_of : List ℕ → ℕ
number_of text = digits_value 10 (without_leading_plus text)

-- a number that fits so many bits
abbrev pub IsUnsigned : ℕ → List ℕ → Type 0
IsUnsigned bits text = IsNumber text × (number_of text < 2 ^ bits)

-- the name of a purchase, and the XID that it stands for
abbrev pub IsName : List ℕ → Type 0
IsName name = length name ≤ 20

abbrev pub xid_of : List ℕ → List ℕ
xid_of name = name ++ replicate (20 - length name) 0
