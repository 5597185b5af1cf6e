-- What the words of a line say: each statement by its first word, and nothing else is one.
use Rattle.std.specs.Prelude.{◌≡◌, ◌≢◌, ◌⊎◌, ℕ, ◌<◌, ℤ, List, Option, Some, None, Result, IsErr, codes, drop, bytes_eq, length, slice_index, ⊤, All, if◌then◌else◌}
use Rattle.std.specs.Prelude.{FitsSigned}
use Rattle.std.specs.Int.{w64}
use Rattle.std.specs.Borrow.{Bor}
use Rattle.std.specs.Result.{OkIff}
use Rattle.std.specs.Str.Parse.{IsNumeral, digits_value, without_leading_plus, without_leading_sign, signed_digits_value}
use Rattle.rehearsal.specs.declared.fault.Fault.{Fault}
use Rattle.rehearsal.specs.declared.statement.Keyword.{Keyword}
use Rattle.rehearsal.specs.declared.statement.Keyword.TheVariants as begins
use Rattle.rehearsal.specs.declared.statement.OtherWord.{OtherWord}
use Rattle.rehearsal.specs.declared.statement.OtherWord.TheVariants as other
use Rattle.rehearsal.specs.declared.statement.Statement.{Statement}
use Rattle.rehearsal.specs.declared.statement.Statement.TheVariants as says
use Rattle.rehearsal.specs.Words.{Words, word, Begins, IsUnsigned, number_of}
use Rattle.rehearsal.specs.Message.{HasOrder, kind_text, message_in}
use Rattle.rehearsal.specs.Bank.{HasBank, bank_in, bank_text}

-- two hexadecimal digits write a byte
abbrev pub byte_of : List ℕ → ℕ
byte_of text = digits_value 16 (without_leading_plus text)

pub record IsByte (text : List ℕ) : Type 0 where
  pub two : length text ≡ 2
  pub bare : slice_index text 0 ≢ 43
  pub digits : IsNumeral 16 (without_leading_plus text)
  pub small : byte_of text < 256

-- a signed number, or `-` for none
abbrev pub IsAmount : List ℕ → Type 0
IsAmount text =
    (text ≡ codes "-")
    ⊎ (IsNumeral 10 (without_leading_sign text) × FitsSigned w64 (signed_digits_value 10 text))

abbrev pub amount_of : List ℕ → Option ℤ
amount_of text = if bytes_eq text (codes "-") then None else Some (signed_digits_value 10 text)

-- the word that each statement begins with that is neither about the bank nor a message
abbrev pub other_text : OtherWord → List ℕ
other_text other.Course = codes "course"
other_text other.Request = codes "request"
other_text other.Case = codes "case"
other_text other.Fresh = codes "fresh"
other_text other.Repeat = codes "repeat"
other_text other.Bytes = codes "bytes"
other_text other.Expect = codes "expect"
other_text other.SendOn = codes "send"

-- the word that each statement begins with
abbrev pub keyword_text : Keyword → List ℕ
keyword_text (begins.Bank begin) = bank_text begin
keyword_text (begins.Send kind) = kind_text kind
keyword_text (begins.Other begin) = other_text begin

-- a statement begins with the text, or none does
abbrev pub IsKeyword : List ℕ → Option Keyword → Type 0
IsKeyword = Begins keyword_text

-- a code and an amount
abbrev pub IsExpected : Words → Type 0
IsExpected rest = (length rest ≡ 2) × IsUnsigned 8 (word rest 0) × IsAmount (word rest 1)

abbrev pub expected_in : Words → Statement
expected_in rest = says.Expect (number_of (word rest 0)) (amount_of (word rest 1))

-- which words go on with a statement that is neither about the bank nor a message
abbrev pub HasRest : OtherWord → Words → Type 0
HasRest other.Course rest = (length rest ≡ 1) × IsUnsigned 32 (word rest 0)
HasRest other.Request rest = (length rest ≡ 1) × IsUnsigned 64 (word rest 0)
HasRest other.Case rest = ⊤
HasRest other.Fresh rest = length rest ≡ 0
HasRest other.Repeat rest = (length rest ≡ 1) × IsUnsigned 64 (word rest 0)
HasRest other.Bytes rest = All (λ byte. IsByte byte.now) rest
HasRest other.Expect rest = IsExpected rest
HasRest other.SendOn rest = (length rest ≡ 1) × (word rest 0 ≡ codes "on")

-- the statement that they make
abbrev pub rest_in : OtherWord → Bor Words → Statement
rest_in other.Course rest = says.Course (number_of (word rest.now 0))
rest_in other.Request rest = says.Request (number_of (word rest.now 0))
rest_in other.Case rest = says.Case rest
rest_in other.Fresh rest = says.Fresh
rest_in other.Repeat rest = says.Repeat (number_of (word rest.now 0))
rest_in other.Bytes rest = says.Bytes rest
rest_in other.Expect rest = expected_in rest.now
rest_in other.SendOn rest = says.SendOn

-- what a statement that begins so is read from, and as
abbrev pub Reads : Keyword → Bor Words → Result Statement Fault → Type 0
Reads (begins.Bank begin) rest r = OkIff r (HasBank begin rest.now) (says.Bank (bank_in begin rest))
Reads (begins.Send kind) rest r =
    OkIff r (HasOrder kind rest.now) (says.Send (message_in kind rest.now))
Reads (begins.Other begin) rest r = OkIff r (HasRest begin rest.now) (rest_in begin rest)

-- a statement that begins with the first word, read from the others
pub record ReadsFrom (words : Words) (r : Result Statement Fault) : Type 0 where
  pub keyword : Keyword
  pub begins : keyword_text keyword ≡ word words 0
  pub rest : Bor Words
  pub after : rest.now ≡ drop 1 words
  pub read : Reads keyword rest r

-- the first word begins a statement, which the others go on with, or there is no statement
abbrev pub ReadsWords : Words → Result Statement Fault → Type 0
ReadsWords words r =
    ((0 < length words) × ReadsFrom words r)
    ⊎ (IsErr r × ((0 < length words) → IsKeyword (word words 0) None))
