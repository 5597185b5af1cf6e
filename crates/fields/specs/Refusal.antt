-- The number of each refusal, and its reason in words.
use Rattle.std.specs.Prelude.{ℕ, List, codes}
use Rattle.fields.specs.declared.refusal.Refusal.{Refusal}
use Rattle.fields.specs.declared.refusal.Refusal.TheVariants.{ShortBuffer, NotAMessage, UnknownKind, WrongMap, WrongLength, BadCard, AmountNotAllowed}

abbrev pub refusal_number : Refusal → ℕ
refusal_number ShortBuffer = 1
refusal_number NotAMessage = 2
refusal_number UnknownKind = 3
refusal_number WrongMap = 4
refusal_number WrongLength = 5
refusal_number BadCard = 6
refusal_number AmountNotAllowed = 7

abbrev pub refusal_reason : Refusal → List ℕ
refusal_reason ShortBuffer = codes "a buffer is too short"
refusal_reason NotAMessage = codes "under 3 bytes, field 1 missing, or a reserved bit set"
refusal_reason UnknownKind = codes "the kind is not 1 to 9"
refusal_reason WrongMap = codes "the map is not the kind's"
refusal_reason WrongLength = codes "the length is not the kind's"
refusal_reason BadCard = codes "the card is not packed rightly or fails the Luhn check"
refusal_reason AmountNotAllowed = codes "the amount is not allowed"
