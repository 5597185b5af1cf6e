-- The history: the bytes handled and the answer given to each, the newest first, and which messages
-- succeed. What is said of a history goes by it alone.
use Rattle.std.specs.Prelude.{◌≡◌, ℕ, ◌≢◌, Bool, false, not, ◌&&◌, ◌||◌, if◌then◌else◌, List, [], ◌∷◌, Some, None, Ok, Err, Option, Result, ◌==◌}
use Rattle.fields.specs.Kind.{kind_number}
use Rattle.fields.specs.declared.kind.Kind.{Kind}
use Rattle.fields.specs.declared.kind.Kind.TheVariants.{Inquiry}
use Rattle.wire.specs.Bytes.{same_bytes}
use Rattle.wire.specs.Opening.{opening}
use Rattle.wire.specs.declared.message.Fields.{Fields}

-- what was answered: a code, and an amount unless the answer was a short one
pub record Given : Type 0 where
  pub code : ℕ
  pub amount : Option ℕ

-- an answer of a code alone
abbrev pub short : ℕ → Given
short n = record { code = n; amount = None }

pub record Entry : Type 0 where
  pub bytes : List ℕ
  pub given : Given

abbrev pub entry : List ℕ → Given → Entry
entry bytes given = record { bytes = bytes; given = given }

abbrev pub code : Entry → ℕ
code e = e.given.code

-- the message that bytes hold, or the number of the check that refuses them
unfoldable pub opened : List ℕ → Result Fields ℕ
opened bytes = opening bytes

abbrev pub message_of : Result Fields ℕ → Option Fields
message_of (Ok m) = Some m
message_of (Err number) = None

-- the message of an entry, if its bytes hold one
abbrev pub said : Entry → Option Fields
said e = message_of (opened e.bytes)

abbrev pub of_kind : Kind → Fields → Bool
of_kind kind m = m.kind == kind_number kind

-- these bytes hold no inquiry
abbrev pub NoInquiry : List ℕ → Type 0
NoInquiry bytes = (m : Fields) → opened bytes ≡ Ok m → m.kind ≢ kind_number Inquiry

-- the answer that these bytes got last
abbrev pub last_given : List Entry → List ℕ → Option Given
last_given [] bytes = None
last_given (e ∷ h) bytes = if same_bytes e.bytes bytes then Some e.given else last_given h bytes

-- these bytes got code 0 before
abbrev pub succeeded_before : List Entry → List ℕ → Bool
succeeded_before [] bytes = false
succeeded_before (e ∷ h) bytes =
    (same_bytes e.bytes bytes && code e == 0) || succeeded_before h bytes

-- an entry succeeds when its bytes get code 0 for the first time
abbrev pub succeeds : Entry → List Entry → Bool
succeeds e before = code e == 0 && not (succeeded_before before e.bytes)

-- the message that succeeds with an entry, if one does
abbrev pub success_of : Entry → List Entry → Option Fields
success_of e before = if succeeds e before then said e else None
