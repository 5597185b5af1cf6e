-- Opening and writing are each other's inverse, for all bytes and all messages.
use Rattle.std.specs.Prelude.{◌≡◌, ℕ, ◌^◌, ◌<◌, ◌≤◌, List, length, take, Ok, Result}
use Rattle.std.specs.Int.Digits.{AllBelowBase}
use Rattle.fields.specs.Kind.{length_of}
use Rattle.wire.specs.Opening.{opening}
use Rattle.wire.specs.Strip.{strip_length}
use Rattle.wire.specs.Writing.{trimmed, writing}
use Rattle.wire.specs.declared.message.Fields.{Fields}

-- each element is a byte
abbrev pub Bytes : List ℕ → Type 0
Bytes bytes = AllBelowBase 256 bytes

-- fields that fit their widths, and are 0 where the kind lacks them
pub record Message (m : Fields) : Type 0 where
  pub request : m.request < 2 ^ 64
  pub course : m.course < 2 ^ 32
  pub xid : length m.xid ≡ 20
  pub xid_bytes : Bytes m.xid
  pub batch : m.batch < 2 ^ 32
  pub trim : trimmed m ≡ m

abbrev pub Iff : Type 0 → Type 0 → Type 0
Iff A B = (A → B) × (B → A)

-- opening these bytes gives exactly this message if and only if writing this message gives exactly
-- these bytes
abbrev pub RoundTrip : Type 0
RoundTrip =
    (bytes : List ℕ) → Bytes bytes → (m : Fields) → Message m →
    Iff (opening bytes ≡ Ok m) (writing m ≡ Ok bytes)

-- the same of one call of opening, on a strip of so many bytes
abbrev pub OpeningInverts : ℕ → List ℕ → Result Fields ℕ → Type 0
OpeningInverts strip bytes answer =
    strip_length ≤ strip → (m : Fields) → Message m → Iff (answer ≡ Ok m) (writing m ≡ Ok bytes)

-- and of one call of writing, by what it answers and leaves in the buffer
abbrev pub WritingInverts : Fields → List ℕ → List ℕ → Result ℕ ℕ → Type 0
WritingInverts m before after answer =
    length_of m.kind ≤ length before → Message m → (bytes : List ℕ) → Bytes bytes →
    Iff (opening bytes ≡ Ok m) ((answer ≡ Ok (length bytes)) × (take (length bytes) after ≡ bytes))
