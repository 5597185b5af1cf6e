-- The law on one call: it begins when a gateway is made, and a message carries it from any history
-- that leads to the gateway to the longer one.
use Rattle.std.specs.Prelude.{◌≡◌, ℕ, ◌≢◌, List, [], ◌∷◌, Some, Ok}
use Rattle.host.specs.Parts.{Holdings, HoldsNothing}
use Rattle.wire.specs.RoundTrip.{Bytes}
use Rattle.wire.specs.Writing.{bytes_for}
use Rattle.wire.specs.declared.message.Fields.{Fields}
use Rattle.rules.specs.Ledger.{Ledger}
use Rattle.law.specs.History.{Entry, Given, NoInquiry, entry, last_given, opened}
use Rattle.law.specs.Reached.{Reached}
use Rattle.law.specs.Stands.{LawStands}

-- a history leads to these books and this host, and the law stands of them
pub record Lawful {H : Type 0} (held : H → Holdings) (h : List Entry) (l : Ledger) (host : H)
    : Type 0 where
  pub reached : Reached h l (held host)
  pub stands : LawStands h l (held host)

-- inquiries aside, bytes that were last answered otherwise than by 25 get that answer, and books
-- and host are the same
abbrev pub AnsweredAgain : {H : Type 0} → List Entry → List ℕ → Given
    → Ledger → H → Ledger → H → Type 0
AnsweredAgain h bytes given l host l' host' =
    NoInquiry bytes → (last : Given) → last_given h bytes ≡ Some last → (last.code ≢ 25)
    → (given ≡ last) × (l' ≡ l) × (host' ≡ host)

-- the longer history leads to the books and the host after, and the law stands; a repeat was
-- answered as before
pub record Carried {H : Type 0} (held : H → Holdings) (h : List Entry) (bytes : List ℕ)
    (given : Given) (l : Ledger) (host : H) (l' : Ledger) (host' : H) : Type 0 where
  pub lawful : Lawful held (entry bytes given ∷ h) l' host'
  pub repeated : AnsweredAgain h bytes given l host l' host'

-- making begins the law, over a host that holds nothing
abbrev pub BeginsLaw : {H : Type 0} → (H → Holdings) → Ledger → H → Type 0
BeginsLaw held l host = HoldsNothing (held host) → Lawful held [] l host

-- these bytes, answered so, carry it on
abbrev pub CarriesLaw : {H : Type 0} → (H → Holdings) → List ℕ → Given
    → Ledger → H → Ledger → H → Type 0
CarriesLaw held bytes given l host l' host' =
    (h : List Entry) → Reached h l (held host) → Carried held h bytes given l host l' host'

-- a call that handles no bytes keeps it: the same history leads to the books and the host after
abbrev pub KeepsLaw : {H : Type 0} → (H → Holdings) → Ledger → H → Ledger → H → Type 0
KeepsLaw held l host l' host' = (h : List Entry) → Reached h l (held host) → Lawful held h l' host'

-- a message that is performed counts as the bytes that it is written as
unfoldable pub spelling : Fields → List ℕ
spelling m = bytes_for m

-- those of an opened message are the bytes that it was opened from
abbrev pub OwnBytes : Type 0
OwnBytes = (bytes : List ℕ) (m : Fields) → Bytes bytes → opened bytes ≡ Ok m → spelling m ≡ bytes
