-- The parts of a host's meaning, as functions of the pair and the amount, and what one call makes
-- of it.
use Rattle.std.specs.Prelude.{◌≡◌, ℕ, Bool, ◌&&◌, ◌==◌}
use Rattle.host.specs.declared.Card.{Card}
use Rattle.host.specs.declared.Pair.{Pair}
use Rattle.host.specs.declared.Fate.{Fate}
use Rattle.host.specs.declared.Fate.TheVariants.{Heard}
use Rattle.host.specs.declared.PutReply.{PutReply}
use Rattle.host.specs.declared.ReadReply.{ReadReply}

abbrev pub Pence : Type 0
Pence = ℕ

abbrev pub ReferenceNumber : Type 0
ReferenceNumber = ℕ

-- two cards, and two pairs of a card and a reference, are the same
abbrev pub same_card : Card → Card → Bool
same_card a b = a.number == b.number

abbrev pub same_pair : Pair → Pair → Bool
same_pair a b = same_card a.card b.card && a.reference == b.reference

-- the amount held for a pair, 0 for none
abbrev pub Holdings : Type 0
Holdings = Pair → Pence

-- whether a hold would be raised to an amount
abbrev pub Assents : Type 0
Assents = Pair → Pence → Bool

-- what becomes of a put on its way
abbrev pub PutFates : Type 0
PutFates = Pair → Pence → Fate

-- what becomes of a read on its way
abbrev pub ReadFates : Type 0
ReadFates = Pair → Fate

-- what one call makes of a host: the host before, what was asked, the reply, and the host after
abbrev pub PutSteps : Type 0 → Type 1
PutSteps H = H → Pair → Pence → PutReply → H → Type 0

abbrev pub ReadSteps : Type 0 → Type 1
ReadSteps H = H → Pair → ReadReply → H → Type 0

-- nothing is held anywhere
abbrev pub HoldsNothing : Holdings → Type 0
HoldsNothing held = (pair : Pair) → held pair ≡ 0

-- a pair that holds nothing below (or on both sides) holds nothing here
abbrev pub NothingWhere : Holdings → Holdings → Type 0
NothingWhere below held = (pair : Pair) → below pair ≡ 0 → held pair ≡ 0

abbrev pub NothingWhereBoth : Holdings → Holdings → Holdings → Type 0
NothingWhereBoth left right held =
    (pair : Pair) → left pair ≡ 0 → right pair ≡ 0 → held pair ≡ 0

-- the same is held everywhere
abbrev pub SameHeld : Holdings → Holdings → Type 0
SameHeld held held' = (pair : Pair) → held pair ≡ held' pair

-- every call is heard
abbrev pub heard_puts : PutFates
heard_puts pair amount = Heard

abbrev pub heard_reads : ReadFates
heard_reads pair = Heard
