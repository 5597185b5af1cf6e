-- The law over what an outsider can observe, the amounts held and the answers given, by the history
-- alone.
use Rattle.std.specs.Prelude.{◌≡◌, ℕ, ◌-◌, ◌≤◌, ◌≢◌, ◌⊎◌, List, [], ◌∷◌, pos, Some}
use Rattle.std.specs.Int.{w64}
use Rattle.std.proofs.Common.{of_z}
use Rattle.fields.specs.Kind.{kind_number}
use Rattle.fields.specs.declared.kind.Kind.TheVariants.{AuthRevReq, BatchClose}
use Rattle.host.specs.Parts.{Holdings}
use Rattle.host.specs.declared.Pair.{Pair}
use Rattle.wire.specs.declared.message.Fields.{Fields}
use Rattle.law.specs.Batches.{batch_sum}
use Rattle.law.specs.History.{Entry, Given, NoInquiry, code, last_given, said, success_of}
use Rattle.law.specs.Purchases.{InDoubt, IsPurchase, authorised, captured, credited}

-- the authorised amount, or, while the purchase is in doubt, that or the amount asked
abbrev pub RightlyHeld : List Entry → List ℕ → ℕ → Type 0
RightlyHeld h xid amount = (amount ≡ authorised h xid) ⊎ InDoubt h xid amount

-- credited is never negative; captured less credited is never negative, and never above authorised,
-- and neither is captured by itself
pub record Bounded (h : List Entry) (xid : List ℕ) : Type 0 where
  pub credit : ℕ
  pub is_credited : credited h xid ≡ pos credit
  pub never_negative : credit ≤ captured h xid
  pub never_above : captured h xid - credit ≤ authorised h xid
  pub captured_within : captured h xid ≤ authorised h xid

-- no authorisation reversal was refused by the host: it asks no more than is held
abbrev pub ReversalsGranted : List Entry → Type 0
ReversalsGranted [] = Unit {0}
ReversalsGranted (e ∷ h) =
    ((m : Fields) → said e ≡ Some m → m.kind ≡ kind_number AuthRevReq → code e ≢ 24)
    × ReversalsGranted h

-- each batch close that succeeded answered the sum of its batch as it was then, in two's complement
-- of 64 bits
abbrev pub ClosesAnswerSums : List Entry → Type 0
ClosesAnswerSums [] = Unit {0}
ClosesAnswerSums (e ∷ h) =
    ((m : Fields) → success_of e h ≡ Some m → m.kind ≡ kind_number BatchClose
    → e.given.amount ≡ Some (of_z w64 (batch_sum h m.course m.batch)))
    × ClosesAnswerSums h

-- inquiries aside, bytes that were last answered otherwise than by 25 got that answer again
abbrev pub RepeatsAgree : List Entry → Type 0
RepeatsAgree [] = Unit {0}
RepeatsAgree (e ∷ h) =
    (NoInquiry e.bytes → (last : Given) → last_given h e.bytes ≡ Some last → (last.code ≢ 25)
    → e.given ≡ last)
    × RepeatsAgree h

pub record Observed (h : List Entry) (held : Holdings) : Type 0 where
  -- under a purchase's card and reference the right amount is held, and nothing anywhere else
  pub held_rightly : (xid : List ℕ) (pair : Pair) → IsPurchase h xid pair
      → RightlyHeld h xid (held pair)
  pub nothing_else : (pair : Pair) → ((xid : List ℕ) → IsPurchase h xid pair → ⊥)
      → held pair ≡ 0
  -- a purchase has one card and one reference, and no two purchases share both; with the two fields
  -- above, no stake is held twice
  pub one_pair : (xid : List ℕ) (pair pair' : Pair)
      → IsPurchase h xid pair → IsPurchase h xid pair' → pair ≡ pair'
  pub not_shared : (xid xid' : List ℕ) (pair : Pair)
      → IsPurchase h xid pair → IsPurchase h xid' pair → xid ≡ xid'
  pub bounded : (xid : List ℕ) → Bounded h xid
  pub reversals_granted : ReversalsGranted h
  pub closes : ClosesAnswerSums h
  pub repeats_agree : RepeatsAgree h
