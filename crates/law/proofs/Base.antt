-- When bytes and messages are the same: they are equal, and a message has one spelling. And small
-- steps that proofs share.
use Rattle.std.proofs.Common.{◌≡◌, ℕ, Bool, true, false, cond, ◌||◌, eqb, List, Some, None, Ok, Option, sym, refl, subst, ⊎_elim}
use Rattle.std.proofs.lemmas.Bool.{eqb-true, or_cases}
use Rattle.fields.specs.Kind.{is_kind}
use Rattle.wire.specs.RoundTrip.{Bytes}
use Rattle.wire.specs.declared.message.Fields.{Fields}
use Rattle.wire.proofs.Trips.{opened_kind, opened_writes}
use Rattle.law.specs.History.{opened}

-- what is not true is false
pub unless : (t : Bool) → (t ≡ true → ⊥) → t ≡ false
unless true never = absurd (never refl)
unless false never = refl

-- a message if a test passes, and none if it fails
abbrev pub when : Bool → Option Fields → Option Fields
when t o = cond t o None

-- whatever the test, no message gives none, and a message no other
pub when_none : (t : Bool) → when t None ≡ None
when_none true = refl
when_none false = refl

pub when_some : (t : Bool) (m n : Fields) → when t (Some m) ≡ Some n → m ≡ n
when_some true m n here = cc
when_some false m n none = cc

-- what holds of a message with its kind put in by number holds of the message
pub at_number : (P : Fields → Type 0) (m : Fields) (k : ℕ) → m.kind ≡ k → P (record m { kind = k }) → P m
at_number P m k kind = subst (λ j. P (record m { kind = j })) (sym kind)

-- and of an authorisation or its reversal, what holds with either
pub at_put : (P : Fields → Type 0) (m : Fields) → (eqb m.kind 1 || eqb m.kind 2) ≡ true → P (record m { kind = 1 }) → P (record m { kind = 2 }) → P m
at_put P m puts one two = ⊎_elim (λ is. at_number P m 1 (eqb-true m.kind 1 is) one) (λ is. at_number P m 2 (eqb-true m.kind 2 is) two) (or_cases (eqb m.kind 1) (eqb m.kind 2) puts)

-- a message has one spelling
pub one_spelling : (b c : List ℕ) (m : Fields) → Bytes b → Bytes c → opened b ≡ Ok m → opened c ≡ Ok m → b ≡ c
unfolding opened
one_spelling b c m bytes bytes' is is' =
    let first = opened_writes b bytes m is in
    let second = opened_writes c bytes' m is' in
    cc

-- and one of the nine kinds
pub kind_of : (b : List ℕ) (m : Fields) → opened b ≡ Ok m → is_kind m.kind ≡ true
unfolding opened
kind_of b m is = opened_kind b m is
