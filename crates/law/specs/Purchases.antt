-- The purchases of a history, and what is authorised, captured, credited and in doubt of each. A
-- word with the ending `_after` is the step of another: what that is after one message more.
use Rattle.std.specs.Prelude.{◌≡◌, ℕ, suc, Bool, true, not, ◌&&◌, ◌||◌, if◌then◌else◌, List, [], ◌∷◌, ◌++◌, ℤ, pos, ◌+ℤ◌, ◌-ℤ◌, is_some, Some, None, Ok, Option, ◌==◌}
use Rattle.std.specs.Option.{option_map}
use Rattle.fields.specs.declared.kind.Kind.{Kind}
use Rattle.fields.specs.declared.kind.Kind.TheVariants.{AuthReq, AuthRevReq, CapReq, CapRevReq, CredReq, CredRevReq}
use Rattle.host.specs.declared.Card.{Card}
use Rattle.host.specs.declared.Pair.{Pair}
use Rattle.rows.specs.First.{first_with, row_with}
use Rattle.wire.specs.Bytes.{same_bytes}
use Rattle.wire.specs.declared.message.Fields.{Fields}
use Rattle.rules.specs.MessageCard.{message_card}
use Rattle.law.specs.History.{Entry, code, last_given, of_kind, opened, said, success_of}

-- a purchase by its XID, and the course and the card of its authorisation
pub record PurchaseName : Type 0 where
  pub xid : List ℕ
  pub course : ℕ
  pub card : Card

abbrev pub purchase_name : Fields → PurchaseName
purchase_name m = record { xid = m.xid; course = m.course; card = message_card m }

abbrev pub named : List ℕ → PurchaseName → Bool
named xid b = same_bytes b.xid xid

-- an authorisation that was put to the host, and so answered 0, 24 or 25, makes its XID a purchase
abbrev pub makes_purchase : Fields → ℕ → Bool
makes_purchase m code = of_kind AuthReq m && (code == 0 || (code == 24 || code == 25))

-- the first one counts
abbrev pub purchases_after : Option Fields → ℕ → List PurchaseName → List PurchaseName
purchases_after None code before = before
purchases_after (Some m) code before =
    if makes_purchase m code && not (is_some (first_with (named m.xid) before))
    then before ++ purchase_name m ∷ []
    else before

abbrev pub purchases : List Entry → List PurchaseName
purchases [] = []
purchases (e ∷ h) = purchases_after (said e) (code e) (purchases h)

-- the purchase of this XID has this card, and its place among the purchases, from 1, as its
-- reference
pub record IsPurchase (h : List Entry) (xid : List ℕ) (pair : Pair) : Type 0 where
  pub by_card : option_map (λ b. b.card) (row_with (named xid) (purchases h)) ≡ Some pair.card
  pub by_place : option_map suc (first_with (named xid) (purchases h)) ≡ Some pair.reference

-- a message of this kind for the purchase of this XID
abbrev pub is_for : Kind → List ℕ → Fields → Bool
is_for kind xid m = of_kind kind m && same_bytes m.xid xid

-- the amount of the last authorisation or authorisation reversal to succeed
abbrev pub authorised_after : Option Fields → List ℕ → ℕ → ℕ
authorised_after None xid before = before
authorised_after (Some m) xid before =
    if is_for AuthReq xid m || is_for AuthRevReq xid m then m.amount else before

abbrev pub authorised : List Entry → List ℕ → ℕ
authorised [] xid = 0
authorised (e ∷ h) xid = authorised_after (success_of e h) xid (authorised h xid)

-- the amount of the last capture to succeed, 0 if a capture reversal succeeded since
abbrev pub captured_after : Option Fields → List ℕ → ℕ → ℕ
captured_after None xid before = before
captured_after (Some m) xid before =
    if is_for CapReq xid m then m.amount else if is_for CapRevReq xid m then 0 else before

abbrev pub captured : List Entry → List ℕ → ℕ
captured [] xid = 0
captured (e ∷ h) xid = captured_after (success_of e h) xid (captured h xid)

-- the credits that succeeded less the credit reversals
abbrev pub credited_after : Option Fields → List ℕ → ℤ → ℤ
credited_after None xid before = before
credited_after (Some m) xid before =
    if is_for CredReq xid m then before +ℤ pos m.amount
    else if is_for CredRevReq xid m then before -ℤ pos m.amount
    else before

abbrev pub credited : List Entry → List ℕ → ℤ
credited [] xid = pos 0
credited (e ∷ h) xid = credited_after (success_of e h) xid (credited h xid)

-- in doubt: an authorisation or authorisation reversal of this XID, asking this amount, has 25 as
-- its own last answer
pub record InDoubt (h : List Entry) (xid : List ℕ) (amount : ℕ) : Type 0 where
  pub bytes : List ℕ
  pub message : Fields
  pub is_message : opened bytes ≡ Ok message
  pub is_put : (of_kind AuthReq message || of_kind AuthRevReq message) ≡ true
  pub for_xid : message.xid ≡ xid
  pub for_amount : message.amount ≡ amount
  pub last_silent : option_map (λ g. g.code) (last_given h bytes) ≡ Some 25
