-- What is kept from message to message: of the books and the holds, of the books and the history.
use Rattle.std.proofs.Common.{◌≡◌, ℕ, suc, ◌≤◌, Bool, true, false, ◌||◌, eqb, ◌⊎◌, List, map, length, pos, Some, None, Ok, Err, Option, unwrap_or}
use Rattle.std.specs.Option.{option_map}
use Rattle.host.specs.Parts.{Holdings}
use Rattle.host.specs.declared.Pair.{Pair}
use Rattle.rows.specs.First.{first_with, row_with}
use Rattle.wire.specs.RoundTrip.{Bytes}
use Rattle.wire.specs.declared.message.Fields.{Fields}
use Rattle.rules.specs.Checks.{used_otherwise}
use Rattle.rules.specs.Ledger.{Ledger, most_answers, no_batch, of_batch, of_xid, remembered_of}
use Rattle.rules.specs.MessageCard.{message_card}
use Rattle.rules.specs.Outcome.{outcome_code}
use Rattle.rules.specs.Rules.{is_silent, refused_with}
use Rattle.rules.specs.declared.outcome.Outcome.TheVariants.{MemoryFull, RequestNumberUsed}
use Rattle.rules.specs.declared.outcome.Performed.{Performed}
use Rattle.rules.proofs.Ways.{recalled}
use Rattle.law.specs.Batches.{batch_sum, batches, is_closed}
use Rattle.law.specs.Observed.{ClosesAnswerSums}
use Rattle.law.specs.Purchases.{authorised, captured, credited, purchases}
use Rattle.law.specs.Booked.{batch_name, batch_under, booked_of, name_of}
use Rattle.law.specs.Repeats.{full}
use Rattle.law.specs.History.{Entry, Given, last_given, opened, succeeded_before}

-- this message is remembered with 25
pub record Silent (l : Ledger) (m : Fields) : Type 0 where
  pub answer : Performed
  pub is : recalled l m ≡ Some answer
  pub silent : is_silent answer ≡ true

-- the amounts of the books, and their doubts: a purchase is in doubt exactly while one message of
-- its XID is remembered with 25
pub record Kept (l : Ledger) : Type 0 where
  pub credited_within : (xid : List ℕ) → (booked_of l xid).credited ≤ (booked_of l xid).captured
  pub captured_within : (xid : List ℕ) → (booked_of l xid).captured ≤ (booked_of l xid).authorised
  pub nothing_captured : (xid : List ℕ) (amount : ℕ) → (booked_of l xid).doubt ≡ Some amount → (booked_of l xid).captured ≡ 0
  pub silent_kind : (m : Fields) → Silent l m → (eqb m.kind 1 || eqb m.kind 2) ≡ true
  pub silent_doubt : (m : Fields) → Silent l m → (booked_of l m.xid).doubt ≡ Some m.amount
  pub silent_card : (m : Fields) → Silent l m → m.kind ≡ 1 → (booked_of l m.xid).card ≡ message_card m
  pub doubted : (xid : List ℕ) (amount : ℕ) → (booked_of l xid).doubt ≡ Some amount → (m : Fields) × Silent l m × (m.xid ≡ xid) × (m.amount ≡ amount)
  -- a reversal remembered so asks no more than is authorised
  pub silent_below : (m : Fields) → Silent l m → m.kind ≡ 2 → m.amount ≤ (booked_of l m.xid).authorised
  pub one_doubt : (m n : Fields) → Silent l m → Silent l n → m.xid ≡ n.xid → m ≡ n

-- the row of this XID has this card and this reference
pub record IsRow (l : Ledger) (xid : List ℕ) (pair : Pair) : Type 0 where
  pub by_card : option_map (λ p. p.card) (row_with (of_xid xid) l.purchases) ≡ Some pair.card
  pub by_place : option_map suc (first_with (of_xid xid) l.purchases) ≡ Some pair.reference

-- what is held is what the books say
pub record Holding (l : Ledger) (held : Holdings) : Type 0 where
  pub own : (xid : List ℕ) (pair : Pair) → IsRow l xid pair → (held pair ≡ (booked_of l xid).authorised) ⊎ ((booked_of l xid).doubt ≡ Some (held pair))
  pub other : (pair : Pair) → ((xid : List ℕ) → IsRow l xid pair → ⊥) → held pair ≡ 0

-- what an answer that is given again comes from: it is remembered, or the request number is used,
-- or the memory is full
pub data Known (l : Ledger) (m : Fields) (given : Given) : Type 0 where
  known : (a : Performed) → recalled l m ≡ Some a → given ≡ full a → Known l m given
  known_used : used_otherwise (remembered_of l m) m ≡ true → given ≡ full (refused_with m RequestNumberUsed) → Known l m given
  known_full : remembered_of l m ≡ None → most_answers ≤ length l.answers → given ≡ full (refused_with m MemoryFull) → Known l m given

-- whether it is remembered with code 0
abbrev pub is_done : Option Performed → Bool
is_done None = false
is_done (Some a) = eqb (outcome_code a.outcome) 0

-- what is remembered is what was answered last, for every message but inquiries
pub record Recalls (h : List Entry) (l : Ledger) : Type 0 where
  pub last : (bytes : List ℕ) (m : Fields) (a : Performed) → Bytes bytes → opened bytes ≡ Ok m → eqb m.kind 9 ≡ false → recalled l m ≡ Some a → last_given h bytes ≡ Some (full a)
  pub answers : (bytes : List ℕ) (m : Fields) (given : Given) → Bytes bytes → opened bytes ≡ Ok m → eqb m.kind 9 ≡ false → last_given h bytes ≡ Some given → Known l m given
  pub done : (bytes : List ℕ) (m : Fields) → Bytes bytes → opened bytes ≡ Ok m → eqb m.kind 9 ≡ false → succeeded_before h bytes ≡ is_done (recalled l m)
  -- only bytes stand in the history, and each remembered message was spelled by some
  pub spelled : (m : Fields) (a : Performed) → recalled l m ≡ Some a → (bytes : List ℕ) × Bytes bytes × (opened bytes ≡ Ok m)
  pub only_bytes : (bytes : List ℕ) (given : Given) → last_given h bytes ≡ Some given → Bytes bytes
  -- bytes that hold no message got a short answer
  pub shorts : (bytes : List ℕ) (given : Given) (number : ℕ) → opened bytes ≡ Err number → last_given h bytes ≡ Some given → given ≡ (record { code = number; amount = None })

-- the books show what the history says
pub record Shows (h : List Entry) (l : Ledger) : Type 0 where
  pub same_purchases : map name_of l.purchases ≡ purchases h
  pub same_authorised : (xid : List ℕ) → (booked_of l xid).authorised ≡ authorised h xid
  pub same_captured : (xid : List ℕ) → (booked_of l xid).captured ≡ captured h xid
  pub same_credited : (xid : List ℕ) → pos (booked_of l xid).credited ≡ credited h xid

-- and so do the batches
pub record Sums (h : List Entry) (l : Ledger) : Type 0 where
  pub totals : (course number : ℕ) → (unwrap_or (row_with (of_batch course number) l.batches) no_batch).total ≡ batch_sum h course number
  pub closes : ClosesAnswerSums h

-- the books show the batches of the history, open or closed
pub record Batched (h : List Entry) (l : Ledger) : Type 0 where
  pub same_batches : map batch_name l.batches ≡ batches h
  pub same_closed : (course number : ℕ) → (batch_under l course number).closed ≡ is_closed h course number
