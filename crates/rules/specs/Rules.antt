-- The rules: which way a message goes, which host call it makes, its answer, and the books after
-- it.
use Rattle.std.specs.Prelude.{ℕ, ◌+◌, ◌-◌, Bool, true, not, ◌&&◌, [], ◌∷◌, ◌++◌, length, pos, ◌+ℤ◌, ◌-ℤ◌, is_some, Some, None, Option, ◌==◌, if◌then◌else◌}
use Rattle.std.specs.Int.{w64}
use Rattle.std.proofs.Common.{of_z}
use Rattle.std.specs.Option.{unwrap_or}
use Rattle.fields.specs.Kind.{kind_from, kind_number}
use Rattle.fields.specs.declared.kind.Kind.{Kind}
use Rattle.fields.specs.declared.kind.Kind.TheVariants.{AuthReq, AuthRevReq, CapReq, CapRevReq, CredReq, CredRevReq, BatchOpen, BatchClose, Inquiry}
use Rattle.host.specs.Meaning.{held_after_put, put_answer, read_answer}
use Rattle.host.specs.Parts.{Assents, Holdings, PutFates, ReadFates}
use Rattle.host.specs.declared.Pair.{Pair}
use Rattle.host.specs.declared.PutReply.{PutReply}
use Rattle.host.specs.declared.PutReply.TheVariants.{Done, Refused, Silent}
use Rattle.host.specs.declared.ReadReply.{ReadReply}
use Rattle.host.specs.declared.ReadReply.TheVariants.{Holds, Silent as NoAnswer}
use Rattle.rows.specs.First.{update_first}
use Rattle.wire.specs.declared.message.Fields.{Fields}
use Rattle.rules.specs.Checks.{among, refusal, request_checks, book_checks}
use Rattle.rules.specs.Ledger.{Ledger, answer_row, batch_of, facts_of, no_batch, no_purchase, of_batch, of_request, of_xid, purchase_at, purchase_of, purchase_row, remembered_of, uncredited}
use Rattle.rules.specs.MessageCard.{message_card}
use Rattle.rules.specs.Same.{same_fields}
use Rattle.rules.specs.Outcome.{outcome_code}
use Rattle.rules.specs.declared.batch.Batch.{Batch}
use Rattle.rules.specs.declared.outcome.Outcome.{Outcome}
use Rattle.rules.specs.declared.outcome.Outcome.TheVariants.{Success, RequestNumberUsed, MemoryFull, HostRefused, HostSilent}
use Rattle.rules.specs.declared.outcome.Performed.{Performed}
use Rattle.rules.specs.declared.purchase.Purchase.{Purchase}
use Rattle.rules.specs.Way.{Way, Again, Retry, Stopped, Through}
use Rattle.rules.specs.declared.remembered.Remembered.{Remembered}

-- the answer to a message that is equal in all fields to a remembered one
abbrev pub repeat_in : Option Remembered → Fields → Option Performed
repeat_in None m = None
repeat_in (Some r) m = if same_fields r.fields m then Some r.answer else None

abbrev pub is_silent : Performed → Bool
is_silent a = outcome_code a.outcome == outcome_code HostSilent

abbrev pub choose : Option Outcome → Option Performed → Option Outcome → Way
choose (Some o) repeat book = Stopped o
choose None (Some a) book = if is_silent a then Retry else Again a
choose None None (Some o) = Stopped o
choose None None None = Through

abbrev pub way : Ledger → Fields → Way
way l m =
    choose
    (refusal m.kind (request_checks (remembered_of l m) m))
    (repeat_in (remembered_of l m) m)
    (refusal m.kind (book_checks (facts_of l m) m))

-- the host call, for a card and a reference
pub data Call : Type 0 where
  no_call : Call
  put : Pair → ℕ → Call
  read : Pair → Call

-- a purchase's row number, from 1; a new one takes the next row
abbrev pub reference_of : Ledger → Fields → ℕ
reference_of l m = unwrap_or (purchase_at l m) (length l.purchases) + 1

-- an authorisation brings its card; any other message's call is for the card of its purchase
abbrev pub pair_for : Purchase → ℕ → Fields → Pair
pair_for p reference m = record {
  card = if m.kind == kind_number AuthReq then message_card m else p.card;
  reference = reference;
}

abbrev pub pair_of : Ledger → Fields → Pair
pair_of l m = pair_for (purchase_of l m) (reference_of l m) m

abbrev pub put_of : Ledger → Fields → Call
put_of l m = put (pair_of l m) m.amount

abbrev pub call_by : Way → Call → Call → Call
call_by (Again a) again on_through = no_call
call_by Retry again on_through = again
call_by (Stopped o) again on_through = no_call
call_by Through again on_through = on_through

-- past all checks an authorisation and its reversal put, an inquiry reads, and no other kind calls
abbrev pub kind_call : Option Kind → Ledger → Fields → Call
kind_call (Some AuthReq) l m = put_of l m
kind_call (Some AuthRevReq) l m = put_of l m
kind_call (Some Inquiry) l m = read (pair_of l m)
kind_call _ l m = no_call

abbrev pub call_of : Ledger → Fields → Call
call_of l m = call_by (way l m) (put_of l m) (kind_call (kind_from m.kind) l m)

-- what the host replied, if it was called
pub data Reply : Type 0 where
  uncalled : Reply
  on_put : PutReply → Reply
  on_read : ReadReply → Reply

-- what a host with these parts replies to a call, and all that it holds after it
abbrev pub reply_of : PutFates → ReadFates → Holdings → Assents → Call → Reply
reply_of put_fate read_fate held assent no_call = uncalled
reply_of put_fate read_fate held assent (put pair amount) =
    on_put (put_answer put_fate held assent pair amount)
reply_of put_fate read_fate held assent (read pair) = on_read (read_answer read_fate held pair)

abbrev pub held_after_call : PutFates → Holdings → Assents → Call → Holdings
held_after_call put_fate held assent no_call = held
held_after_call put_fate held assent (put pair amount) =
    held_after_put put_fate held assent pair amount
held_after_call put_fate held assent (read pair) = held

abbrev pub outcome_of : Reply → Outcome
outcome_of uncalled = Success
outcome_of (on_put Done) = Success
outcome_of (on_put Refused) = HostRefused
outcome_of (on_put Silent) = HostSilent
outcome_of (on_read (Holds amount)) = Success
outcome_of (on_read NoAnswer) = HostSilent

-- a purchase after a put of an amount: done makes it the authorised amount, and done or refused
-- ends a doubt; after silence the authorised amount stays, and the amount asked is noted
abbrev pub settled : Reply → ℕ → Purchase → Purchase
settled (on_put Done) amount p = record p { authorised = amount; doubt = None }
settled (on_put Refused) amount p = record p { doubt = None }
settled (on_put Silent) amount p = record p { doubt = Some amount }
settled uncalled amount p = p
settled (on_read reply) amount p = p

abbrev pub new_purchase : Fields → Purchase
new_purchase m =
    record no_purchase { xid = m.xid; course = m.course; card = message_card m }

abbrev pub with_captured : ℕ → ℕ → Purchase → Purchase
with_captured amount batch p = record p { captured = amount; batch = batch }

abbrev pub with_credited : ℕ → Purchase → Purchase
with_credited amount p = record p { credited = amount }

-- a batch with an amount added to its total or taken from it, a new one, and one that is closed
abbrev pub plus : ℕ → Batch → Batch
plus amount b = record b { total = b.total +ℤ pos amount }

abbrev pub minus : ℕ → Batch → Batch
minus amount b = record b { total = b.total -ℤ pos amount }

abbrev pub new_batch : Fields → Batch
new_batch m = record no_batch { course = m.course; number = m.batch }

abbrev pub close : Batch → Batch
close b = record b { closed = true }

-- the message's purchase or batch rewritten
abbrev pub on_purchase : Fields → (Purchase → Purchase) → Ledger → Ledger
on_purchase m f l = record l { purchases = update_first (of_xid m.xid) f l.purchases }

abbrev pub on_batch : Fields → (Batch → Batch) → Ledger → Ledger
on_batch m f l = record l { batches = update_first (of_batch m.course m.batch) f l.batches }

-- a new purchase or batch in the next row
abbrev pub add_purchase : Fields → Ledger → Ledger
add_purchase m l = record l { purchases = l.purchases ++ new_purchase m ∷ [] }

abbrev pub add_batch : Fields → Ledger → Ledger
add_batch m l = record l { batches = l.batches ++ new_batch m ∷ [] }

-- the books with a row for the message's XID: its own, or else a new one
abbrev pub with_purchase : Fields → Ledger → Ledger
with_purchase m l = if is_some (purchase_row l m) then l else add_purchase m l

-- what each kind moves
abbrev pub kind_moves : Option Kind → Fields → Reply → Ledger → Ledger
kind_moves (Some AuthReq) m reply l = on_purchase m (settled reply m.amount) (with_purchase m l)
kind_moves (Some AuthRevReq) m reply l = on_purchase m (settled reply m.amount) l
kind_moves (Some CapReq) m reply l =
    on_batch m (plus m.amount) (on_purchase m (with_captured m.amount m.batch) l)
kind_moves (Some CapRevReq) m reply l =
    on_batch m (minus (purchase_of l m).captured) (on_purchase m (λ p. with_captured 0 p.batch p) l)
kind_moves (Some CredReq) m reply l =
    on_batch m (minus m.amount) (on_purchase m (λ p. with_credited (p.credited + m.amount) p) l)
kind_moves (Some CredRevReq) m reply l =
    on_batch m (plus m.amount) (on_purchase m (λ p. with_credited (p.credited - m.amount) p) l)
kind_moves (Some BatchOpen) m reply l = add_batch m l
kind_moves (Some BatchClose) m reply l = on_batch m close l
kind_moves (Some Inquiry) m reply l = l
kind_moves None m reply l = l

abbrev pub moved : Ledger → Fields → Reply → Ledger
moved l m reply = kind_moves (kind_from m.kind) m reply l

abbrev pub held_by : Reply → ℕ
held_by (on_read (Holds amount)) = amount
held_by _ = 0

-- the answer to a read
abbrev pub read_answered : ReadReply → Performed
read_answered reply = record {
  outcome = outcome_of (on_read reply);
  amount = held_by (on_read reply);
}

-- the amount of a success of each kind, from the books after it
abbrev pub kind_amount : Option Kind → Ledger → Fields → Reply → ℕ
kind_amount (Some AuthReq) l m reply = m.amount
kind_amount (Some AuthRevReq) l m reply = m.amount
kind_amount (Some CapReq) l m reply = uncredited (purchase_of l m)
kind_amount (Some CapRevReq) l m reply = uncredited (purchase_of l m)
kind_amount (Some CredReq) l m reply = uncredited (purchase_of l m)
kind_amount (Some CredRevReq) l m reply = uncredited (purchase_of l m)
kind_amount (Some BatchOpen) l m reply = 0
kind_amount (Some BatchClose) l m reply = of_z w64 (batch_of l m).total
kind_amount (Some Inquiry) l m reply = held_by reply
kind_amount None l m reply = 0

-- an authorisation that fails answers the amount asked, and any other kind 0
abbrev pub refused_amount : Fields → ℕ
refused_amount m = if m.kind == kind_number AuthReq then m.amount else 0

-- the answer by the host's reply, with this amount if it succeeded
abbrev pub answer_with : Fields → Reply → ℕ → Performed
answer_with m reply amount = record {
  outcome = outcome_of reply;
  amount = if outcome_code (outcome_of reply) == 0 then amount else refused_amount m;
}

abbrev pub answered : Ledger → Fields → Reply → Performed
answered l m reply =
    answer_with m reply (kind_amount (kind_from m.kind) (moved l m reply) m reply)

abbrev pub success : ℕ → Performed
success amount = record { outcome = Success; amount = amount }

abbrev pub refused_with : Fields → Outcome → Performed
refused_with m o = record { outcome = o; amount = refused_amount m }

-- the answer to a put, by its reply
abbrev pub put_answered : Fields → Reply → Performed
put_answered m reply = answer_with m reply m.amount

-- the answer, given the host's reply
abbrev pub answer_by : Way → Ledger → Fields → Reply → Performed
answer_by (Again a) l m reply = a
answer_by Retry l m reply = put_answered m reply
answer_by (Stopped o) l m reply = refused_with m o
answer_by Through l m reply = answered l m reply

abbrev pub answer_of : Ledger → Fields → Reply → Performed
answer_of l m reply = answer_by (way l m) l m reply

-- a message refused by 8 or 9 is forgotten, and inquiries are never remembered
abbrev pub is_forgotten : Outcome → Bool
is_forgotten o = among (outcome_code o) (outcome_code RequestNumberUsed ∷ outcome_code MemoryFull ∷ [])

abbrev pub remembers : Fields → Outcome → Bool
remembers m o = not (m.kind == kind_number Inquiry) && not (is_forgotten o)

-- a message and its answer take a new row
abbrev pub noted : Fields → Performed → Ledger → Ledger
noted m answer l = record l { answers = l.answers ++ answer_row m answer ∷ [] }

abbrev pub remembered : Fields → Performed → Ledger → Ledger
remembered m answer l = if remembers m answer.outcome then noted m answer l else l

-- a new answer in the place of a remembered one
abbrev pub replaced : Fields → Performed → Ledger → Ledger
replaced m answer l =
    let of_message = of_request m.course m.request in
    record l { answers = update_first of_message (λ r. record r { answer = answer }) l.answers }

-- the books after, given the host's reply; a put that is made again settles the purchase in its row
abbrev pub books_by : Way → Ledger → Fields → Reply → Ledger
books_by (Again a) l m reply = l
books_by Retry l m reply =
    replaced m (put_answered m reply) (on_purchase m (settled reply m.amount) l)
books_by (Stopped o) l m reply = remembered m (refused_with m o) l
books_by Through l m reply = remembered m (answered l m reply) (moved l m reply)

abbrev pub books_after : Ledger → Fields → Reply → Ledger
books_after l m reply = books_by (way l m) l m reply
