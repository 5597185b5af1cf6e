-- What is to be done with a message: a plan is the rules' if its host call is, and what every reply
-- to it leaves.
use Rattle.std.specs.Prelude.{◌≡◌, ℕ, is_some, Some, None, Option, if◌then◌else◌}
use Rattle.host.specs.declared.PutReply.{PutReply}
use Rattle.host.specs.declared.ReadReply.{ReadReply}
use Rattle.wire.specs.declared.message.Fields.{Fields}
use Rattle.rules.specs.Change.{Follows, refusal_noted}
use Rattle.rules.specs.Found.{pair_in}
use Rattle.rules.specs.Ledger.{Ledger, answer_row, purchase_in}
use Rattle.rules.specs.Rules.{Reply, answer_of, books_after, call_of, new_purchase, no_call, on_put, on_read, put, put_answered, read, read_answered, refused_with, remembers, settled, uncalled}
use Rattle.rules.specs.declared.facts.Facts.{Facts}
use Rattle.rules.specs.declared.found.Places.{Places}
use Rattle.rules.specs.declared.outcome.Outcome.{Outcome}
use Rattle.rules.specs.declared.plan.Change.{Change}
use Rattle.rules.specs.declared.plan.Plan.{Plan}
use Rattle.rules.specs.declared.plan.Plan.TheVariants.{Answer, Commit, Put, Read}
use Rattle.rules.specs.declared.plan.HostPut.{HostPut}
use Rattle.rules.specs.declared.plan.RowWrite.{RowWrite}
use Rattle.rules.specs.declared.plan.RowWrite.TheVariants.{Replace, Append}
use Rattle.rules.specs.declared.purchase.Purchase.{Purchase}

-- the row of the purchase that was found, or else a new one
abbrev pub own_row : Facts → Places → RowWrite Purchase
own_row f places = Replace places.purchase (purchase_in f)

abbrev pub own_or_new_row : Facts → Places → Fields → RowWrite Purchase
own_or_new_row f places m = if is_some f.purchase then own_row f places else Append (new_purchase m)

-- a put of the message's amount, which settles this row
abbrev pub put_for : Facts → Places → Fields → RowWrite Purchase → Option ℕ → HostPut
put_for f places m row answer_at = record {
  pair = pair_in f places m;
  fields = m;
  purchase = row;
  answer_at = answer_at;
}

-- what it leaves, given the reply: the purchase settled, and the answer remembered in its place or
-- a new one
abbrev pub settled_row : Reply → ℕ → RowWrite Purchase → RowWrite Purchase
settled_row reply amount (Replace place p) = Replace place (settled reply amount p)
settled_row reply amount (Append p) = Append (settled reply amount p)

abbrev pub written_at : {R : Type 0} → Option ℕ → R → RowWrite R
written_at None row = Append row
written_at (Some place) row = Replace place row

abbrev pub settling : HostPut → Reply → Change
settling p reply = record {
  answer = put_answered p.fields reply;
  purchase = Some (settled_row reply p.fields.amount p.purchase);
  batch = None;
  remembered = written_at p.answer_at (answer_row p.fields (put_answered p.fields reply));
}

-- a refusal is remembered, or else answered alone
abbrev pub refusing : Fields → Outcome → Plan
refusing m o =
    let answer = refused_with m o in
    if remembers m o then Commit (refusal_noted m answer) else Answer answer

-- this plan is the rules' for the message on these books
abbrev pub Decides : Plan → Ledger → Fields → Type 0
Decides (Answer answer) l m =
    (call_of l m ≡ no_call) × (answer ≡ answer_of l m uncalled) × (l ≡ books_after l m uncalled)
Decides (Commit change) l m = (call_of l m ≡ no_call) × Follows change l m uncalled
Decides (Put p) l m =
    (call_of l m ≡ put p.pair p.fields.amount)
    × ((reply : PutReply) → Follows (settling p (on_put reply)) l m (on_put reply))
Decides (Read pair) l m =
    (call_of l m ≡ read pair)
    × ((reply : ReadReply)
    → (read_answered reply ≡ answer_of l m (on_read reply)) × (l ≡ books_after l m (on_read reply)))
