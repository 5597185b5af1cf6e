-- The invariant by which the law is carried: the books and holds that a history leads to, from
-- empty books over a host that holds nothing, with fates and assents free at each call. The calls'
-- clauses promise that it begins when a gateway is made, that each message carries it on, and that
-- the law stands wherever it holds.
use Rattle.std.specs.Prelude.{◌≡◌, ℕ, List, [], ◌∷◌, Ok, Err, Result}
use Rattle.host.specs.Meaning.{PutMeans, ReadMeans}
use Rattle.host.specs.Parts.{Assents, Holdings, HoldsNothing, PutFates, ReadFates, SameHeld}
use Rattle.host.specs.declared.PutReply.{PutReply}
use Rattle.host.specs.declared.ReadReply.{ReadReply}
use Rattle.wire.specs.RoundTrip.{Bytes}
use Rattle.wire.specs.declared.message.Fields.{Fields}
use Rattle.rules.specs.Ledger.{Ledger, no_ledger}
use Rattle.rules.specs.Rules.{Call, Reply, answer_of, books_after, call_of, no_call, on_put, on_read, put, read, uncalled}
use Rattle.law.specs.Repeats.{full}
use Rattle.law.specs.History.{Entry, Given, opened, short}

-- what a call may reply, and what is held after it, by the meaning of a host with any fates and
-- assents
abbrev pub Replies : Call → Reply → Holdings → Holdings → Type 0
Replies no_call reply held held' = (reply ≡ uncalled) × SameHeld held' held
Replies (put pair amount) reply held held' =
    (r : PutReply) × (fates : PutFates) × (assents : Assents) × (reply ≡ on_put r)
    × PutMeans fates held assents held' pair amount r
Replies (read pair) reply held held' =
    (r : ReadReply) × (fates : ReadFates) × (reply ≡ on_read r)
    × ReadMeans fates held held' pair r

-- an opened message is performed by the rules
pub record PerformedByRules (m : Fields) (given : Given)
    (l : Ledger) (held : Holdings) (l' : Ledger) (held' : Holdings) : Type 0 where
  pub reply : Reply
  pub called : Replies (call_of l m) reply held held'
  pub answer : given ≡ full (answer_of l m reply)
  pub books : l' ≡ books_after l m reply

-- bytes that are not opened get the number of the check that failed, and move nothing
pub record RefusedAtOpening (number : ℕ) (given : Given)
    (l : Ledger) (held : Holdings) (l' : Ledger) (held' : Holdings) : Type 0 where
  pub answer : given ≡ short number
  pub books : l' ≡ l
  pub same : SameHeld held' held

abbrev pub HandledByRules : Result Fields ℕ → Given → Ledger → Holdings → Ledger → Holdings → Type 0
HandledByRules (Ok m) = PerformedByRules m
HandledByRules (Err number) = RefusedAtOpening number

-- books and holds, reached by this history
abbrev pub Reached : List Entry → Ledger → Holdings → Type 0
Reached [] l held = (l ≡ no_ledger) × HoldsNothing held
Reached (e ∷ h) l held =
    (l₀ : Ledger) × (held₀ : Holdings) × Reached h l₀ held₀ × Bytes e.bytes
    × HandledByRules (opened e.bytes) e.given l₀ held₀ l held
