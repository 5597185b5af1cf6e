-- The law over what a repeat would get now: its last answer, with no host call and no change of the
-- books.
use Rattle.std.specs.Prelude.{◌≡◌, ℕ, List, Some, Ok, Err, Result, ◌≢◌}
use Rattle.wire.specs.declared.message.Fields.{Fields}
use Rattle.rules.specs.Ledger.{Ledger}
use Rattle.rules.specs.Outcome.{outcome_code}
use Rattle.rules.specs.Rules.{Reply, no_call, call_of, answer_of, books_after}
use Rattle.rules.specs.declared.outcome.Performed.{Performed}
use Rattle.law.specs.History.{Entry, Given, NoInquiry, last_given, opened, short}

-- an answer of the rules, as it is given
abbrev pub full : Performed → Given
full a = record { code = outcome_code a.outcome; amount = Some a.amount }

-- this message, handled again on these books, would get this answer, with no host call and no
-- change of the books
pub record Repeats (m : Fields) (given : Given) (l : Ledger) : Type 0 where
  pub makes_no_call : call_of l m ≡ no_call
  pub same_answer : (reply : Reply) → full (answer_of l m reply) ≡ given
  pub same_books : (reply : Reply) → books_after l m reply ≡ l

-- bytes that hold no message would get the same short answer; handling them touches neither books
-- nor host
abbrev pub RepeatsOf : Result Fields ℕ → Given → Ledger → Type 0
RepeatsOf (Ok m) given l = Repeats m given l
RepeatsOf (Err number) given l = short number ≡ given

-- so it is for all bytes that hold no inquiry and were last answered otherwise than by 25
abbrev pub RepeatsStand : List Entry → Ledger → Type 0
RepeatsStand h l =
    (bytes : List ℕ) → NoInquiry bytes → (given : Given)
    → last_given h bytes ≡ Some given → (given.code ≢ 25) → RepeatsOf (opened bytes) given l
