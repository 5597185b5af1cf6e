-- What handling bytes answers and writes, and what it leaves in the strip, in the books and in the
-- host, by its three cases: no room, bytes that hold no message, and a message that is performed.
use Rattle.std.specs.Prelude.{◌≡◌, ℕ, Bool, true, false, ◌||◌, List, length, Some, None, Ok, Err, Option, Result, nat_lt}
use Rattle.fields.specs.Field.{length_under}
use Rattle.fields.specs.Kind.{kind_number}
use Rattle.fields.specs.Refusal.{refusal_number}
use Rattle.host.specs.Parts.{Holdings}
use Rattle.host.specs.declared.Host.{Ghosts as HostMeaning}
use Rattle.wire.specs.Answer.{full_into, full_map, short_into}
use Rattle.wire.specs.Buffer.{over_front}
use Rattle.wire.specs.Strip.{blanked, strip_length}
use Rattle.wire.specs.declared.answer.Answer.{Answer}
use Rattle.wire.specs.declared.message.Fields.{Fields}
use Rattle.rules.specs.Ledger.{Ledger}
use Rattle.rules.specs.Outcome.{outcome_code}
use Rattle.rules.specs.Rules.{answer_of, call_of}
use Rattle.rules.specs.declared.outcome.Performed.{Performed}
use Rattle.law.specs.Repeats.{full}
use Rattle.law.specs.Carried.{CarriesLaw, KeepsLaw}
use Rattle.law.specs.History.{Given, short}
use Rattle.gateway.specs.Performing.{Performs, reply}
use Rattle.gateway.specs.declared.handled.Handled.{Handled}
use Rattle.gateway.specs.declared.handled.Handled.TheVariants.{NoRoom, Short, Full}

-- the number and the amount that each case of what was handled stands for; number 1 is answered
-- alone
abbrev pub given_by : Handled → Given
given_by NoRoom = short 1
given_by (Short refusal) = short (refusal_number refusal)
given_by (Full kind a) = full a

-- the kind of the message that was performed
abbrev pub kind_by : Handled → Option ℕ
kind_by NoRoom = None
kind_by (Short refusal) = None
kind_by (Full kind a) = Some (kind_number kind)

-- check 1: the answer buffer is shorter than a full answer, or the strip is too short
abbrev pub no_room : List ℕ → List ℕ → Bool
no_room buffer strip =
    nat_lt (length buffer) (length_under full_map) || nat_lt (length strip) strip_length

-- the fields of a full answer
abbrev pub answer_to : Fields → Performed → Answer
answer_to m a = record {
  kind = m.kind;
  request = m.request;
  course = m.course;
  amount = a.amount;
  code = outcome_code a.outcome;
}

-- over a host, by its meaning, from what is before handling to what is after it
module _ {H : Type 0} (h : HostMeaning H) (l : Ledger) (host : H) (buffer strip : List ℕ)
    (r : Handled) (l' : Ledger) (host' : H) (buffer' strip' : List ℕ) where
  -- without room nothing is done
  pub record DoesNothing : Type 0 where
    pub answer : r ≡ NoRoom
    pub same_buffer : buffer' ≡ buffer
    pub same_strip : strip' ≡ strip
    pub same_books : l' ≡ l
    pub same_host : host' ≡ host

  -- bytes that hold no message: the number of their refusal is answered, and books and host stay
  pub record Refuses (number : ℕ) : Type 0 where
    pub answer : given_by r ≡ short number
    pub kind : kind_by r ≡ None
    pub written : buffer' ≡ over_front (short_into (length buffer) number) buffer
    pub blank : strip' ≡ blanked strip
    pub same_books : l' ≡ l
    pub same_host : host' ≡ host

  -- a message: it is performed by the rules, with this answer, which is written in full
  pub record Answers (m : Fields) (a : Performed) : Type 0 where
    pub answer : given_by r ≡ full a
    pub kind : kind_by r ≡ Some m.kind
    pub rules : Performs h m l host a l' host'
    pub written : buffer' ≡ over_front (full_into (length buffer) (answer_to m a)) buffer
    pub blank : strip' ≡ blanked strip

  -- handling, by whether there was no room and by what the bytes hold
  abbrev pub Handles : Bool → Result Fields ℕ → Type 0
  Handles true o = DoesNothing
  Handles false (Err number) = Refuses number
  Handles false (Ok m) = Answers m (answer_of l m (reply h host (call_of l m)))

-- bytes that were handled carry the law; a call without room does not count, and leaves the law
-- standing
abbrev pub HandlesLaw : {H : Type 0} → Bool → (H → Holdings) → List ℕ → Given
    → Ledger → H → Ledger → H → Type 0
HandlesLaw true held bytes given l host l' host' = KeepsLaw held l host l' host'
HandlesLaw false held bytes given l host l' host' = CarriesLaw held bytes given l host l' host'
