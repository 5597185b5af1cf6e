-- The worked examples: a meeting over an account book, and two cases of a bad line over it, by the
-- rules and the rows.
use Rattle.std.specs.Prelude.{◌≡◌, ℕ, List, [], ◌∷◌, ◌++◌, replicate}
use Rattle.std.specs.Prelude.{Option, Some, None, Result, Ok, Err}
use Rattle.host.specs.declared.Card.{Card}
use Rattle.host.specs.declared.Fate.{Fate}
use Rattle.host.specs.declared.Fate.TheVariants.{Heard, LostGoing, LostReturning}
use Rattle.hosts.specs.Book.{held_in, book_assents, holds_after, free_hold}
use Rattle.hosts.specs.declared.account_book.Account.{Account}
use Rattle.hosts.specs.declared.account_book.Hold.{Hold}
use Rattle.layers.specs.Line.{next_fate, spent, fate_on_line as line_fate}
use Rattle.wire.specs.Opening.{opening}
use Rattle.wire.specs.Bytes.{bytes_of}
use Rattle.wire.specs.declared.message.Fields.{Fields}
use Rattle.rules.specs.Ledger.{Ledger, no_ledger}
use Rattle.rules.specs.Outcome.{outcome_code}
use Rattle.rules.specs.Rules.{Call, no_call, put, read, Reply}
use Rattle.rules.specs.Rules.{reply_of, call_of, answer_of, books_after}
use Rattle.rules.specs.declared.outcome.Performed.{Performed}

-- the course is 9, the XIDs are twenty 01 and twenty 02, the batch is 7 where none is named
abbrev pub card : Card
card = record { number = 4111111111111111 }

abbrev pub P : List ℕ
P = replicate 20 1

abbrev pub Q : List ℕ
Q = replicate 20 2

-- the account book's accounts
abbrev accounts : List Account
accounts = (record { card = card; balance = 5000 }) ∷ []

-- the books, the account book's rows, and the marks of a bad line over it
pub record World : Type 0 where
  pub books : Ledger
  pub holds : List Hold
  pub marks : List ℕ

abbrev pub fresh : List ℕ → World
fresh marks =
    record { books = no_ledger; holds = replicate 4 free_hold; marks = marks }

-- what the line over the book makes of a call: its reply, and the rows and marks after
abbrev fate : World → Fate
fate w = line_fate (next_fate w.marks) Heard

abbrev reply_to : World → Call → Reply
reply_to w call =
    reply_of (λ pair amount. fate w) (λ pair. fate w)
    (held_in w.holds) (book_assents accounts w.holds) call

abbrev reaches : Fate → List Hold → List Hold → List Hold
reaches Heard holds after = after
reaches LostGoing holds after = holds
reaches LostReturning holds after = after

abbrev holds_by : World → Call → List Hold
holds_by w no_call = w.holds
holds_by w (put pair amount) =
    reaches (fate w) w.holds (holds_after accounts w.holds pair amount)
holds_by w (read pair) = w.holds

abbrev marks_by : World → Call → List ℕ
marks_by w no_call = w.marks
marks_by w (put pair amount) = spent w.marks
marks_by w (read pair) = spent w.marks

abbrev pub after : World → Fields → World
after w m = record {
  books = books_after w.books m (reply_to w (call_of w.books m));
  holds = holds_by w (call_of w.books m);
  marks = marks_by w (call_of w.books m);
}

-- the line that is printed: a code and an amount, or a code alone for bytes that are not opened
abbrev line : Performed → ℕ × Option ℕ
line a = (outcome_code a.outcome, Some a.amount)

abbrev pub line_of : World → Result Fields ℕ → ℕ × Option ℕ
line_of w (Ok m) = line (answer_of w.books m (reply_to w (call_of w.books m)))
line_of w (Err n) = (n, None)

abbrev pub world_of : World → Result Fields ℕ → World
world_of w (Ok m) = after w m
world_of w (Err n) = w

-- bytes are handled one after the other
abbrev pub lines : World → List (List ℕ) → List (ℕ × Option ℕ)
lines w [] = []
lines w (bytes ∷ rest) = line_of w (opening bytes) ∷ lines (world_of w (opening bytes)) rest

-- the messages, byte by byte
abbrev card_bytes : List ℕ
card_bytes = 0x41 ∷ 0x11 ∷ 0x11 ∷ 0x11 ∷ 0x11 ∷ 0x11 ∷ 0x11 ∷ 0x11 ∷ 0xFF ∷ 0xFF ∷ []

abbrev asked : ℕ → ℕ → List ℕ
asked kind request = kind ∷ bytes_of 8 request ++ bytes_of 4 9

abbrev pub authorisation : ℕ → List ℕ → ℕ → List ℕ
authorisation request xid amount =
    0xFC ∷ 0x00 ∷ (asked 1 request ++ (xid ++ (card_bytes ++ bytes_of 8 amount)))

abbrev reversal : ℕ → List ℕ → ℕ → List ℕ
reversal request xid amount = 0xF4 ∷ 0x00 ∷ (asked 2 request ++ (xid ++ bytes_of 8 amount))

abbrev money : ℕ → ℕ → List ℕ → ℕ → List ℕ
money kind request xid amount =
    0xF6 ∷ 0x00 ∷ (asked kind request ++ (xid ++ (bytes_of 8 amount ++ bytes_of 4 7)))

abbrev pub capture : ℕ → List ℕ → ℕ → List ℕ
capture = money 3

abbrev credit : ℕ → List ℕ → ℕ → List ℕ
credit = money 5

-- a capture reversal, a batch open and a batch close, of a batch by its number
abbrev pub capture_reversal : ℕ → List ℕ → ℕ → List ℕ
capture_reversal request xid number = 0xF2 ∷ 0x00 ∷ (asked 4 request ++ (xid ++ bytes_of 4 number))

abbrev batch : ℕ → ℕ → ℕ → List ℕ
batch kind request number = 0xE2 ∷ 0x00 ∷ (asked kind request ++ bytes_of 4 number)

abbrev pub batch_open : ℕ → ℕ → List ℕ
batch_open = batch 7

abbrev pub batch_close : ℕ → ℕ → List ℕ
batch_close = batch 8

-- the eleven messages of the meeting
abbrev pub meeting : List (List ℕ)
meeting =
    authorisation 1 P 3000
    ∷ authorisation 1 P 3000
    ∷ authorisation 2 Q 2001
    ∷ authorisation 1 P 2999
    ∷ batch_open 3 7
    ∷ capture 4 P 3001
    ∷ capture 5 P 3000
    ∷ credit 6 P 1200
    ∷ capture_reversal 7 P 7
    ∷ batch_close 8 7
    ∷ (0 ∷ [])
    ∷ []

-- the cases of the line: an authorisation, a reversal, and the authorisation repeated
abbrev pub repeated : List (List ℕ)
repeated = authorisation 1 P 3000 ∷ reversal 2 P 2000 ∷ authorisation 1 P 3000 ∷ []

abbrev pub held_after_first : List ℕ → ℕ
held_after_first marks =
    held_in (world_of (fresh marks) (opening (authorisation 1 P 3000))).holds
    (record { card = card; reference = 1 })

abbrev pub answer : ℕ → ℕ → ℕ × Option ℕ
answer code amount = (code, Some amount)

pub record WorkedExamples : Type 0 where
  pub sample_meeting :
      lines (fresh []) meeting
      ≡ answer 0 3000
      ∷ answer 0 3000
      ∷ answer 24 2001
      ∷ answer 8 2999
      ∷ answer 0 0
      ∷ answer 18 0
      ∷ answer 0 3000
      ∷ answer 0 1800
      ∷ answer 21 0
      ∷ answer 0 1800
      ∷ (2, None)
      ∷ []
  -- the answer was lost: the stake is held, and the repeat finds it so
  pub lost_returning :
      lines (fresh (2 ∷ [])) repeated ≡ answer 25 3000 ∷ answer 12 0 ∷ answer 0 3000 ∷ []
  pub lost_returning_holds : held_after_first (2 ∷ []) ≡ 3000
  -- the message was lost: nothing is held, and the repeat holds it
  pub lost_going :
      lines (fresh (1 ∷ [])) repeated ≡ answer 25 3000 ∷ answer 12 0 ∷ answer 0 3000 ∷ []
  pub lost_going_holds : held_after_first (1 ∷ []) ≡ 0
