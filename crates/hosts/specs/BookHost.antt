-- The parts of an account book as a host, from the lists that it has borrowed, and what one put
-- makes of it. Every call is heard.
use Rattle.std.specs.Prelude.{◌≡◌, ℕ, Option}
use Rattle.host.specs.Parts.{Pence, Holdings, Assents, heard_puts}
use Rattle.host.specs.Meaning.{put_answer}
use Rattle.host.specs.declared.Pair.{Pair}
use Rattle.host.specs.declared.PutReply.{PutReply}
use Rattle.hosts.specs.Book.{held_in, book_assents, PlacedAt, written, holds_after}
use Rattle.hosts.specs.declared.account_book.AccountBook.{AccountBook}

abbrev pub book_held : AccountBook → Holdings
book_held book = held_in book.holds.now

abbrev pub book_assent : AccountBook → Assents
book_assent book = book_assents book.accounts.now book.holds.now

abbrev pub BookServes : AccountBook → Pair → Option ℕ → Type 0
BookServes book = PlacedAt book.holds.now

-- an amount is written among the holds; the accounts and the lent list are the same
pub record BookWritten
    (before : AccountBook) (pair : Pair) (amount : Pence) (after : AccountBook)
    : Type 0 where
  pub rows : after.holds.now ≡ written before.holds.now pair amount
  pub accounts : after.accounts ≡ before.accounts
  pub same_list : after.holds.ghost_name ≡ before.holds.ghost_name

-- one put: its reply, the rows after it, and the same accounts and lent list
pub record BookPutStep
    (before : AccountBook) (pair : Pair) (amount : Pence) (r : PutReply) (after : AccountBook)
    : Type 0 where
  pub reply : r ≡ put_answer heard_puts (book_held before) (book_assent before) pair amount
  pub rows : after.holds.now ≡ holds_after before.accounts.now before.holds.now pair amount
  pub accounts : after.accounts ≡ before.accounts
  pub same_list : after.holds.ghost_name ≡ before.holds.ghost_name
