-- Worked examples of the account book and the voucher drawer, on rows that are written out.
use Rattle.std.specs.Prelude.{◌≡◌, List, [], ◌∷◌}
use Rattle.host.specs.Parts.{ReferenceNumber, Pence, heard_puts}
use Rattle.host.specs.Meaning.{put_answer}
use Rattle.host.specs.declared.Card.{Card}
use Rattle.host.specs.declared.Pair.{Pair}
use Rattle.host.specs.declared.PutReply.{PutReply}
use Rattle.host.specs.declared.PutReply.TheVariants.{Done, Refused}
use Rattle.hosts.specs.Book.{held_in, book_assents, holds_after, free_hold}
use Rattle.hosts.specs.Drawer.{drawer_holds, drawer_assents, vouchers_after}
use Rattle.hosts.specs.declared.account_book.Account.{Account}
use Rattle.hosts.specs.declared.account_book.Hold.{Hold}
use Rattle.hosts.specs.declared.voucher_drawer.Voucher.{Voucher}

-- one card, and its pair under a reference
abbrev card : Card
card = record { number = 4111111111111111 }

abbrev under : ReferenceNumber → Pair
under reference = record { card = card; reference = reference }

-- one account of 5000, and four rows
abbrev accounts : List Account
accounts = (record { card = card; balance = 5000 }) ∷ []

abbrev row : ReferenceNumber → Pence → Hold
row reference amount = record { pair = under reference; amount = amount }

abbrev rows : Hold → Hold → List Hold
rows first second = first ∷ second ∷ free_hold ∷ free_hold ∷ []

abbrev book_reply : List Hold → ReferenceNumber → Pence → PutReply
book_reply holds reference amount =
    put_answer heard_puts (held_in holds) (book_assents accounts holds) (under reference) amount

abbrev book_after : List Hold → ReferenceNumber → Pence → List Hold
book_after holds reference amount = holds_after accounts holds (under reference) amount

-- the rows before a put, its reference and amount, the answer, and the rows after
abbrev BookPut : List Hold → ReferenceNumber → Pence → PutReply → List Hold → Type 0
BookPut holds reference amount reply after =
    (book_reply holds reference amount ≡ reply) × (book_after holds reference amount ≡ after)

pub record BookExample : Type 0 where
  pub raise : BookPut (rows free_hold free_hold) 1 3000 Done (rows (row 1 3000) free_hold)
  pub too_much : BookPut (rows (row 1 3000) free_hold) 2 2001 Refused (rows (row 1 3000) free_hold)
  pub up_to_balance :
      BookPut (rows (row 1 3000) free_hold) 2 2000 Done (rows (row 1 3000) (row 2 2000))
  pub to_none : BookPut (rows (row 1 3000) (row 2 2000)) 1 0 Done (rows free_hold (row 2 2000))
  pub first_free :
      BookPut (rows free_hold (row 2 2000)) 3 3000 Done (rows (row 3 3000) (row 2 2000))

-- one voucher of 800
abbrev voucher : ReferenceNumber → Pence → List Voucher
voucher reference held =
    (record { card = card; face = 800; reference = reference; held = held }) ∷ []

abbrev drawer_reply : List Voucher → ReferenceNumber → Pence → PutReply
drawer_reply vouchers reference amount =
    put_answer heard_puts (drawer_holds vouchers) (drawer_assents vouchers) (under reference) amount

abbrev drawer_after : List Voucher → ReferenceNumber → Pence → List Voucher
drawer_after vouchers reference amount = vouchers_after vouchers (under reference) amount

abbrev DrawerPut : List Voucher → ReferenceNumber → Pence → PutReply → List Voucher → Type 0
DrawerPut vouchers reference amount reply after =
    (drawer_reply vouchers reference amount ≡ reply)
    × (drawer_after vouchers reference amount ≡ after)

pub record DrawerExample : Type 0 where
  pub raise : DrawerPut (voucher 0 0) 7 500 Done (voucher 7 500)
  pub in_use : DrawerPut (voucher 7 500) 8 300 Refused (voucher 7 500)
  pub none_elsewhere : DrawerPut (voucher 7 500) 8 0 Done (voucher 7 500)
  pub to_none : DrawerPut (voucher 7 500) 7 0 Done (voucher 7 0)
  pub next_reference : DrawerPut (voucher 7 0) 8 300 Done (voucher 8 300)
