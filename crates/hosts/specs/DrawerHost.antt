-- The parts of a voucher drawer as a host, from the list that it was lent, and what one put makes
-- of it. Every call is heard.
use Rattle.std.specs.Prelude.{◌≡◌, ℕ, Option}
use Rattle.host.specs.Parts.{Pence, Holdings, Assents, heard_puts}
use Rattle.host.specs.Meaning.{put_answer}
use Rattle.host.specs.declared.Pair.{Pair}
use Rattle.host.specs.declared.PutReply.{PutReply}
use Rattle.hosts.specs.Drawer.{FoundAt, drawer_holds, drawer_assents}
use Rattle.hosts.specs.Drawer.{vouchers_written, vouchers_after}
use Rattle.hosts.specs.declared.voucher_drawer.VoucherDrawer.{VoucherDrawer}

abbrev pub drawer_held : VoucherDrawer → Holdings
drawer_held drawer = drawer_holds drawer.vouchers.now

abbrev pub drawer_assent : VoucherDrawer → Assents
drawer_assent drawer = drawer_assents drawer.vouchers.now

abbrev pub DrawerServes : VoucherDrawer → Pair → Option ℕ → Type 0
DrawerServes drawer pair = FoundAt drawer.vouchers.now pair.card

-- an amount is written into the first voucher with the card; the lent list is the same
pub record DrawerWritten
    (before : VoucherDrawer) (pair : Pair) (amount : Pence) (after : VoucherDrawer)
    : Type 0 where
  pub rows : after.vouchers.now ≡ vouchers_written before.vouchers.now pair amount
  pub same_list : after.vouchers.ghost_name ≡ before.vouchers.ghost_name

-- one put: its reply, the vouchers after it, and the same lent list
pub record DrawerPutStep
    (before : VoucherDrawer) (pair : Pair) (amount : Pence) (r : PutReply) (after : VoucherDrawer)
    : Type 0 where
  pub reply : r ≡ put_answer heard_puts (drawer_held before) (drawer_assent before) pair amount
  pub rows : after.vouchers.now ≡ vouchers_after before.vouchers.now pair amount
  pub same_list : after.vouchers.ghost_name ≡ before.vouchers.ghost_name
