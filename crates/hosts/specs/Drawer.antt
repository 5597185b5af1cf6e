-- A voucher drawer by its rows: what is held, what it assents to, and its rows after a put.
use Rattle.std.specs.Prelude.{◌≡◌, ℕ, Bool, false, if◌then◌else◌, ◌&&◌, ◌||◌, ◌==◌, nat_le}
use Rattle.std.specs.Prelude.{List, length, slice_index_or, Option, Some, None}
use Rattle.std.specs.List.{AllWithin}
use Rattle.rows.specs.First.{Found, row_with, update_first}
use Rattle.host.specs.Parts.{ReferenceNumber, Pence, Holdings, Assents, same_card}
use Rattle.host.specs.declared.Card.{Card}
use Rattle.host.specs.declared.Pair.{Pair}
use Rattle.hosts.specs.Keeper.{granted}
use Rattle.hosts.specs.declared.voucher_drawer.Voucher.{Voucher}

-- the first voucher with the card counts
abbrev pub is_voucher : Card → Voucher → Bool
is_voucher card voucher = same_card voucher.card card

-- what a search for a card's voucher has answered
pub record FoundAt (vouchers : List Voucher) (card : Card) (answer : Option ℕ) : Type 0 where
  pub found : (place : ℕ) → answer ≡ Some place → Found (is_voucher card) vouchers place
  pub voucher : (place : ℕ) (d : Voucher)
      → answer ≡ Some place
      → row_with (is_voucher card) vouchers ≡ Some (slice_index_or vouchers place d)
  pub none : answer ≡ None → row_with (is_voucher card) vouchers ≡ None
  pub absent : answer ≡ None
      → AllWithin (λ voucher. is_voucher card voucher ≡ false) vouchers 0 (length vouchers)

-- a voucher that was never used
abbrev pub unused : Voucher → Voucher
unused voucher = record voucher { reference = 0; held = 0 }

-- held is 0 under any reference but the voucher's
abbrev pub held_under : ReferenceNumber → Option Voucher → Pence
held_under reference None = 0
held_under reference (Some voucher) = if voucher.reference == reference then voucher.held else 0

abbrev pub drawer_holds : List Voucher → Holdings
drawer_holds vouchers pair =
    held_under pair.reference (row_with (is_voucher pair.card) vouchers)

-- assent is up to the face, while the voucher holds nothing or has that reference
abbrev pub raisable : ReferenceNumber → Pence → Option Voucher → Bool
raisable reference amount None = false
raisable reference amount (Some voucher) =
    nat_le amount voucher.face && (voucher.held == 0 || voucher.reference == reference)

abbrev pub drawer_assents : List Voucher → Assents
drawer_assents vouchers pair amount =
    raisable pair.reference amount (row_with (is_voucher pair.card) vouchers)

-- a voucher once a put of 0 is done: held is cleared, under its own reference alone
abbrev pub cleared : ReferenceNumber → Voucher → Voucher
cleared reference voucher =
    if voucher.reference == reference then record voucher { held = 0 } else voucher

-- and once any put is done: an amount above 0 is written with its reference
abbrev pub changed : ReferenceNumber → Pence → Voucher → Voucher
changed reference amount voucher =
    if amount == 0
    then cleared reference voucher
    else record voucher { reference = reference; held = amount }

-- the vouchers once it is done, and after any put
abbrev pub vouchers_written : List Voucher → Pair → Pence → List Voucher
vouchers_written vouchers pair amount =
    update_first (is_voucher pair.card) (changed pair.reference amount) vouchers

abbrev pub vouchers_after : List Voucher → Pair → Pence → List Voucher
vouchers_after vouchers pair amount =
    if granted (drawer_holds vouchers) (drawer_assents vouchers) pair amount
    then vouchers_written vouchers pair amount
    else vouchers
