-- An account book by its rows: what is held, what it assents to, and its rows after a put.
use Rattle.std.specs.Prelude.{◌≡◌, ℕ, ◌+◌, ◌<◌, Bool, false, if◌then◌else◌, not, ◌&&◌, ◌==◌, nat_le}
use Rattle.std.specs.Prelude.{List, map, sum_by, length, slice_index_or}
use Rattle.std.specs.Prelude.{Option, Some, None, is_some}
use Rattle.rows.specs.Either.{first_either, set_at}
use Rattle.rows.specs.First.{row_with}
use Rattle.rows.specs.declared.RowKey.{RowKey}
use Rattle.rows.specs.declared.RowKey.TheVariants.{Of, Free}
use Rattle.host.specs.Parts.{Pence, Holdings, Assents, same_card, same_pair}
use Rattle.host.specs.declared.Card.{Card}
use Rattle.host.specs.declared.Pair.{Pair}
use Rattle.hosts.specs.Keeper.{granted}
use Rattle.hosts.specs.declared.account_book.Account.{Account}
use Rattle.hosts.specs.declared.account_book.Hold.{Hold}

-- an account is looked for by its card
abbrev pub is_account : Card → Account → Bool
is_account card account = same_card account.card card

-- a row of amount 0 is free; any other stands for its pair
abbrev pub is_free : Hold → Bool
is_free hold = hold.amount == 0

abbrev pub is_hold : Pair → Hold → Bool
is_hold pair hold = not (is_free hold) && same_pair hold.pair pair

abbrev pub has_key : Hold → RowKey Pair → Bool
has_key hold (Of pair) = is_hold pair hold
has_key hold Free = is_free hold

-- a free row as the book writes it
abbrev pub free_hold : Hold
free_hold = record { pair = record { card = record { number = 0 }; reference = 0 }; amount = 0 }

-- held is the amount of the pair's row
abbrev pub amount_of : Option Hold → Pence
amount_of None = 0
amount_of (Some hold) = hold.amount

abbrev pub held_in : List Hold → Holdings
held_in holds pair = amount_of (row_with (is_hold pair) holds)

-- the card's holds under other references
abbrev pub other_amount : Pair → Hold → Pence
other_amount pair hold =
    if same_card hold.pair.card pair.card && not (hold.pair.reference == pair.reference)
    then hold.amount
    else 0

abbrev pub other_holds : List Hold → Pair → Pence
other_holds holds pair = sum_by (other_amount pair) holds

-- where a hold of the pair is written: its row, else the first free one
abbrev pub place_for : List Hold → Pair → Option ℕ
place_for holds pair = first_either (is_hold pair) is_free holds

-- what stands at that place: the pair's row, or a free one, of amount 0
pub record PlacedAt (holds : List Hold) (pair : Pair) (answer : Option ℕ) : Type 0 where
  pub place : answer ≡ place_for holds pair
  pub within : (place : ℕ) → answer ≡ Some place → place < length holds
  pub held : (place : ℕ) (d : Hold)
      → answer ≡ Some place → held_in holds pair ≡ (slice_index_or holds place d).amount
  pub nothing : answer ≡ None → held_in holds pair ≡ 0

-- the first account with the card counts
abbrev pub covered : Option Account → Pence → Bool
covered None sum = false
covered (Some account) sum = nat_le sum account.balance

abbrev pub book_assents : List Account → List Hold → Assents
book_assents accounts holds pair amount =
    covered (row_with (is_account pair.card) accounts) (amount + other_holds holds pair)
    && is_some (place_for holds pair)

-- the rows once a put is done: 0 frees the pair's row, any other amount is written into its place
abbrev pub freed : Pair → Hold → Hold
freed pair hold = if is_hold pair hold then free_hold else hold

abbrev pub written : List Hold → Pair → Pence → List Hold
written holds pair amount =
    if amount == 0
    then map (freed pair) holds
    else set_at (place_for holds pair) (record { pair = pair; amount = amount }) holds

abbrev pub holds_after : List Account → List Hold → Pair → Pence → List Hold
holds_after accounts holds pair amount =
    if granted (held_in holds) (book_assents accounts holds) pair amount
    then written holds pair amount
    else holds
