-- The books by their rows, and what always holds of the rows and of the memory that they stand in.
use Rattle.std.specs.Prelude.{◌≡◌, ◌≤◌, true, length, vec_capacity, vec_items}
use Rattle.rules.specs.Ledger.{Ledger, most_answers, most_batches, most_purchases}
use Rattle.rules.specs.Sound.{all_answers_sound, all_sound, all_within, most_total}
use Rattle.gateway.specs.declared.books.Books.TheInside.{Inside}

-- the rows that the books show
abbrev pub shown : Inside → Ledger
shown b = record {
  purchases = vec_items b.purchases;
  answers = vec_items b.answers;
  batches = vec_items b.batches;
}

pub record Kept (b : Inside) : Type 0 where
  -- there is room for every row
  pub room : most_purchases ≤ vec_capacity b.purchases
  pub memory : most_answers ≤ vec_capacity b.answers
  pub places : most_batches ≤ vec_capacity b.batches
  pub purchases : length (vec_items b.purchases) ≤ most_purchases
  pub few : length (vec_items b.answers) ≤ most_answers
  -- credited is at most captured, and captured at most a message's largest amount
  pub sound : all_sound (vec_items b.purchases) ≡ true
  -- each message that moved a total is remembered, and moved it by a message's largest amount at
  -- most
  pub totals :
      let most = most_total (length (vec_items b.answers)) in
      all_within most (vec_items b.batches) ≡ true
  -- no inquiry is remembered, and the purchase of each message that the host has not answered has a
  -- row
  pub answers : all_answers_sound (vec_items b.purchases) (vec_items b.answers) ≡ true
