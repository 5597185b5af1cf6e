-- A range split: whose card it is, what one call makes of it, and its four parts, which are those
-- of the card's side.
use Rattle.std.specs.Prelude.{◌≡◌, ℕ, Bool, true, false, if◌then◌else◌, ◌&&◌, nat_le}
use Rattle.host.specs.Parts.{Holdings, Assents, PutFates, ReadFates, PutSteps, ReadSteps}
use Rattle.host.specs.declared.Card.{Card}
use Rattle.layers.specs.Digits.{leading_six}
use Rattle.layers.specs.declared.range_split.RangeSplit.{RangeSplit}

-- the leading six digits of a card number lie between two bounds, ends included
abbrev pub between : ℕ → ℕ → ℕ → Bool
between low high number = nat_le low (leading_six number) && nat_le (leading_six number) high

module _ {L R : Type 0} where
  -- a card's side goes by its number
  abbrev pub is_left : RangeSplit L R → Card → Bool
  is_left split card = between split.low split.high card.number

  -- one call for a card: made once at its side, and the other side and the bounds are the same
  pub record SplitStep
      {A : Type 0} (left : L → A → L → Type 0) (right : R → A → R → Type 0)
      (before : RangeSplit L R) (card : Card) (answer : A) (after : RangeSplit L R)
      : Type 0 where
    pub low : after.low ≡ before.low
    pub high : after.high ≡ before.high
    pub at_left : is_left before card ≡ true
        → left before.left answer after.left × (after.right ≡ before.right)
    pub at_right : is_left before card ≡ false
        → right before.right answer after.right × (after.left ≡ before.left)

  abbrev pub split_put_step : PutSteps L → PutSteps R → PutSteps (RangeSplit L R)
  split_put_step left right before pair amount answer after =
      SplitStep
      (λ host reply host'. left host pair amount reply host')
      (λ host reply host'. right host pair amount reply host')
      before pair.card answer after

  abbrev pub split_read_step : ReadSteps L → ReadSteps R → ReadSteps (RangeSplit L R)
  split_read_step left right before pair answer after =
      SplitStep
      (λ host reply host'. left host pair reply host')
      (λ host reply host'. right host pair reply host')
      before pair.card answer after

  -- both sides send on, and the bounds are the same
  pub record SplitSends
      (left : L → L → Type 0) (right : R → R → Type 0) (before after : RangeSplit L R)
      : Type 0 where
    pub at_left : left before.left after.left
    pub at_right : right before.right after.right
    pub low : after.low ≡ before.low
    pub high : after.high ≡ before.high

  abbrev pub split_held : (L → Holdings) → (R → Holdings) → RangeSplit L R → Holdings
  split_held left right split pair =
      if is_left split pair.card then left split.left pair else right split.right pair

  abbrev pub split_assent : (L → Assents) → (R → Assents) → RangeSplit L R → Assents
  split_assent left right split pair amount =
      if is_left split pair.card
      then left split.left pair amount
      else right split.right pair amount

  abbrev pub split_put_fate : (L → PutFates) → (R → PutFates) → RangeSplit L R → PutFates
  split_put_fate left right split pair amount =
      if is_left split pair.card
      then left split.left pair amount
      else right split.right pair amount

  abbrev pub split_read_fate : (L → ReadFates) → (R → ReadFates) → RangeSplit L R → ReadFates
  split_read_fate left right split pair =
      if is_left split pair.card then left split.left pair else right split.right pair
