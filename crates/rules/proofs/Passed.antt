-- What is known of a message that no check from 9 on refuses.
use Rattle.std.proofs.Common.{◌≡◌, ℕ, ◌<◌, ◌≤◌, Bool, true, false, cond, not, ◌&&◌, ◌||◌, eqb, leb, ltb, length, List, [], ◌∷◌, is_some, Some, None, Option, sym, refl, ap, ◌∙◌, subst, arith}
use Rattle.std.proofs.lemmas.Bool.{and_right, leb-false, ltb-false, not-false, or_from, or_parts, true≢false}
use Rattle.std.proofs.Math.Bool.{and-true}
use Rattle.std.specs.List.{list_any}
use Rattle.host.proofs.Meaning.{same_card-true}
use Rattle.wire.specs.declared.message.Fields.{Fields}
use Rattle.rules.specs.Checks.{Check, among, book_checks, refusal, refuses}
use Rattle.rules.specs.Ledger.{Ledger, batch_row, facts_of, most_batches, most_purchases, purchase_of, purchase_row, uncredited}
use Rattle.rules.specs.MessageCard.{message_card}
use Rattle.rules.specs.Outcome.{outcome_code}
use Rattle.rules.specs.declared.outcome.Outcome.{Outcome}
use Rattle.rules.specs.declared.outcome.Outcome.TheVariants.{AmountOutOfBounds, BatchNumberUsed, BatchUnknown, BatchesFull, DuplicateRequest, InDoubt, NotReversible, PiAuthMismatch, PiPreviouslyUsed, PurchasesFull, UnknownXid}

-- whether a row of this outcome refuses a message of this kind
abbrev refuses_by : Outcome → ℕ → List Check → Bool
refuses_by o k = list_any (λ row. eqb (outcome_code row.outcome) (outcome_code o) && refuses k row)

-- where nothing refuses, no row of any outcome does
none_refuses : (o : Outcome) (k : ℕ) (rows : List Check) → refusal k rows ≡ None → refuses_by o k rows ≡ false
none_refuses o k [] none = refl
none_refuses o k (row ∷ rows) none =
    let same = eqb (outcome_code row.outcome) (outcome_code o) in
    elim (refuses k row) as (λ t. cond t (Some row.outcome) (refusal k rows) ≡ None → ((same && t) || refuses_by o k rows) ≡ false) [
      | true ↦ λ here. cc
      | false ↦ λ later. or_from (same && false) _ (and_right same false refl) (none_refuses o k rows later)
    ] none

-- what is not there is nothing
pub nothing_there : {A : Type 0} (o : Option A) → is_some o ≡ false → o ≡ None
nothing_there None is = refl
nothing_there (Some x) is = absurd (true≢false is)

module _ (l : Ledger) (m : Fields) (none : refusal m.kind (book_checks (facts_of l m) m) ≡ None) where
  -- no check of this outcome refuses it
  passed : (o : Outcome) (k : ℕ) → m.kind ≡ k → refuses_by o k (book_checks (facts_of l m) m) ≡ false
  passed o k is = subst (λ j. refuses_by o j (book_checks (facts_of l m) m) ≡ false) is (none_refuses o m.kind (book_checks (facts_of l m) m) none)

  -- so where a kind is among a row's, its cause does not hold
  of_kind : (kinds cause others : Bool) → kinds ≡ true → ((kinds && cause) || others) ≡ false → cause ≡ false
  of_kind kinds cause others is h = (or_parts cause others (ap (λ t. (t && cause) || others) (sym is) ∙ h)).0

  -- what is not above 0 is 0
  at_zero : (n : ℕ) → ltb 0 n ≡ false → n ≡ 0
  at_zero n is = let low = ltb-false 0 n is in omega arith

  -- the books know its purchase; an authorisation need not have one, but if it has, then of its card
  pub known : (k : ℕ) → m.kind ≡ k → among k (2 ∷ 3 ∷ 4 ∷ 5 ∷ 6 ∷ 9 ∷ []) ≡ true → is_some (purchase_row l m) ≡ true
  known k is kinds = not-false _ (of_kind _ _ _ kinds (passed UnknownXid k is))

  pub card_the_same : m.kind ≡ 1 → is_some (purchase_row l m) ≡ true → (purchase_of l m).card ≡ message_card m
  card_the_same is there = same_card-true _ _ (not-false _ (of_kind _ _ _ there (or_parts _ _ (passed PiAuthMismatch 1 is)).1))

  -- the purchase is in no doubt, and has just what the kind asks for
  pub no_doubt : (k : ℕ) → m.kind ≡ k → among k (1 ∷ 2 ∷ 3 ∷ 4 ∷ 5 ∷ 6 ∷ []) ≡ true → (purchase_of l m).doubt ≡ None
  no_doubt k is kinds = nothing_there _ (of_kind _ _ _ kinds (passed InDoubt k is))

  pub nothing_authorised : m.kind ≡ 1 → (purchase_of l m).authorised ≡ 0
  nothing_authorised is = at_zero _ (or_parts _ _ (passed PiPreviouslyUsed 1 is)).0

  pub nothing_captured : (k : ℕ) → m.kind ≡ k → among k (2 ∷ 3 ∷ []) ≡ true → (purchase_of l m).captured ≡ 0
  nothing_captured k is kinds = at_zero _ (of_kind _ _ _ kinds (passed DuplicateRequest k is))

  -- the amount is within bounds
  pub captures_within : m.kind ≡ 3 → m.amount ≤ (purchase_of l m).authorised
  captures_within is = ltb-false _ _ (or_parts _ _ (passed AmountOutOfBounds 3 is)).0

  pub credits_within : m.kind ≡ 5 → m.amount ≤ uncredited (purchase_of l m)
  credits_within is = ltb-false _ _ (or_parts _ _ (passed AmountOutOfBounds 5 is)).0

  pub uncredits_within : m.kind ≡ 6 → m.amount ≤ (purchase_of l m).credited
  uncredits_within is = ltb-false _ _ (or_parts _ _ (passed AmountOutOfBounds 6 is)).0

  -- the books know its batch
  pub batch_known : (k : ℕ) → m.kind ≡ k → among k (3 ∷ 4 ∷ 5 ∷ 6 ∷ 8 ∷ []) ≡ true → is_some (batch_row l m) ≡ true
  batch_known k is kinds = not-false _ (of_kind _ _ _ kinds (passed BatchUnknown k is))

  -- a capture reversal finds nothing credited
  pub nothing_credited : m.kind ≡ 4 → (purchase_of l m).credited ≡ 0
  nothing_credited is = at_zero _ (or_parts _ _ (or_parts _ _ (passed NotReversible 4 is)).0).0

  -- an authorisation reversal asks less than is authorised
  pub lowers : m.kind ≡ 2 → m.amount < (purchase_of l m).authorised
  lowers is = leb-false _ _ (or_parts _ _ (passed AmountOutOfBounds 2 is)).0

  -- a batch open finds no batch of its number
  pub batch_is_new : m.kind ≡ 7 → batch_row l m ≡ None
  batch_is_new is = nothing_there _ (or_parts _ _ (passed BatchNumberUsed 7 is)).0

  -- there is room for a new purchase, and for a new batch
  pub purchases_room : m.kind ≡ 1 → is_some (purchase_row l m) ≡ false → length l.purchases < most_purchases
  purchases_room is new =
      let full = leb most_purchases (length l.purchases) in
      leb-false _ _ (sym (and-true full) ∙ ap (λ t. full && not t) (sym new) ∙ (or_parts _ _ (passed PurchasesFull 1 is)).0)

  pub batches_room : m.kind ≡ 7 → length l.batches < most_batches
  batches_room is = leb-false _ _ (or_parts _ _ (passed BatchesFull 7 is)).0
