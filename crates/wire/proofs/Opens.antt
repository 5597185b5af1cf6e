-- What opening has found out once every check has passed: the message is trimmed, and writing it is not refused.
use Rattle.std.proofs.Common.{◌≡◌, ℕ, ◌≤◌, Bool, true, false, cond, not, ◌&&◌, ◌||◌, ltb, leb, List, [], ◌∷◌, length, get_or, take, drop, replicate, None, sym, refl, ap, ◌∙◌, arith}
use Rattle.std.specs.Int.Digits.{number_from_digits, digits_of}
use Rattle.std.proofs.lemmas.List.{drop_more}
use Rattle.std.proofs.lemmas.Bool.{and_parts, not-false, or_parts, ltb-true, ltb-false, eqb-true, true≢false}
use Rattle.wire.specs.Card.{halves, digits_in, card_shaped, only_fill, well_filled, passes_luhn, well_packed, is_card, card_number}
use Rattle.wire.specs.Checks.{first_failing}
use Rattle.fields.specs.Field.{stands, place}
use Rattle.fields.specs.Kind.{is_kind, map_of, length_of, amount_allowed}
use Rattle.wire.specs.Layout.{piece_in}
use Rattle.wire.specs.Opening.{map_in, kind_in, reserved, opening_checks, message_in}
use Rattle.wire.specs.Writing.{trimmed, writing_checks}
use Rattle.wire.specs.declared.message.Fields.{Fields}
use Rattle.wire.proofs.Chains.{none_fails, passes}
use Rattle.wire.proofs.Decimals.{digits_number}
use Rattle.wire.proofs.Halves.{digits_under}
use Rattle.wire.proofs.Pieces.{number_zeros, piece_there}

-- the digits of the number of a well packed card are those that were packed
pub card_digits : (bytes : List ℕ) → well_packed bytes ≡ true → digits_of 10 (card_number bytes) ≡ digits_in (halves bytes)
card_digits bytes packed =
    let hs = halves bytes in
    let filled = (and_parts (well_filled hs) (passes_luhn (digits_in hs)) packed).0 in
    let shaped = (and_parts (card_shaped (digits_in hs)) (only_fill (drop (length (digits_in hs)) hs)) filled).0 in
    let bounds = (and_parts (leb 13 (length (digits_in hs))) (leb (length (digits_in hs)) 19 && ltb 0 (get_or (digits_in hs) 0 0)) shaped).1 in
    let lead = (and_parts (leb (length (digits_in hs)) 19) (ltb 0 (get_or (digits_in hs) 0 0)) bounds).1 in
    digits_number (digits_in hs) (digits_under hs) (ltb-true 0 (get_or (digits_in hs) 0 0) lead)

pub packed_card : (bytes : List ℕ) → well_packed bytes ≡ true → is_card (digits_of 10 (card_number bytes)) ≡ true
packed_card bytes packed =
    let hs = halves bytes in
    let both = and_parts (well_filled hs) (passes_luhn (digits_in hs)) packed in
    let shaped = (and_parts (card_shaped (digits_in hs)) (only_fill (drop (length (digits_in hs)) hs)) both.0).0 in
    ap is_card (card_digits bytes packed) ∙ ap (λ t. t && passes_luhn (digits_in hs)) shaped ∙ both.1

-- a field that is lacking has the value 0 already
lacking_zero : {A : Type 0} (t : Bool) (f : List ℕ → A) (x z : List ℕ) (d : A) → f z ≡ d → cond t (f (cond t x z)) d ≡ f (cond t x z)
lacking_zero true f x z d zero = refl
lacking_zero false f x z d zero = sym zero

pub record Passed (b : List ℕ) : Type 0 where
  pub long : 3 ≤ length b
  pub first : stands (map_in b) 0 ≡ true
  pub kind : is_kind (kind_in b) ≡ true
  pub mapped : map_in b ≡ map_of (kind_in b)
  pub size : length b ≡ length_of (kind_in b)
  pub card : (stands (map_in b) 4 && not (well_packed (piece_in (map_in b) b 4))) ≡ false
  pub amount : amount_allowed (kind_in b) (number_from_digits 256 (piece_in (map_in b) b 5)) ≡ true

pub passed : (b : List ℕ) → first_failing (opening_checks b) ≡ None → Passed b
passed b none =
    let ok = none_fails (opening_checks b) none in
    let short = or_parts (ltb (length b) 3) (not (stands (map_in b) 0) || reserved (map_in b)) (ok 0) in
    record {
      long = ltb-false (length b) 3 short.0;
      first = not-false _ (or_parts (not (stands (map_in b) 0)) (reserved (map_in b)) short.1).0;
      kind = not-false _ (ok 1);
      mapped = eqb-true (map_in b) (map_of (kind_in b)) (not-false _ (ok 2));
      size = eqb-true (length b) (length_of (kind_in b)) (not-false _ (ok 3));
      card = ok 4;
      amount = not-false _ (ok 5);
    }

module _ (b : List ℕ) (p : Passed b) where
  -- the kind's field stands first
  pub kind_read : (message_in b).kind ≡ kind_in b
  kind_read =
      let long = p.long in
      let there : piece_in (map_in b) b 0 ≡ take 1 (drop 2 b) = piece_there (map_in b) b 0 p.first in
      let cut : drop 2 b ≡ get_or b 2 0 ∷ drop 3 b = drop_more b 2 0 (omega arith) in
      ap (number_from_digits 256) (there ∙ ap (take 1) cut) ∙ omega arith

  own_map : map_of (message_in b).kind ≡ map_in b
  own_map = ap map_of kind_read ∙ sym p.mapped

  abbrev t : ℕ → Bool
  t bit = stands (map_of (message_in b).kind) bit

  abbrev same : (bit : ℕ) → t bit ≡ stands (map_in b) bit
  same bit = ap (λ m. stands m bit) own_map

  keeps : {A : Type 0} (f : List ℕ → A) (bit : ℕ) (x z : List ℕ) (d : A) → f z ≡ d → cond (t bit) (f (cond (stands (map_in b) bit) x z)) d ≡ f (cond (stands (map_in b) bit) x z)
  keeps f bit x z d zero = ap (λ s. cond s (f (cond (stands (map_in b) bit) x z)) d) (same bit) ∙ lacking_zero (stands (map_in b) bit) f x z d zero

  pub trimmed_is : trimmed (message_in b) ≡ message_in b
  trimmed_is =
      let m = message_in b in
      let with : List ℕ → ℕ → ℕ → ℕ → Fields = λ x c a n. record {
        kind = m.kind;
        request = m.request;
        course = m.course;
        xid = x;
        card = c;
        amount = a;
        batch = n;
      } in
      let xid = keeps (λ x. x) 3 (take 20 (drop (place (map_in b) 3) b)) (replicate 20 0) (replicate 20 0) refl in
      let card = keeps card_number 4 (take 10 (drop (place (map_in b) 4) b)) (replicate 10 0) 0 refl in
      let amount = keeps (number_from_digits 256) 5 (take 8 (drop (place (map_in b) 5) b)) (replicate 8 0) 0 (number_zeros 256 8) in
      let batch = keeps (number_from_digits 256) 6 (take 4 (drop (place (map_in b) 6) b)) (replicate 4 0) 0 (number_zeros 256 4) in
      ap (λ x. with x (trimmed m).card (trimmed m).amount (trimmed m).batch) xid
      ∙ ap (λ c. with m.xid c (trimmed m).amount (trimmed m).batch) card
      ∙ ap (λ a. with m.xid m.card a (trimmed m).batch) amount
      ∙ ap (with m.xid m.card m.amount) batch

  card_right : (s w v : Bool) → (w ≡ true → v ≡ true) → (s && not w) ≡ false → (s && not v) ≡ false
  card_right false w v imp ok = refl
  card_right true true v imp ok = ap not (imp refl)
  card_right true false v imp ok = absurd (true≢false ok)

  pub accepted_is : first_failing (writing_checks (message_in b)) ≡ None
  accepted_is =
      passes 3 _ (drop 1 (writing_checks (message_in b))) (ap not (ap is_kind kind_read ∙ p.kind))
      ∙ passes 6 _ (drop 2 (writing_checks (message_in b))) (ap (λ s. s && not (is_card (digits_of 10 (message_in b).card))) (same 4)
      ∙ card_right (stands (map_in b) 4) (well_packed (piece_in (map_in b) b 4)) (is_card (digits_of 10 (message_in b).card)) (packed_card (piece_in (map_in b) b 4)) p.card)
      ∙ passes 7 _ [] (ap not (ap (amount_allowed (message_in b).kind) (ap (λ m. m.amount) trimmed_is) ∙ ap (λ k. amount_allowed k (message_in b).amount) kind_read ∙ p.amount))
