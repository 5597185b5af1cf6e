-- Packing a card and unpacking it are each other's inverse.
use Rattle.std.proofs.Common.{◌≡◌, ℕ, zero, suc, ◌+◌, ◌-◌, ◌*◌, ◌%◌, ◌≤◌, true, ◌&&◌, eqb, ltb, leb, List, [], ◌∷◌, ◌++◌, length, get_or, drop, replicate, sym, refl, ap, ◌∙◌, arith, length-append, length-drop, take-append-drop}
use lib.Arith.{digits_div, digits_mod}
use lib.ListN.{length-replicate}
use Rattle.std.specs.Int.Digits.{number_from_digits, digits_of, AllBelowBase}
use Rattle.std.proofs.lemmas.Nat.{div-add-mod'}
use Rattle.std.proofs.lemmas.Int.Digits.{number_digits_of, all_below_base_digits_of}
use Rattle.std.proofs.lemmas.Bool.{and_parts, and_from, eqb-true, leb-true}
use Rattle.wire.specs.Card.{halves, digits_in, only_fill, card_shaped, well_filled, passes_luhn, well_packed, is_card, card_number, pairs, filled, packed}
use Rattle.wire.proofs.Decimals.{filled_under}
use Rattle.wire.proofs.Halves.{digits_front, digits_filled, shaped_filled}
use Rattle.wire.proofs.Opens.{card_digits}

-- bytes into halves and back
pairs_halves : (bs : List ℕ) → pairs (halves bs) ≡ bs
pairs_halves [] = refl
pairs_halves (b ∷ bs) = ap (λ x. x ∷ pairs (halves bs)) (div-add-mod' b 16) ∙ ap (λ xs. b ∷ xs) (pairs_halves bs)

length_halves : (bs : List ℕ) → length (halves bs) ≡ 2 * length bs
length_halves [] = refl
length_halves (b ∷ bs) = omega (arith, length_halves bs)

-- halves into bytes and back
abbrev Even : List ℕ → Type 0
Even [] = Unit {0}
Even (a ∷ []) = ⊥
Even (a ∷ (b ∷ hs)) = Even hs

halves_pairs : (hs : List ℕ) → Even hs → AllBelowBase 16 hs → halves (pairs hs) ≡ hs
halves_pairs [] even under = refl
halves_pairs (a ∷ []) even under = absurd even
halves_pairs (a ∷ (b ∷ hs)) even under =
    ap (λ x. x ∷ (a * 16 + b) % 16 ∷ halves (pairs hs)) (digits_div a under.1.0)
    ∙ ap (λ x. a ∷ x ∷ halves (pairs hs)) (digits_mod a under.1.0)
    ∙ ap (λ xs. a ∷ b ∷ xs) (halves_pairs hs even under.1.1)

length_pairs : (n : ℕ) (hs : List ℕ) → length hs ≡ 2 * n → (length (pairs hs) ≡ n) × Even hs
length_pairs n [] long = (omega arith, tt)
length_pairs n (a ∷ []) long = absurd (omega arith)
length_pairs zero (a ∷ (b ∷ hs)) long = absurd (omega arith)
length_pairs (suc n) (a ∷ (b ∷ hs)) long = let more = length_pairs n hs (omega arith) in (omega (arith, more.0), more.1)

-- the halves after the digits
fill_is : (hs : List ℕ) → only_fill hs ≡ true → hs ≡ replicate (length hs) 15
fill_is [] fill = refl
fill_is (h ∷ hs) fill =
    let both = and_parts (eqb h 15) (only_fill hs) fill in
    ap (λ x. x ∷ hs) (eqb-true h 15 both.0) ∙ ap (λ xs. 15 ∷ xs) (fill_is hs both.1)

-- ten bytes that hold a card are those that its number is packed into
pub packed_number : (bytes : List ℕ) → length bytes ≡ 10 → well_packed bytes ≡ true → packed (card_number bytes) ≡ bytes
packed_number bytes ten well =
    let hs = halves bytes in
    let ds = digits_in hs in
    let rest = drop (length ds) hs in
    let fill = (and_parts (card_shaped ds) (only_fill rest) (and_parts (well_filled hs) (passes_luhn ds) well).0).1 in
    let left : length rest ≡ 20 - length ds = length-drop (length ds) hs ∙ omega (arith, length_halves bytes) in
    let whole : filled ds ≡ hs =
    ap (λ n. ds ++ replicate n 15) (sym left)
    ∙ ap (λ xs. ds ++ xs) (sym (fill_is rest fill))
    ∙ ap (λ xs. xs ++ rest) (digits_front hs)
    ∙ take-append-drop (length ds) hs in
    ap (λ xs. pairs (filled xs)) (card_digits bytes well) ∙ ap pairs whole ∙ pairs_halves bytes

module _ (card : ℕ) (is : is_card (digits_of 10 card) ≡ true) where
  abbrev ds : List ℕ
  ds = digits_of 10 card

  shaped : card_shaped ds ≡ true
  shaped = (and_parts (card_shaped ds) (passes_luhn ds) is).0

  few : length ds ≤ 19
  few = leb-true (length ds) 19 (and_parts (leb (length ds) 19) (ltb 0 (get_or ds 0 0)) (and_parts (leb 13 (length ds)) (leb (length ds) 19 && ltb 0 (get_or ds 0 0)) shaped).1).0

  long : length (filled ds) ≡ 2 * 10
  long =
      let at = few in
      length-append ds (replicate (20 - length ds) 15) ∙ ap (λ n. length ds + n) (length-replicate (20 - length ds) 15) ∙ omega arith

  unpacked : halves (packed card) ≡ filled ds
  unpacked = halves_pairs (filled ds) (length_pairs 10 (filled ds) long).1 (filled_under card)

  pub packed_ten : length (packed card) ≡ 10
  packed_ten = (length_pairs 10 (filled ds) long).0

  digits_back : digits_in (halves (packed card)) ≡ ds
  digits_back = ap digits_in unpacked ∙ digits_filled ds (all_below_base_digits_of 10 card (omega arith))

  -- a card number that was packed is well packed, and is unpacked again
  pub packed_well : well_packed (packed card) ≡ true
  packed_well =
      and_from (well_filled (halves (packed card))) (passes_luhn (digits_in (halves (packed card))))
      (ap well_filled unpacked ∙ shaped_filled ds (all_below_base_digits_of 10 card (omega arith)) ∙ shaped)
      (ap passes_luhn digits_back ∙ (and_parts (card_shaped ds) (passes_luhn ds) is).1)

  pub number_packed : card_number (packed card) ≡ card
  number_packed = ap (number_from_digits 10) digits_back ∙ number_digits_of 10 card (omega arith)
