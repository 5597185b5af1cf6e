-- The checks of the content, 6 and 7, once the frame is right.
use Rattle.std.proofs.Common.{◌≡◌, ℕ, Bool, true, false, cond, not, ◌&&◌, List, [], take, drop, is_some, Some, None, Ok, Err, Option, sym, refl, ap, ◌∙◌}
use Rattle.std.specs.Int.Digits.{number_from_digits}
use Rattle.wire.specs.Card.{well_packed, card_number}
use Rattle.wire.specs.Checks.{first_failing, unless}
use Rattle.fields.specs.Field.{stands}
use Rattle.fields.specs.Kind.{kind_number, map_of, amount_allowed}
use Rattle.wire.specs.Layout.{piece_in, parts_in}
use Rattle.wire.specs.Opening.{map_in, kind_in, opening_checks, Framed, fields_with, message_in, opening}
use Rattle.wire.specs.Writing.{trimmed, writing_checks}
use Rattle.fields.specs.declared.kind.Kind.{Kind}
use Rattle.wire.specs.declared.message.Fields.{Fields}
use Rattle.wire.specs.declared.parts.Parts.{Parts}
use Rattle.wire.proofs.Chains.{after_passed, before_failed, passes}
use Rattle.wire.proofs.Halves.{found_one}
use Rattle.wire.proofs.Opens.{passed, trimmed_is, accepted_is}
use Rattle.wire.proofs.Pieces.{piece_lacking}

pub refused_frame : (b : List ℕ) (n : ℕ) → first_failing (take 4 (opening_checks b)) ≡ Some n → opening b ≡ Err n
refused_frame b n failed = ap (λ o. unless o (message_in b)) (before_failed (take 4 (opening_checks b)) (drop 4 (opening_checks b)) n failed)

module _ (b : List ℕ) (k : Kind) (f : Framed b k) (p : Parts) (read : p ≡ parts_in (map_in b) b) where
  abbrev card_part : List ℕ
  card_part = piece_in (map_in b) b 4

  abbrev found_in : ℕ → List ℕ → Option ℕ
  found_in map bytes = cond (stands map 4) (cond (well_packed bytes) (Some (card_number bytes)) None) (Some 0)

  own : (told : Option ℕ) → told ≡ found_in (map_of (kind_number k)) p.card → told ≡ found_in (map_in b) card_part
  own told is = is ∙ ap (λ m. found_in m p.card) (sym f.mapped) ∙ ap (λ q. found_in (map_in b) q.card) read

  at_card : first_failing (opening_checks b) ≡ first_failing (drop 4 (opening_checks b))
  at_card = after_passed (take 4 (opening_checks b)) (drop 4 (opening_checks b)) f.passed

  module _ (card : ℕ) (is : Some card ≡ found_in (map_of (kind_number k)) p.card) where
    right : ((stands (map_in b) 4 && not (well_packed card_part)) ≡ false) × (card ≡ cond (stands (map_in b) 4) (card_number card_part) 0)
    right = found_one (stands (map_in b) 4) (well_packed card_part) (card_number card_part) 0 card (own (Some card) is)

    at_amount : first_failing (opening_checks b) ≡ first_failing (drop 5 (opening_checks b))
    at_amount = at_card ∙ passes 6 _ (drop 5 (opening_checks b)) right.0

    lacking : (t : Bool) → stands (map_in b) 4 ≡ t → cond t (card_number card_part) 0 ≡ card_number card_part
    lacking true e = refl
    lacking false e = sym (ap card_number (piece_lacking (map_in b) b 4 e))

    own_amount : not (amount_allowed (kind_in b) (number_from_digits 256 (piece_in (map_in b) b 5))) ≡ not (amount_allowed (kind_number k) p.amount)
    own_amount = ap (λ n. not (amount_allowed n (number_from_digits 256 (piece_in (map_in b) b 5)))) (sym f.numbered) ∙ ap (λ q. not (amount_allowed (kind_number k) q.amount)) (sym read)

    module _ (allows : Bool) (told : allows ≡ amount_allowed (kind_number k) p.amount) (m : Fields) (made : m ≡ fields_with p card) where
      -- the number that was found is the message's, 0 too where the kind has no card
      fields_are : m ≡ message_in b
      fields_are = made ∙ ap (λ q. fields_with q card) read ∙ ap (fields_with (parts_in (map_in b) b)) (right.1 ∙ lacking (stands (map_in b) 4) refl)

      none_refused : allows ≡ true → first_failing (opening_checks b) ≡ None
      none_refused within = at_amount ∙ passes 7 _ [] (own_amount ∙ ap not (sym told ∙ within))

      pub opened_is : allows ≡ true → Ok m ≡ opening b
      opened_is within = ap Ok fields_are ∙ sym (ap (λ o. unless o (message_in b)) (none_refused within))

      -- so it is trimmed, and writing it is refused by nothing
      pub well_formed : allows ≡ true → (trimmed m ≡ m) × (is_some (first_failing (writing_checks m)) ≡ false)
      well_formed within =
          let ok = passed b (none_refused within) in
          (ap trimmed fields_are ∙ trimmed_is b ok ∙ sym fields_are, ap (λ x. is_some (first_failing (writing_checks x))) fields_are ∙ ap is_some (accepted_is b ok))
