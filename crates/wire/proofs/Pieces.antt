-- The fields that a reader hands out: cut at their places, and zeros where the map lacks them.
use Rattle.std.proofs.Common.{◌≡◌, ℕ, zero, suc, ◌+◌, ◌*◌, ◌<◌, ◌≤◌, true, false, List, length, take, drop, replicate, refl, ap, ◌∙◌, arith, length-drop}
use lib.ListN.{length-replicate}
use Rattle.std.proofs.lemmas.List.{length-take-le}
use Rattle.std.specs.Int.Digits.{number_from_digits, number_from_digits_after}
use Rattle.std.proofs.lemmas.Bool.{cond-true, cond-false, cond_both}
use Rattle.fields.specs.Field.{width, stands, place, length_under}
use Rattle.fields.proofs.Places.{widths_to_room}
use Rattle.wire.specs.Layout.{piece_in}

length_between_part : (bytes : List ℕ) (at wide : ℕ) → at + wide ≤ length bytes → length (take wide (drop at bytes)) ≡ wide
length_between_part bytes at wide within = length-take-le wide (drop at bytes) (simp length-drop (omega arith))

pub piece_there : (map : ℕ) (bytes : List ℕ) (bit : ℕ) → stands map bit ≡ true → piece_in map bytes bit ≡ take (width bit) (drop (place map bit) bytes)
piece_there map bytes bit there = cond-true (stands map bit) _ _ there

pub piece_lacking : (map : ℕ) (bytes : List ℕ) (bit : ℕ) → stands map bit ≡ false → piece_in map bytes bit ≡ replicate (width bit) 0
piece_lacking map bytes bit lacking = cond-false (stands map bit) _ _ lacking

-- zeros write the number 0
zeros_after : (base n : ℕ) → number_from_digits_after base 0 (replicate n 0) ≡ 0
zeros_after base zero = refl
zeros_after base (suc n) =
    let none : 0 * base + 0 ≡ 0 = omega arith in
    ap (λ v. number_from_digits_after base v (replicate n 0)) none ∙ zeros_after base n

pub number_zeros : (base n : ℕ) → number_from_digits base (replicate n 0) ≡ 0
number_zeros base n = zeros_after base n

-- in a message as long as its map says, a field that stands has its width
pub piece_long : (map : ℕ) (bytes : List ℕ) (bit : ℕ) → bit < 16 → length bytes ≡ length_under map → length (piece_in map bytes bit) ≡ width bit
piece_long map bytes bit within long =
    cond_both (stands map bit) _ _ (λ p. length p ≡ width bit)
    (λ there. length_between_part bytes (place map bit) (width bit) (omega (arith, widths_to_room map bit 16 within there, long)))
    (λ _. length-replicate (width bit) 0)
