-- Laying fields out and reading them by place are each other's inverse.
use Rattle.std.proofs.Common.{◌≡◌, ℕ, zero, suc, ◌+◌, ◌^◌, ◌<◌, ◌≤◌, true, false, cond, List, [], ◌++◌, length, get_or, take, drop, sym, refl, ap, ◌∙◌, ⊎_elim, arith, length-drop, take-append-drop, take-add}
use Rattle.std.specs.Int.Digits.{AllBelowBase}
use Rattle.std.proofs.ByRecursion.{All-take}
use Rattle.std.proofs.lemmas.List.{append_assoc, append-nil, drop-drop, take_all, take_at, drop_at, length-take-le}
use Rattle.std.proofs.lemmas.Bool.{cond-true}
use Rattle.wire.specs.Bytes.{bytes_of}
use Rattle.fields.specs.Field.{width, stands, widths_to, place, length_under}
use Rattle.wire.specs.Layout.{pieces, joined_to, laid, piece_in}
use Rattle.wire.specs.Opening.{map_in}
use Rattle.wire.specs.declared.parts.Parts.{Parts}
use Rattle.wire.proofs.Laying.{Sized, front, length_front, piece_wide}
use Rattle.wire.proofs.Numbers.{number_bytes_of, bytes_of_number}
use Rattle.wire.proofs.Pieces.{piece_there}
use Rattle.fields.proofs.Places.{last_or_before}

-- fields read from bytes, laid out again, are those bytes
module _ (map : ℕ) (ps : List (List ℕ)) (b : List ℕ) (agree : (n : ℕ) → stands map n ≡ true → get_or ps n [] ≡ take (width n) (drop (place map n) b)) where
  joined_read : (n : ℕ) → joined_to map ps n ≡ take (widths_to map n) (drop 2 b)
  joined_read zero = refl
  joined_read (suc n) =
      elim (stands map n) as (λ t. stands map n ≡ t → joined_to map ps n ++ cond t (get_or ps n []) [] ≡ take (widths_to map n + cond t (width n) 0) (drop 2 b)) [
        | true ↦ λ there.
            ap (λ xs. xs ++ get_or ps n []) (joined_read n)
            ∙ ap (λ xs. take (widths_to map n) (drop 2 b) ++ xs) (agree n there ∙ ap (take (width n)) (sym (drop-drop (widths_to map n) 2 b)))
            ∙ sym (take-add (widths_to map n) (width n) (drop 2 b))
        | false ↦ λ lacks. append-nil (joined_to map ps n) ∙ joined_read n ∙ ap (λ k. take k (drop 2 b)) (omega arith)
      ] refl

pub laid_read : (map : ℕ) (p : Parts) (b : List ℕ) → ((n : ℕ) → stands map n ≡ true → get_or (pieces p) n [] ≡ take (width n) (drop (place map n) b)) →
    map ≡ map_in b → length b ≡ length_under map → AllBelowBase 256 b → laid map p ≡ b
laid_read map p b agree is long bytes =
    let two : bytes_of 2 map ≡ take 2 b = ap (bytes_of 2) is ∙ bytes_of_number 2 (take 2 b) (length-take-le 2 b (omega arith)) (All-take (λ x. x < 256) 2 b bytes) in
    let rest : joined_to map (pieces p) 16 ≡ drop 2 b =
    joined_read map (pieces p) b agree 16 ∙ take_all (widths_to map 16) (drop 2 b) (simp length-drop (omega arith)) in
    ap (λ xs. xs ++ joined_to map (pieces p) 16) two ∙ ap (λ xs. take 2 b ++ xs) rest ∙ take-append-drop 2 b

-- fields laid out are found again at their places
module _ (map : ℕ) (p : Parts) (sized : Sized p) where
  -- what follows the first i fields
  tail : (i n : ℕ) → i ≤ n → (t : List ℕ) × (joined_to map (pieces p) n ≡ joined_to map (pieces p) i ++ t)
  tail i zero below =
      let none : i ≡ 0 = omega arith in
      ([], ap (joined_to map (pieces p)) (sym none) ∙ sym (append-nil (joined_to map (pieces p) i)))
  tail i (suc n) below =
      ⊎_elim
      (λ same. ([], ap (joined_to map (pieces p)) (sym same) ∙ sym (append-nil (joined_to map (pieces p) i))))
      (λ before.
      let t = tail i n (omega arith) in
      let x = cond (stands map n) (get_or (pieces p) n []) [] in
      (t.0 ++ x, ap (λ xs. xs ++ x) t.1 ∙ append_assoc (joined_to map (pieces p) i) t.0 x))
      (last_or_before i (suc n) (omega arith))

  pub found_again : (bit : ℕ) → bit < 16 → stands map bit ≡ true → piece_in map (laid map p) bit ≡ get_or (pieces p) bit []
  found_again bit within there =
      let x = get_or (pieces p) bit [] in
      let t = tail (suc bit) 16 (omega arith) in
      let long = length_front map (pieces p) (piece_wide p sized) bit in
      let split : laid map p ≡ front map (pieces p) bit ++ (x ++ t.0) =
      ap (λ xs. bytes_of 2 map ++ xs) (t.1 ∙ ap (λ y. (joined_to map (pieces p) bit ++ y) ++ t.0) (cond-true (stands map bit) x [] there) ∙ append_assoc (joined_to map (pieces p) bit) x t.0)
      ∙ sym (append_assoc (bytes_of 2 map) (joined_to map (pieces p) bit) (x ++ t.0)) in
      piece_there map (laid map p) bit there
      ∙ ap (λ xs. take (width bit) (drop (place map bit) xs)) split
      ∙ ap (take (width bit)) (drop_at (front map (pieces p) bit) (x ++ t.0) (place map bit) long)
      ∙ take_at x t.0 (width bit) (piece_wide p sized bit)

  pub map_again : map < 2 ^ 16 → map_in (laid map p) ≡ map
  map_again small = number_bytes_of 2 map (omega arith)
