-- Fields laid out one after the other: what stands in the buffer after each.
use Rattle.std.proofs.Common.{◌≡◌, ℕ, zero, suc, ◌+◌, true, false, cond, List, [], ◌++◌, length, get_or, take, drop, sym, refl, ap, ◌∙◌, arith, length-append}
use Rattle.std.proofs.lemmas.List.{append_assoc, append-nil, drop-drop, take_at, drop_at}
use Rattle.std.proofs.lemmas.Bool.{cond-true, cond-false, cond_both}
use Rattle.wire.specs.Bytes.{bytes_of}
use Rattle.fields.specs.Field.{width, stands, widths_to, place, length_under}
use Rattle.wire.specs.Layout.{pieces, placed, joined_to, laid}
use Rattle.fields.proofs.Places.{reserved_width}
use Rattle.wire.specs.declared.parts.Parts.{Parts}

-- what stands before the field of bit n
abbrev pub front : ℕ → List (List ℕ) → ℕ → List ℕ
front map ps n = bytes_of 2 map ++ joined_to map ps n

-- a buffer with the map and the first n fields laid out in it
abbrev pub laid_to : ℕ → List (List ℕ) → ℕ → List ℕ → List ℕ
laid_to map ps n buffer = front map ps n ++ drop (place map n) buffer

module _ (map : ℕ) (ps : List (List ℕ)) (wide : (n : ℕ) → length (get_or ps n []) ≡ width n) where
  length_joined : (n : ℕ) → length (joined_to map ps n) ≡ widths_to map n
  length_joined zero = refl
  length_joined (suc n) =
      length-append (joined_to map ps n) (cond (stands map n) (get_or ps n []) [])
      ∙ ap (λ k. k + length (cond (stands map n) (get_or ps n []) [])) (length_joined n)
      ∙ ap (λ k. widths_to map n + k) (cond_both (stands map n) (get_or ps n []) [] (λ x. length x ≡ cond (stands map n) (width n) 0)
      (λ there. wide n ∙ sym (cond-true (stands map n) _ _ there))
      (λ lacks. sym (cond-false (stands map n) _ _ lacks)))

  pub length_front : (n : ℕ) → length (front map ps n) ≡ place map n
  length_front n = length-append (bytes_of 2 map) (joined_to map ps n) ∙ ap (λ k. 2 + k) (length_joined n)

  -- what stands after the field of bit n
  drop_front : (n : ℕ) (buffer : List ℕ) → drop (place map n + width n) (laid_to map ps n buffer) ≡ drop (2 + (widths_to map n + width n)) buffer
  drop_front n buffer =
      let regroup : place map n + width n ≡ 2 + (widths_to map n + width n) = omega arith in
      sym (drop-drop (width n) (place map n) (laid_to map ps n buffer))
      ∙ ap (drop (width n)) (drop_at (front map ps n) (drop (place map n) buffer) (place map n) (length_front n))
      ∙ drop-drop (width n) (place map n) buffer
      ∙ ap (λ k. drop k buffer) regroup

  -- one field more
  pub laid_more : (n : ℕ) (entry buffer : List ℕ) → entry ≡ laid_to map ps n buffer → placed map n (get_or ps n []) entry ≡ laid_to map ps (suc n) buffer
  laid_more n entry buffer before =
      let x = get_or ps n [] in
      let long : length (front map ps n) ≡ place map n = length_front n in
      let rest = drop (place map n) buffer in
      let none : place map n ≡ 2 + (widths_to map n + 0) = omega arith in
      ap (placed map n x) before
      ∙ elim (stands map n) as (λ t. cond t (take (place map n) (laid_to map ps n buffer) ++ (x ++ drop (place map n + width n) (laid_to map ps n buffer))) (laid_to map ps n buffer)
      ≡ (bytes_of 2 map ++ (joined_to map ps n ++ cond t x [])) ++ drop (2 + (widths_to map n + cond t (width n) 0)) buffer) [
        | true ↦
            ap (λ xs. xs ++ (x ++ drop (place map n + width n) (laid_to map ps n buffer))) (take_at (front map ps n) rest (place map n) long)
            ∙ ap (λ xs. front map ps n ++ (x ++ xs)) (drop_front n buffer)
            ∙ sym (append_assoc (front map ps n) x (drop (2 + (widths_to map n + width n)) buffer))
            ∙ ap (λ xs. xs ++ drop (2 + (widths_to map n + width n)) buffer) (append_assoc (bytes_of 2 map) (joined_to map ps n) x)
        | false ↦
            ap (λ xs. (bytes_of 2 map ++ xs) ++ rest) (sym (append-nil (joined_to map ps n)))
            ∙ ap (λ k. (bytes_of 2 map ++ (joined_to map ps n ++ [])) ++ drop k buffer) none
      ]

-- a field of no bytes changes nothing, whether it stands or not
laid_past : (map : ℕ) (ps : List (List ℕ)) (n : ℕ) (buffer : List ℕ) → get_or ps n [] ≡ [] → width n ≡ 0 → laid_to map ps n buffer ≡ laid_to map ps (suc n) buffer
laid_past map ps n buffer none thin =
    let piece : cond (stands map n) (get_or ps n []) [] ≡ [] = cond_both (stands map n) (get_or ps n []) [] (λ x. x ≡ []) (λ _. none) (λ _. refl) in
    let wide : cond (stands map n) (width n) 0 ≡ 0 = cond_both (stands map n) (width n) 0 (λ x. x ≡ 0) (λ _. thin) (λ _. refl) in
    let at : place map n ≡ place map (suc n) = omega (arith, wide) in
    ap (λ xs. (bytes_of 2 map ++ xs) ++ drop (place map n) buffer) (sym (append-nil (joined_to map ps n)) ∙ ap (λ x. joined_to map ps n ++ x) (sym piece))
    ∙ ap (λ k. front map ps (suc n) ++ drop k buffer) at

-- the reserved fields have no bytes
pub laid_all : (map : ℕ) (p : Parts) (buffer : List ℕ) → laid_to map (pieces p) 8 buffer ≡ laid_to map (pieces p) 16 buffer
laid_all map p buffer =
    laid_past map (pieces p) 8 buffer refl refl
    ∙ laid_past map (pieces p) 9 buffer refl refl
    ∙ laid_past map (pieces p) 10 buffer refl refl
    ∙ laid_past map (pieces p) 11 buffer refl refl
    ∙ laid_past map (pieces p) 12 buffer refl refl
    ∙ laid_past map (pieces p) 13 buffer refl refl
    ∙ laid_past map (pieces p) 14 buffer refl refl
    ∙ laid_past map (pieces p) 15 buffer refl refl

-- each piece is as long as its field is wide
pub record Sized (p : Parts) : Type 0 where
  pub xid : length p.xid ≡ 20
  pub card : length p.card ≡ 10

pub piece_wide : (p : Parts) → Sized p → (n : ℕ) → length (get_or (pieces p) n []) ≡ width n
piece_wide p s zero = refl
piece_wide p s (suc zero) = refl
piece_wide p s (suc (suc zero)) = refl
piece_wide p s (suc (suc (suc zero))) = s.xid
piece_wide p s (suc (suc (suc (suc zero)))) = s.card
piece_wide p s (suc (suc (suc (suc (suc zero))))) = refl
piece_wide p s (suc (suc (suc (suc (suc (suc zero)))))) = refl
piece_wide p s (suc (suc (suc (suc (suc (suc (suc zero))))))) = refl
piece_wide p s (suc (suc (suc (suc (suc (suc (suc (suc n)))))))) = sym (reserved_width n)

pub length_laid : (map : ℕ) (p : Parts) → Sized p → length (laid map p) ≡ length_under map
length_laid map p s = length_front map (pieces p) (piece_wide p s) 16
