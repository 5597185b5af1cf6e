-- What is known of the width table and of the places that it gives.
use Rattle.std.proofs.Common.{◌≡◌, ℕ, zero, suc, ◌+◌, ◌-◌, ◌*◌, ◌/◌, ◌%◌, ◌^◌, ◌<◌, ◌≤◌, Bool, true, false, cond, ◌&&◌, eqb, leb, ◌⊎◌, List, [], ◌∷◌, get_or, drop, sym, refl, ap, ◌∙◌, inl, inr, ⊎_elim, div-one, add-one, arith}
use native.Mathlib.Nat.{div-eq_of_lt}
use lib.Count.{ones, ones_step}
use Rattle.std.proofs.lemmas.Bool.{and_parts, leb-true, cond_both, cases_lt}
use Rattle.std.proofs.lemmas.Nat.{mod_below, shr-shr}
use Rattle.std.proofs.lemmas.Bool.Decides.{nat_tests}
use Rattle.fields.specs.Field.{widths, bit_of, width, stands, widths_to, place, length_under, fields_to, fields_from}
use Rattle.fields.specs.declared.field.Field.{Field}
use Rattle.fields.specs.declared.field.Field.TheVariants.{Kind}

abbrev pub none_is_above : ℕ → List ℕ → Bool
none_is_above most [] = true
none_is_above most (w ∷ ws) = leb w most && none_is_above most ws

-- a table none of whose entries is above some number, by a test that is computed
pub none_above : (most : ℕ) (ws : List ℕ) → none_is_above most ws ≡ true → (k : ℕ) → get_or ws k 0 ≤ most
none_above most [] all k = omega arith
none_above most (w ∷ ws) all zero = leb-true w most (and_parts (leb w most) (none_is_above most ws) all).0
none_above most (w ∷ ws) all (suc k) = none_above most ws (and_parts (leb w most) (none_is_above most ws) all).1 k

-- no field is wider than an XID
pub width_small : (bit : ℕ) → width bit ≤ 20
width_small bit = none_above 20 widths refl bit

-- the reserved fields take up nothing
pub reserved_width : (n : ℕ) → width (suc (suc (suc (suc (suc (suc (suc (suc n)))))))) ≡ 0
reserved_width n = omega (arith, none_above 0 (drop 8 widths) refl n)

-- the bit of a field in use is one of the sixteen
pub bit_small : (f : Field) → bit_of f < 16
bit_small Kind = omega arith
bit_small _ = omega arith

pub last_or_before : (k n : ℕ) → k < suc n → (k ≡ n) ⊎ (k < n)
last_or_before k n below = ⊎_elim (λ less. inr less) (λ above. inl (omega arith)) (cases_lt k n)

pub widths_to_more : (map n : ℕ) → widths_to map (n + 1) ≡ widths_to map n + cond (stands map n) (width n) 0
widths_to_more map n = rw add-one

pub widths_to_small : (map n : ℕ) → widths_to map n ≤ 20 * n
widths_to_small map zero = omega arith
widths_to_small map (suc n) =
    cond_both (stands map n) (width n) 0 (λ w. widths_to map n + w ≤ 20 * suc n)
    (λ _. omega (arith, widths_to_small map n, width_small n))
    (λ _. omega (arith, widths_to_small map n))

-- a field that stands lies within the fields up to any later bit
pub widths_to_room : (map bit n : ℕ) → bit < n → stands map bit ≡ true → widths_to map bit + width bit ≤ widths_to map n
widths_to_room map bit zero before there = absurd (omega arith)
widths_to_room map bit (suc n) before there =
    ⊎_elim
    (λ same. rw (same) (let here = ap (λ t. widths_to map n + cond t (width n) 0) (rw same at there) in omega (arith, here)))
    (λ below. omega (arith, widths_to_room map bit n below there))
    (last_or_before bit n before)

-- so it ends within a message with this map
pub ends_within : (map : ℕ) (f : Field) → stands map (bit_of f) ≡ true → place map (bit_of f) + width (bit_of f) ≤ length_under map
ends_within map f there = omega (arith, widths_to_room map (bit_of f) 16 (bit_small f) there)

-- no fewer stand up to a later bit
fields_to_grows : (map bit n : ℕ) → bit ≤ n → fields_to map bit ≤ fields_to map n
fields_to_grows map bit zero below = let none : bit ≡ 0 = omega arith in omega (arith, ap (fields_to map) none)
fields_to_grows map bit (suc n) below =
    ⊎_elim
    (λ same. omega (arith, ap (fields_to map) same))
    (λ before. omega (arith, fields_to_grows map bit n (omega arith)))
    (last_or_before bit (suc n) (omega arith))

-- past a field that stands one fewer stands, past a field that is lacking as many
pub fields_from_there : (map bit : ℕ) → bit < 16 → stands map bit ≡ true → fields_from map bit ≡ fields_from map (bit + 1) + 1
unfolding fields_from
fields_from_there map bit within there =
    let one = ap {B = ℕ} (λ t. cond t 1 0) there in
    let next = ap (fields_to map) (add-one bit) in
    omega (arith, one, next, fields_to_grows map (suc bit) 16 (omega arith))

pub fields_from_lacking : (map bit : ℕ) → stands map bit ≡ false → fields_from map (bit + 1) ≡ fields_from map bit
unfolding fields_from
fields_from_lacking map bit lacks = rw add-one (let none = ap {B = ℕ} (λ t. cond t 1 0) lacks in omega (arith, none))

bit_counts : (q : ℕ) → q % 2 ≡ cond (eqb (q % 2) 1) 1 0
bit_counts q = let low = mod_below q 2 (omega arith) in grind (arith, nat_tests)

-- a map of 16 bits, cut at a bit: the ones of its higher part are the fields before that bit
ones_before : (map n : ℕ) → n ≤ 16 → map < 2 ^ 16 → ones (map / 2 ^ (16 - n)) ≡ fields_to map n
unfolding ones
ones_before map zero within small = ap ones (div-eq_of_lt small)
ones_before map (suc n) within small =
    let cut : 16 - suc n ≡ 15 - n = omega arith in
    let next : (15 - n) + 1 ≡ 16 - n = omega arith in
    let q = map / 2 ^ (15 - n) in
    let half : q / 2 ≡ map / 2 ^ (16 - n) = shr-shr map (15 - n) 1 ∙ ap (λ k. map / 2 ^ k) next in
    ap (λ k. ones (map / 2 ^ k)) cut ∙ ones_step q ∙
    omega (arith, bit_counts q, ap ones half, ones_before map n (omega arith) small)

pub ones_are_fields : (map : ℕ) → map < 2 ^ 16 → ones map ≡ fields_to map 16
ones_are_fields map small = sym (ap ones (div-one map)) ∙ ones_before map 16 (omega arith) small
