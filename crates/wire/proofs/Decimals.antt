-- The decimal digits of a card number, written from the last to the first.
use Rattle.std.proofs.Common.{◌≡◌, ℕ, zero, suc, ◌+◌, ◌-◌, ◌*◌, ◌/◌, ◌%◌, ◌^◌, ◌<◌, ◌≤◌, ◌&&◌, leb, Option, Some, None, List, [], ◌∷◌, ◌++◌, length, get_or, take, drop, set, replicate, sym, refl, ap, ◌∙◌, ⊎_elim, pow-suc, add-one, arith, length-set}
use lib.Arith.{digits_div, digits_mod}
use native.Mathlib.Nat.{pow-le-pow_right}
use lib.ListN.{length-replicate}
use Rattle.std.specs.Int.Digits.{digits_of, number_from_digits as number, AllBelowBase}
use Rattle.std.proofs.lemmas.Int.Digits.{digits_of_step, length-digits_of_step, length-digits_of-le, all_below_base_digits_of, number_digits_of, number_lt, number_push, number_after_ge, first_digits_of}
use Rattle.std.proofs.ByRecursion.{All-append, All-weaker, All-get_or, All-take}
use Rattle.std.proofs.lemmas.List.{append_assoc, drop-set, drop-replicate, nil_from_length, length-take-le, get_or-take}
use Rattle.std.proofs.lemmas.Bool.{cases_lt, lt-ltb}
use Rattle.std.proofs.Math.Bool.{and-true}
use Rattle.std.specs.Option.{IfNone, IfSome, MatchOption}
use Rattle.wire.specs.Card.{card_shaped, filled}
use Rattle.wire.proofs.Numbers.{ends}

-- a number between two powers of ten has one digit more than the lower power says
pub digits_counted : (n k : ℕ) → 10 ^ k ≤ n → n < 10 * 10 ^ k → k + 1 ≡ length (digits_of 10 n)
digits_counted n k least most =
    let above : n < 10 ^ (k + 1) = rw (add-one, pow-suc) (omega arith) in
    let upper = length-digits_of-le 10 (k + 1) n (omega arith) above in
    let own : n < 10 ^ length (digits_of 10 n) = rw (number_digits_of 10 n (omega arith)) at (number_lt 10 (digits_of 10 n) (all_below_base_digits_of 10 n (omega arith))) in
    ⊎_elim
    (λ more. omega arith)
    (λ fewer. let ten : 0 < 10 = omega arith in let up : 10 ^ length (digits_of 10 n) ≤ 10 ^ k = pow-le-pow_right ten fewer in absurd (omega arith))
    (cases_lt k (length (digits_of 10 n)))

-- and 0 has none
pub digits_counted_or_none : (n : ℕ) (power : Option ℕ) (count : ℕ) (Told : ℕ → Type 0) → IfNone power (n ≡ 0) → IfSome power (λ k. 10 ^ k ≤ n) → IfSome power (λ k. n < 10 * 10 ^ k) → MatchOption power (count ≡ 0) Told → ((k : ℕ) → Told k → count ≡ k + 1) → count ≡ length (digits_of 10 n)
digits_counted_or_none n None count Told none least most is next = is ∙ ap (λ m. length (digits_of 10 m)) (sym none)
digits_counted_or_none n (Some k) count Told none least most is next = next k is ∙ digits_counted n k least most

-- a number with digits is not 0
pub digits_some : (n : ℕ) → 0 < length (digits_of 10 n) → 0 < n
digits_some zero some = some
digits_some (suc n) some = omega arith

-- the last digits stand at their places, and those of the rest are still to come
pub record Filling (number rest i : ℕ) (all : List ℕ) : Type 0 where
  pub long : length all ≡ 20
  pub few : i ≤ 20
  pub left : length (digits_of 10 rest) ≡ i
  pub right : digits_of 10 rest ++ drop i all ≡ filled (digits_of 10 number)

pub filling_none : (number count : ℕ) → count ≡ length (digits_of 10 number) → count ≤ 20 → Filling number number count (replicate 20 15)
filling_none number count are few = record {
  long = length-replicate {A = ℕ} 20 15;
  few = few;
  left = sym are;
  right = ap (λ xs. digits_of 10 number ++ xs) (drop-replicate count 20 15 ∙ ap (λ n. replicate (20 - n) 15) are);
}

pub filling_more : (number rest i : ℕ) (all : List ℕ) → 0 < i → Filling number rest i all → Filling number (rest / 10) (i - 1) (set all (i - 1) (rest % 10))
filling_more number rest i all some f =
    let few = f.few in
    let long = f.long in
    let left = f.left in
    let above : 0 < rest = digits_some rest (omega arith) in
    let back : (i - 1) + 1 ≡ i = omega arith in
    let within : i - 1 < length all = omega arith in
    let put : drop (i - 1) (set all (i - 1) (rest % 10)) ≡ rest % 10 ∷ drop i all =
    drop-set all (i - 1) (rest % 10) within ∙ ap (λ n. rest % 10 ∷ drop n all) back in
    record {
      long = length-set all (i - 1) (rest % 10) ∙ long;
      few = omega arith;
      left = omega (arith, length-digits_of_step 10 rest (omega arith) above);
      right =
          ap (λ xs. digits_of 10 (rest / 10) ++ xs) put
          ∙ sym (append_assoc (digits_of 10 (rest / 10)) (rest % 10 ∷ []) (drop i all))
          ∙ ap (λ xs. xs ++ drop i all) (sym (digits_of_step 10 rest (omega arith) above))
          ∙ f.right;
    }

pub filling_all : (number rest i : ℕ) (all : List ℕ) → i ≡ 0 → Filling number rest i all → all ≡ filled (digits_of 10 number)
filling_all number rest i all none f =
    let left = f.left in
    sym (ap (λ xs. xs ++ all) (nil_from_length (digits_of 10 rest) (omega arith)))
    ∙ sym (ap (λ n. digits_of 10 rest ++ drop n all) none)
    ∙ f.right

fill_under : (n : ℕ) → AllBelowBase 16 (replicate n 15)
fill_under zero = tt
fill_under (suc n) = (omega arith, fill_under n)

pub filled_under : (n : ℕ) → AllBelowBase 16 (filled (digits_of 10 n))
filled_under n =
    All-append (λ h. h < 16) (digits_of 10 n) (replicate (20 - length (digits_of 10 n)) 15)
    (All-weaker (λ d. d < 10) (λ h. h < 16) (λ d digit. omega arith) (digits_of 10 n) (all_below_base_digits_of 10 n (omega arith)))
    (fill_under (20 - length (digits_of 10 n)))

-- the first digit of a number is not 0, so that its digits are shaped as a card's where there are as many
pub shaped_counted : (n : ℕ) → card_shaped (digits_of 10 n) ≡ (leb 13 (length (digits_of 10 n)) && leb (length (digits_of 10 n)) 19)
shaped_counted zero = refl
shaped_counted (suc n) =
    let l = length (digits_of 10 (suc n)) in
    ap (λ t. leb 13 l && (leb l 19 && t)) (lt-ltb 0 (get_or (digits_of 10 (suc n)) 0 0) (first_digits_of 10 (suc n) (omega arith) (omega arith)))
    ∙ ap (λ t. leb 13 l && t) (and-true (leb l 19))

-- a number whose first digit is not 0 is not 0
number_above : (ds : List ℕ) → 0 < get_or ds 0 0 → 0 < number 10 ds
number_above [] lead = lead
number_above (d ∷ ds) lead = omega (arith, number_after_ge 10 (0 * 10 + d) ds (omega arith))

-- the digits of the number that digits write, if those of all but the last are known
digits_last : (n : ℕ) (ds : List ℕ) → length ds ≡ suc n → AllBelowBase 10 ds → 0 < get_or ds 0 0 → digits_of 10 (number 10 (take n ds)) ≡ take n ds → digits_of 10 (number 10 ds) ≡ ds
digits_last n ds long under lead rest =
    let front = take n ds in
    let last = get_or ds n 0 in
    let split : ds ≡ front ++ last ∷ [] = ends ds n long in
    let small : last < 10 = All-get_or (λ d. d < 10) ds n 0 (omega arith) under in
    let is : number 10 ds ≡ number 10 front * 10 + last = ap (number 10) split ∙ number_push 10 front last in
    let high : number 10 ds / 10 ≡ number 10 front = ap (λ v. v / 10) is ∙ digits_div (number 10 front) small in
    let low : number 10 ds % 10 ≡ last = ap (λ v. v % 10) is ∙ digits_mod (number 10 front) small in
    digits_of_step 10 (number 10 ds) (omega arith) (number_above ds lead)
    ∙ ap (λ v. digits_of 10 v ++ number 10 ds % 10 ∷ []) high
    ∙ ap (λ d. digits_of 10 (number 10 front) ++ d ∷ []) low
    ∙ ap (λ xs. xs ++ last ∷ []) rest
    ∙ sym split

digits_number_of : (n : ℕ) (ds : List ℕ) → length ds ≡ suc n → AllBelowBase 10 ds → 0 < get_or ds 0 0 → digits_of 10 (number 10 ds) ≡ ds
digits_number_of zero ds long under lead = digits_last zero ds long under lead refl
digits_number_of (suc n) ds long under lead =
    let some : 0 < suc n = omega arith in
    digits_last (suc n) ds long under lead
    (digits_number_of n (take (suc n) ds) (length-take-le (suc n) ds (omega arith)) (All-take (λ d. d < 10) (suc n) ds under) (rw (get_or-take (suc n) ds 0 0 some) lead))

pub digits_number : (ds : List ℕ) → AllBelowBase 10 ds → 0 < get_or ds 0 0 → digits_of 10 (number 10 ds) ≡ ds
digits_number [] under lead = absurd (omega arith)
digits_number (d ∷ ds) under lead = digits_number_of (length ds) (d ∷ ds) refl under lead
