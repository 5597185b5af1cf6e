-- Digits at the end of the strip with zeros before them: the Luhn sum and the number are those of the digits.
use Rattle.std.proofs.Common.{◌≡◌, ℕ, zero, suc, ◌+◌, ◌-◌, ◌*◌, ◌/◌, ◌%◌, ◌<◌, ◌≤◌, eqb, List, ◌++◌, length, get_or, take, drop, replicate, sym, refl, ap, ◌∙◌, arith}
use Rattle.std.proofs.lemmas.List.{take_at, drop_at, drop-append-le, drop-replicate, length-drop, length-replicate, length-take-le, at_drop_more}
use Rattle.std.proofs.Math.Seq.{take-add}
use Rattle.std.proofs.lemmas.Bool.{cond_both}
use Rattle.std.proofs.ByRecursion.{All-append}
use Rattle.std.specs.Int.Digits.{AllBelowBase}
use Rattle.wire.specs.Card.{weight, luhn_sum, passes_luhn, digits_in, filled}
use Rattle.wire.specs.Strip.{spread}
use Rattle.wire.proofs.Halves.{digits_front}

-- a zero counts nothing at any place
weight_zero : (after : ℕ) → weight after 0 ≡ 0
weight_zero after = cond_both (eqb (after % 2) 1) (2 * 0 / 10 + 2 * 0 % 10) 0 (λ w. w ≡ 0) (λ _. refl) (λ _. refl)

-- one digit more, with so many after it
pub luhn_more : (ds : List ℕ) (i after : ℕ) → i < length ds → after + (i + 1) ≡ length ds → luhn_sum (drop i ds) ≡ weight after (get_or ds i 0) + luhn_sum (drop (i + 1) ds)
luhn_more ds i after within rest =
    at_drop_more luhn_sum ds i 0 within
    ∙ ap (λ n. weight n (get_or ds i 0) + luhn_sum (drop (i + 1) ds)) (length-drop (i + 1) ds ∙ omega arith)

luhn_zeros : (n : ℕ) (ds : List ℕ) → luhn_sum (replicate n 0 ++ ds) ≡ luhn_sum ds
luhn_zeros zero ds = refl
luhn_zeros (suc n) ds = omega (arith, weight_zero (length (replicate n 0 ++ ds)), luhn_zeros n ds)

zeros_under : (n : ℕ) → AllBelowBase 10 (replicate n 0)
zeros_under zero = tt
zeros_under (suc n) = (omega arith, zeros_under n)

-- what is known of a strip on which these digits are spread
module _ (ds strip : List ℕ) (are : strip ≡ spread ds) where
  pub spread_passes : passes_luhn strip ≡ passes_luhn ds
  spread_passes = ap passes_luhn are ∙ ap (λ n. eqb (n % 10) 0) (luhn_zeros (19 - length ds) ds)

  pub spread_under : AllBelowBase 10 ds → AllBelowBase 10 strip
  spread_under under = rw are (All-append (λ d. d < 10) (replicate (19 - length ds) 0) ds (zeros_under (19 - length ds)) under)

-- cut out of as many zeros and the halves after them
pub cut_spread : (all : List ℕ) (count : ℕ) → count ≤ 19 → length all ≡ 20 → take 19 (drop count (replicate 19 0 ++ all)) ≡ spread (take count all)
cut_spread all count few long =
    let zeros : List ℕ = replicate (19 - count) 0 in
    let as_long : length zeros ≡ 19 - count = length-replicate (19 - count) 0 in
    let up : 19 ≡ (19 - count) + count = omega arith in
    ap (take 19) (drop-append-le count (replicate 19 0) all (omega arith) ∙ ap (λ xs. xs ++ all) (drop-replicate count 19 0))
    ∙ ap (λ n. take n (zeros ++ all)) up
    ∙ take-add (19 - count) count (zeros ++ all)
    ∙ ap (λ xs. xs ++ take count (drop (19 - count) (zeros ++ all))) (take_at zeros all (19 - count) as_long)
    ∙ ap (λ xs. zeros ++ take count xs) (drop_at zeros all (19 - count) as_long)
    ∙ ap (λ n. replicate (19 - n) 0 ++ take count all) (sym (length-take-le count all (omega arith)))

-- the digits found in a card's halves are the first of them
pub found_spread : (hs ds strip : List ℕ) → digits_in hs ≡ ds → strip ≡ spread (take (length ds) hs) → strip ≡ spread (digits_in hs)
found_spread hs ds strip found are = are ∙ ap (λ n. spread (take n hs)) (ap length (sym found)) ∙ ap spread (sym (digits_front hs))

-- and so are those that F was put after
pub filled_spread : (ds hs strip : List ℕ) (count : ℕ) → count ≡ length ds → hs ≡ filled ds → strip ≡ spread (take count hs) → strip ≡ spread ds
filled_spread ds hs strip count counted filled_up are =
    are ∙ ap (λ n. spread (take n hs)) counted ∙ ap (λ xs. spread (take (length ds) xs)) filled_up
    ∙ ap spread (take_at ds (replicate (20 - length ds) 15) (length ds) refl)
