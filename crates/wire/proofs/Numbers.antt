-- Numbers written in digits of a fixed count: no digit is lost, and the number does not outgrow its bound.
use Rattle.std.proofs.Common.{◌≡◌, ℕ, zero, suc, ◌+◌, ◌*◌, ◌/◌, ◌%◌, ◌^◌, ◌<◌, ◌≤◌, List, [], ◌∷◌, ◌++◌, length, get_or, take, sym, ap, ◌∙◌, pow-suc, arith, rules}
use native.Mathlib.Nat.{pow-zero, pow-le-pow_right}
use lib.Arith.{digits_div, digits_mod, lt-one}
use Rattle.std.specs.Int.Digits.{number_from_digits, AllBelowBase}
use Rattle.std.proofs.lemmas.Int.Digits.{number_lt, number_more, number_push}
use Rattle.std.proofs.ByRecursion.{All-get_or, All-take}
use Rattle.std.proofs.lemmas.Nat.{div_below, div-add-mod'}
use Rattle.std.proofs.lemmas.List.{nil_from_length, length-take-le, take_all, take_more}
use Rattle.std.specs.Int.{to_be_bytes, from_be_bytes, w32, w64}
use Rattle.wire.specs.Bytes.{bytes_of}

-- the number of the first i + 1 of at most 19 decimal digits fits 64 bits
pub so_far_fits : (digits : List ℕ) (i : ℕ) → i < length digits → length digits ≤ 19 → AllBelowBase 10 digits → number_from_digits 10 (take i digits) * 10 + get_or digits i 0 < 2 ^ 64
so_far_fits digits i within few under =
    let bound = number_lt 10 (take (i + 1) digits) (All-take (λ d. d < 10) (i + 1) digits under) in
    let ten : 0 < 10 = omega arith in
    let short : length (take (i + 1) digits) ≤ 19 = rw (length-take-le (i + 1) digits (omega arith)) (omega arith) in
    let up : 10 ^ length (take (i + 1) digits) ≤ 10 ^ 19 = pow-le-pow_right ten short in
    omega (arith, bound, up, number_more 10 digits i within)

-- a list of n + 1 elements ends in its last one
pub ends : (xs : List ℕ) (n : ℕ) → length xs ≡ suc n → xs ≡ take n xs ++ get_or xs n 0 ∷ []
ends xs n long =
    let within : n < length xs = omega arith in
    sym (take_all (n + 1) xs (omega arith)) ∙ take_more xs n 0 within

-- a number below 256 ^ w is what its w bytes write
pub number_bytes_of : (w n : ℕ) → n < 256 ^ w → number_from_digits 256 (bytes_of w n) ≡ n
number_bytes_of zero n below = sym (lt-one (rw pow-zero at below))
number_bytes_of (suc w) n below =
    let fewer : n / 256 < 256 ^ w = div_below n 256 (256 ^ w) (omega arith) (rw pow-suc at below) in
    number_push 256 (bytes_of w (n / 256)) (n % 256)
    ∙ ap (λ v. v * 256 + n % 256) (number_bytes_of w (n / 256) fewer)
    ∙ div-add-mod' n 256

-- and w bytes are those of the number that they write
pub bytes_of_number : (w : ℕ) (bs : List ℕ) → length bs ≡ w → AllBelowBase 256 bs → bytes_of w (number_from_digits 256 bs) ≡ bs
bytes_of_number zero bs long under = sym (nil_from_length bs long)
bytes_of_number (suc w) bs long under =
    let last = get_or bs w 0 in
    let split : bs ≡ take w bs ++ last ∷ [] = ends bs w long in
    let small : last < 256 = All-get_or (λ b. b < 256) bs w 0 (omega arith) under in
    let is : number_from_digits 256 bs ≡ number_from_digits 256 (take w bs) * 256 + last = ap (number_from_digits 256) split ∙ number_push 256 (take w bs) last in
    let high : number_from_digits 256 bs / 256 ≡ number_from_digits 256 (take w bs) = ap (λ v. v / 256) is ∙ digits_div (number_from_digits 256 (take w bs)) small in
    let low : number_from_digits 256 bs % 256 ≡ last = ap (λ v. v % 256) is ∙ digits_mod (number_from_digits 256 (take w bs)) small in
    ap (λ v. bytes_of w v ++ number_from_digits 256 bs % 256 ∷ []) high
    ∙ ap (λ d. bytes_of w (number_from_digits 256 (take w bs)) ++ d ∷ []) low
    ∙ ap (λ xs. xs ++ last ∷ []) (bytes_of_number w (take w bs) (length-take-le w bs (omega arith)) (All-take (λ b. b < 256) w bs under))
    ∙ sym split

-- std's bytes of a number are these
pub spelled_4 : (n : ℕ) → to_be_bytes w32 n ≡ bytes_of 4 n
spelled_4 n = search rules

pub spelled_8 : (n : ℕ) → to_be_bytes w64 n ≡ bytes_of 8 n
spelled_8 n = search rules

-- what std reads of as many bytes is the number that they write
module _ (bs : List ℕ) (n : ℕ) where
  abbrev up_to : ℕ → ℕ
  up_to i = number_from_digits 256 (take i bs)

  more : (i w : ℕ) → length bs ≡ w → i < w → up_to (i + 1) ≡ up_to i * 256 + get_or bs i 0
  more i w long within = number_more 256 bs i (omega arith)

  whole : (w : ℕ) → length bs ≡ w → up_to w ≡ number_from_digits 256 bs
  whole w long = ap (number_from_digits 256) (take_all w bs (omega arith))

  pub read_1 : length bs ≡ 1 → n ≡ get_or bs 0 0 → n ≡ number_from_digits 256 bs
  read_1 long is = omega (arith, more 0 1 long (omega arith), whole 1 long)

  pub read_4 : length bs ≡ 4 → n ≡ from_be_bytes w32 bs → n ≡ number_from_digits 256 bs
  read_4 long is = omega (arith, more 0 4 long (omega arith), more 1 4 long (omega arith), more 2 4 long (omega arith), more 3 4 long (omega arith), whole 4 long)

  pub read_8 : length bs ≡ 8 → n ≡ from_be_bytes w64 bs → n ≡ number_from_digits 256 bs
  read_8 long is =
      omega (
        arith,
        more 0 8 long (omega arith),
        more 1 8 long (omega arith),
        more 2 8 long (omega arith),
        more 3 8 long (omega arith),
        more 4 8 long (omega arith),
        more 5 8 long (omega arith),
        more 6 8 long (omega arith),
        more 7 8 long (omega arith),
        whole 8 long,
      )
