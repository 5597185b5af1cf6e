-- The halves of a card's ten bytes: split, counted and put together again.
use Rattle.std.proofs.Common.{◌≡◌, ℕ, zero, suc, ◌+◌, ◌-◌, ◌*◌, ◌/◌, ◌%◌, ◌<◌, ◌≤◌, Bool, true, false, cond, not, ◌&&◌, eqb, ltb, List, [], ◌∷◌, ◌++◌, length, get_or, take, drop, set, replicate, Some, None, sym, refl, ap, ◌∙◌, arith, length-set}
use Rattle.std.proofs.Math.Bool.{and-true, and-false}
use Rattle.std.specs.List.{count_by}
use Rattle.std.proofs.lemmas.List.Recursion.{is_count_by}
use Rattle.std.proofs.lemmas.List.{append_assoc, take_more, take_more_set, drop_at}
use Rattle.std.proofs.lemmas.Bool.{cond-true, cond_both, lt-ltb, ltb-true, and_parts, eqb-true}
use Rattle.std.specs.Int.Digits.{AllBelowBase}
use Rattle.wire.specs.Card.{halves, digits_in, only_fill, card_shaped, well_filled, pairs, filled}

halves_push : (bs : List ℕ) (b : ℕ) → halves (bs ++ b ∷ []) ≡ halves bs ++ b / 16 ∷ b % 16 ∷ []
halves_push [] b = refl
halves_push (x ∷ bs) b = ap (λ hs. x / 16 ∷ x % 16 ∷ hs) (halves_push bs b)

-- one byte more is split
pub halves_more : (bs all : List ℕ) (i : ℕ) → i < length bs → 2 * i + 1 < length all → take (2 * i) all ≡ halves (take i bs) →
    take (2 * (i + 1)) (set (set all (2 * i) (get_or bs i 0 / 16)) (2 * i + 1) (get_or bs i 0 % 16)) ≡ halves (take (i + 1) bs)
halves_more bs all i within room before =
    let b = get_or bs i 0 in
    let one = set all (2 * i) (b / 16) in
    let up : 2 * (i + 1) ≡ (2 * i + 1) + 1 = omega arith in
    let first : take (2 * i + 1) one ≡ take (2 * i) all ++ b / 16 ∷ [] = take_more_set all (2 * i) (b / 16) (omega arith) in
    let second : take ((2 * i + 1) + 1) (set one (2 * i + 1) (b % 16)) ≡ take (2 * i + 1) one ++ b % 16 ∷ [] =
    take_more_set one (2 * i + 1) (b % 16) (rw length-set room) in
    ap (λ n. take n (set one (2 * i + 1) (b % 16))) up ∙ second
    ∙ ap (λ xs. xs ++ b % 16 ∷ []) (first ∙ ap (λ xs. xs ++ b / 16 ∷ []) before)
    ∙ append_assoc (halves (take i bs)) (b / 16 ∷ []) (b % 16 ∷ [])
    ∙ sym (halves_push (take i bs) b)
    ∙ ap halves (sym (take_more bs i 0 within))

pub digits_front : (hs : List ℕ) → digits_in hs ≡ take (length (digits_in hs)) hs
digits_front [] = refl
digits_front (h ∷ hs) =
    elim (ltb h 10) as (λ t. cond t (h ∷ digits_in hs) [] ≡ take (length (cond t (h ∷ digits_in hs) [])) (h ∷ hs))
    [ true ↦ ap (λ ds. h ∷ ds) (digits_front hs) | false ↦ refl ]

-- the digits are no more than the halves
pub digits_within : (hs : List ℕ) → length (digits_in hs) ≤ length hs
digits_within [] = omega arith
digits_within (h ∷ hs) = cond_both (ltb h 10) (h ∷ digits_in hs) [] (λ ds. length ds ≤ suc (length hs)) (λ _. omega (arith, digits_within hs)) (λ _. omega arith)

pub digits_under : (hs : List ℕ) → AllBelowBase 10 (digits_in hs)
digits_under [] = tt
digits_under (h ∷ hs) =
    cond_both (ltb h 10) (h ∷ digits_in hs) [] (AllBelowBase 10) (λ digit. (ltb-true h 10 digit, digits_under hs)) (λ _. tt)

-- how many of the halves are digits, wherever they stand
abbrev pub digit_count : List ℕ → ℕ
digit_count [] = 0
digit_count (h ∷ hs) = cond (ltb h 10) (suc (digit_count hs)) (digit_count hs)

pub counts_digits : (hs : List ℕ) → digit_count hs ≡ count_by (λ h. ltb h 10) hs
counts_digits hs =
    is_count_by digit_count (λ h. ltb h 10) refl
    (λ x xs. elim (ltb x 10) as (λ t. cond t (suc (digit_count xs)) (digit_count xs) ≡ cond t (1 + digit_count xs) (digit_count xs)) [ true ↦ omega arith | false ↦ refl ])
    hs

none_in_fill : (hs : List ℕ) → only_fill hs ≡ true → digit_count hs ≡ 0
none_in_fill [] fill = refl
none_in_fill (h ∷ hs) fill =
    let both = and_parts (eqb h 15) (only_fill hs) fill in
    ap (λ x. digit_count (x ∷ hs)) (eqb-true h 15 both.0) ∙ none_in_fill hs both.1

-- with only F past so many halves, no more of them are digits
few_before : (k : ℕ) (hs : List ℕ) → only_fill (drop k hs) ≡ true → digit_count hs ≤ k
few_before zero hs fill = omega (arith, none_in_fill hs fill)
few_before (suc k) [] fill = omega arith
few_before (suc k) (h ∷ hs) fill =
    cond_both (ltb h 10) (suc (digit_count hs)) (digit_count hs) (λ n. n ≤ suc k) (λ _. omega (arith, few_before k hs fill)) (λ _. omega (arith, few_before k hs fill))

none_first : (c h : ℕ) (hs : List ℕ) → c ≡ digit_count hs → only_fill (drop c (h ∷ hs)) ≡ true → 0 ≡ c
none_first zero h hs is fill = refl
none_first (suc c) h hs is fill = absurd (omega (arith, few_before c hs fill))

-- with only F past as many halves as are digits, the digits come first
digits_first : (hs : List ℕ) → only_fill (drop (digit_count hs) hs) ≡ true → length (digits_in hs) ≡ digit_count hs
digits_first [] fill = refl
digits_first (h ∷ hs) fill =
    elim (ltb h 10) as (λ t. only_fill (drop (cond t (suc (digit_count hs)) (digit_count hs)) (h ∷ hs)) ≡ true → length (cond t (h ∷ digits_in hs) []) ≡ cond t (suc (digit_count hs)) (digit_count hs))
    [ true ↦ λ f. ap suc (digits_first hs f) | false ↦ λ f. none_first (digit_count hs) h hs refl f ] fill

-- and with only F past the first digits, no others are digits
digits_alone : (hs : List ℕ) → only_fill (drop (length (digits_in hs)) hs) ≡ true → length (digits_in hs) ≡ digit_count hs
digits_alone [] fill = refl
digits_alone (h ∷ hs) fill =
    elim (ltb h 10) as (λ t. only_fill (drop (length (cond t (h ∷ digits_in hs) [])) (h ∷ hs)) ≡ true → length (cond t (h ∷ digits_in hs) []) ≡ cond t (suc (digit_count hs)) (digit_count hs))
    [ true ↦ λ f. ap suc (digits_alone hs f) | false ↦ λ f. sym (none_in_fill hs (and_parts (eqb h 15) (only_fill hs) f).1) ] fill

module _ (hs : List ℕ) where
  abbrev count : ℕ
  count = digit_count hs

  abbrev front : List ℕ
  front = take count hs

  pub front_digits : only_fill (drop count hs) ≡ true → digits_in hs ≡ front
  front_digits fill = digits_front hs ∙ ap (λ n. take n hs) (digits_first hs fill)

  as_counted : length (digits_in hs) ≡ count → well_filled hs ≡ (card_shaped front && only_fill (drop count hs))
  as_counted same =
      ap (λ ds. card_shaped ds && only_fill (drop (length (digits_in hs)) hs)) (digits_front hs ∙ ap (λ n. take n hs) same)
      ∙ ap (λ n. card_shaped front && only_fill (drop n hs)) same

  decided : (x : Bool) → only_fill (drop count hs) ≡ x → (y : Bool) → only_fill (drop (length (digits_in hs)) hs) ≡ y → well_filled hs ≡ (card_shaped front && only_fill (drop count hs))
  decided true here y there = as_counted (digits_first hs here)
  decided false here true there = as_counted (digits_alone hs there)
  decided false here false there =
      ap (λ t. card_shaped (digits_in hs) && t) there ∙ and-false (card_shaped (digits_in hs))
      ∙ sym (ap (λ t. card_shaped front && t) here ∙ and-false (card_shaped front))

  pub counted_filled : well_filled hs ≡ (card_shaped front && only_fill (drop count hs))
  counted_filled = decided (only_fill (drop count hs)) refl (only_fill (drop (length (digits_in hs)) hs)) refl

-- digits filled up with F are found again
is_fill : (n : ℕ) → only_fill (replicate n 15) ≡ true
is_fill zero = refl
is_fill (suc n) = is_fill n

digits_before : (ds : List ℕ) (n : ℕ) → AllBelowBase 10 ds → digits_in (ds ++ replicate n 15) ≡ ds
digits_before [] zero under = refl
digits_before [] (suc n) under = refl
digits_before (d ∷ ds) n under = cond-true (ltb d 10) _ _ (lt-ltb d 10 under.0) ∙ ap (λ xs. d ∷ xs) (digits_before ds n under.1)

pub digits_filled : (ds : List ℕ) → AllBelowBase 10 ds → digits_in (filled ds) ≡ ds
digits_filled ds under = digits_before ds (20 - length ds) under

pub shaped_filled : (ds : List ℕ) → AllBelowBase 10 ds → well_filled (filled ds) ≡ card_shaped ds
shaped_filled ds under =
    let fill : only_fill (drop (length (digits_in (filled ds))) (filled ds)) ≡ true =
    ap (λ xs. only_fill (drop (length xs) (filled ds))) (digits_filled ds under)
    ∙ ap only_fill (drop_at ds (replicate (20 - length ds) 15) (length ds) refl)
    ∙ is_fill (20 - length ds) in
    ap (λ t. card_shaped (digits_in (filled ds)) && t) fill
    ∙ and-true (card_shaped (digits_in (filled ds)))
    ∙ ap card_shaped (digits_filled ds under)

-- something was found: either nothing was asked for, or it is what was asked for and is right
pub found_one : {A : Type 0} (asked is_right : Bool) (value none found : A) → Some found ≡ cond asked (cond is_right (Some value) None) (Some none) →
    ((asked && not is_right) ≡ false) × (found ≡ cond asked value none)
found_one true true value none found is = (refl, cc)
found_one true false value none found is = let z : ◌≡◌ {A = ℕ} 0 1 = cc in absurd (omega arith)
found_one false is_right value none found is = (refl, cc)

abbrev twice : ℕ → ℕ
twice zero = 0
twice (suc n) = suc (suc (twice n))

twice_is : (n : ℕ) → twice n ≡ 2 * n
twice_is zero = refl
twice_is (suc n) = omega (arith, twice_is n)

pairs_next : (i : ℕ) (hs : List ℕ) → suc (twice i) < length hs → pairs (take (twice (suc i)) hs) ≡ pairs (take (twice i) hs) ++ (get_or hs (twice i) 0 * 16 + get_or hs (suc (twice i)) 0) ∷ []
pairs_next i [] room = absurd (omega arith)
pairs_next i (a ∷ []) room = absurd (omega arith)
pairs_next zero (a ∷ (b ∷ hs)) room = refl
pairs_next (suc i) (a ∷ (b ∷ hs)) room = ap (λ bs. (a * 16 + b) ∷ bs) (pairs_next i hs (omega arith))

-- one byte more is put together
pub pairs_more : (i : ℕ) (hs : List ℕ) → 2 * i + 1 < length hs → pairs (take (2 * (i + 1)) hs) ≡ pairs (take (2 * i) hs) ++ (get_or hs (2 * i) 0 * 16 + get_or hs (2 * i + 1) 0) ∷ []
pairs_more i hs room =
    let now = twice_is i in
    let next : twice (suc i) ≡ 2 * (i + 1) = omega (arith, twice_is (suc i)) in
    let odd : suc (twice i) ≡ 2 * i + 1 = omega arith in
    rw (← next, ← odd, ← now) (pairs_next i hs (omega arith))
