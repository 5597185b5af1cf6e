-- A pair has one row at most, whatever is written and dropped, and what the rows then have for each
-- pair.
use Rattle.std.proofs.Common.{◌≡◌, ℕ, zero, suc, ◌<◌, Bool, true, false, not, List, [], ◌∷◌, length, get_or, set, is_some, Some, None, Option, sym, refl, ap, ◌∙◌, subst, inl, inr, arith}
use Rattle.std.specs.Option.{option_or}
use Rattle.std.proofs.lemmas.Bool.{and_from, and_parts, cond-true, cond-false}
use Rattle.std.proofs.lemmas.Bool.Decides.{nat_tests}
use Rattle.std.proofs.lemmas.List.{length-set, set-get_or}
use Rattle.std.proofs.lemmas.List.Folds.{find_past}
use Rattle.rows.specs.Either.{set_at}
use Rattle.rows.specs.First.{first_with, row_with, Found}
use Rattle.rows.proofs.Either.{Placed, placed, placed_elsewhere, placed_here, unplaced, within_placed}
use Rattle.rows.proofs.First.{first_none, found_of_first, none_of_first, row_found, row_none}
use Rattle.host.specs.Parts.{Pence, same_pair}
use Rattle.host.specs.declared.Pair.{Pair}
use Rattle.host.proofs.Meaning.{same_pair_itself, same_pair-true}
use Rattle.stand_in.specs.Rows.{Kept, amount_in, dropped, is_free, is_row, one_each, place_for, row_amount, written}
use Rattle.stand_in.specs.declared.row.Row.{Row}
use Rattle.stand_in.specs.declared.row.Row.TheVariants.{Free, Stands}

-- a row is one pair's at most, and a free one is nobody's
one_pair : (pair pair' : Pair) (row : Row) → same_pair pair' pair ≡ false → is_row pair row ≡ true → is_row pair' row ≡ false
one_pair pair pair' Free other stands = refl
one_pair pair pair' (Stands own amount) other stands = grind (arith, nat_tests)

free_is_none : (pair : Pair) (row : Row) → is_free row ≡ true → is_row pair row ≡ false
free_is_none pair Free free = refl
free_is_none pair (Stands own amount) free = absurd (cc)

-- a list that a row was taken out of, or that one more stands before
no_more : (pair : Pair) (amount : Pence) (rows : List Row) → one_each (Stands pair amount ∷ rows) ≡ true → row_with (is_row pair) rows ≡ None
no_more pair amount rows one = none (row_with (is_row pair) rows) (and_parts _ _ one).0
  where
    none : (row : Option Row) → not (is_some row) ≡ true → row ≡ None
    none None e = refl
    none (Some row) e = absurd (cc)

one_rest : (row : Row) (rows : List Row) → one_each (row ∷ rows) ≡ true → one_each rows ≡ true
one_rest Free rows one = one
one_rest (Stands pair amount) rows one = (and_parts (not (is_some (row_with (is_row pair) rows))) (one_each rows) one).1

one_more : (pair : Pair) (amount : Pence) (rows : List Row) → row_with (is_row pair) rows ≡ None → one_each rows ≡ true → one_each (Stands pair amount ∷ rows) ≡ true
one_more pair amount rows none one = and_from _ _ (ap (λ row. not (is_some row)) none) one

-- no row passes a test where neither the first does nor any of the rest
none_parts : (test : Row → Bool) (x : Row) (xs : List Row) → row_with test (x ∷ xs) ≡ None → (test x ≡ false) × (row_with test xs ≡ None)
none_parts test x xs none = at_head (test x) refl
  where
    at_head : (b : Bool) → test x ≡ b → (test x ≡ false) × (row_with test xs ≡ None)
    at_head true e =
        let no : Some x ≡ None = sym (cond-true (test x) (Some x) (row_with test xs) e) ∙ none in
        absurd (cc)
    at_head false e = (e, subst (λ r. r ≡ None) (cond-false (test x) (Some x) (row_with test xs) e) none)

behind : (test : Row → Bool) (x : Row) (xs : List Row) → test x ≡ false → row_with test (x ∷ xs) ≡ row_with test xs
behind test x xs fails = cond-false (test x) (Some x) (row_with test xs) fails

-- and so it stays where one that fails it is written
none_after : (test : Row → Bool) (rows : List Row) (place : ℕ) (y : Row) → row_with test rows ≡ None → test y ≡ false → row_with test (set rows place y) ≡ None
none_after test [] place y none fails = refl
none_after test (x ∷ xs) zero y none fails = behind test y xs fails ∙ (none_parts test x xs none).1
none_after test (x ∷ xs) (suc place) y none fails =
    behind test x (set xs place y) (none_parts test x xs none).0 ∙ none_after test xs place y (none_parts test x xs none).1 fails

-- where the rest has a row of the pair, the first is not its
not_first : (x : Row) (xs : List Row) (pair : Pair) (row : Row) → one_each (x ∷ xs) ≡ true → row_with (is_row pair) xs ≡ Some row → is_row pair x ≡ false
not_first Free xs pair row one some = refl
not_first (Stands pair' amount) xs pair row one some = by_pair (same_pair pair' pair) refl
  where
    by_pair : (b : Bool) → same_pair pair' pair ≡ b → b ≡ false
    by_pair true e =
        let no : Some row ≡ None = sym some ∙ subst (λ (p : Pair). row_with (is_row p) xs ≡ None) (same_pair-true pair' pair e) (no_more pair' amount xs one) in
        absurd (cc)
    by_pair false e = refl

-- the row at a place is its pair's first row, and with it dropped the pair has none
pub row_at : (rows : List Row) (place : ℕ) (pair : Pair) (amount : Pence) → one_each rows ≡ true → place < length rows → get_or rows place Free ≡ Stands pair amount → row_with (is_row pair) rows ≡ Some (Stands pair amount)
row_at [] place pair amount one within at = absurd (omega arith)
row_at (x ∷ xs) zero pair amount one within at = rw at (cond-true (same_pair pair pair) _ _ (same_pair_itself pair))
row_at (x ∷ xs) (suc place) pair amount one within at =
    let later = row_at xs place pair amount (one_rest x xs one) (omega (arith, within)) at in
    behind (is_row pair) x xs (not_first x xs pair (Stands pair amount) one later) ∙ later

pub none_once_dropped : (rows : List Row) (place : ℕ) (pair : Pair) (amount : Pence) → one_each rows ≡ true → place < length rows → get_or rows place Free ≡ Stands pair amount → row_with (is_row pair) (set rows place Free) ≡ None
none_once_dropped [] place pair amount one within at = refl
none_once_dropped (x ∷ xs) zero pair amount one within at = no_more pair amount xs (subst (λ row. one_each (row ∷ xs) ≡ true) at one)
none_once_dropped (x ∷ xs) (suc place) pair amount one within at =
    let rest = one_rest x xs one in
    behind (is_row pair) x (set xs place Free) (not_first x xs pair (Stands pair amount) one (row_at xs place pair amount rest (omega (arith, within)) at))
    ∙ none_once_dropped xs place pair amount rest (omega (arith, within)) at

-- a row that is dropped leaves one each
one_each_dropped : (rows : List Row) (place : ℕ) → one_each rows ≡ true → one_each (set rows place Free) ≡ true
one_each_dropped [] place one = refl
one_each_dropped (x ∷ xs) zero one = one_rest x xs one
one_each_dropped (Free ∷ xs) (suc place) one = one_each_dropped xs place one
one_each_dropped (Stands pair amount ∷ xs) (suc place) one =
    one_more pair amount (set xs place Free) (none_after (is_row pair) xs place Free (no_more pair amount xs one) refl) (one_each_dropped xs place (one_rest (Stands pair amount) xs one))

-- and one that is written, where its pair has no other
one_each_set : (rows : List Row) (place : ℕ) (pair : Pair) (amount : Pence) → one_each rows ≡ true → row_with (is_row pair) (set rows place Free) ≡ None → one_each (set rows place (Stands pair amount)) ≡ true
one_each_set [] place pair amount one none = refl
one_each_set (x ∷ xs) zero pair amount one none = one_more pair amount xs none (one_rest x xs one)
one_each_set (Free ∷ xs) (suc place) pair amount one none = one_each_set xs place pair amount one none
one_each_set (Stands pair' amount' ∷ xs) (suc place) pair amount one none =
    let parts = none_parts (is_row pair) (Stands pair' amount') (set xs place Free) none in
    let apart : same_pair pair pair' ≡ false = grind (arith, nat_tests, parts.0) in
    one_more pair' amount' (set xs place (Stands pair amount))
    (none_after (is_row pair') xs place (Stands pair amount) (no_more pair' amount' xs one) apart)
    (one_each_set xs place pair amount (one_rest (Stands pair' amount') xs one) parts.1)

-- the rows once the pair's is dropped, or an amount is written for it
module _ (rows : List Row) (pair : Pair) where
  none_found : one_each rows ≡ true → (place : ℕ) → Found (is_row pair) rows place → row_with (is_row pair) (set rows place Free) ≡ None
  none_found one place found = by_row (get_or rows place Free) refl (found.passes Free)
    where
      by_row : (row : Row) → get_or rows place Free ≡ row → is_row pair row ≡ true → row_with (is_row pair) (set rows place Free) ≡ None
      by_row Free is passes = absurd (cc)
      by_row (Stands pair' amount) is passes =
          subst (λ (p : Pair). row_with (is_row p) (set rows place Free) ≡ None) (same_pair-true pair' pair passes) (none_once_dropped rows place pair' amount one found.within is)

  abbrev At : ℕ → Type 0
  At = Placed (is_row pair) is_free rows

  at : (place : ℕ) → place_for rows pair ≡ Some place → At place
  at = placed (is_row pair) is_free rows

  pub within_found : Kept rows → (place : ℕ) → place_for rows pair ≡ Some place → place < 16
  within_found kept place is = omega (arith, within_placed (is_row pair) is_free rows place (at place is), kept.sixteen)

  none_beside : one_each rows ≡ true → (place : ℕ) → At place → row_with (is_row pair) (set rows place Free) ≡ None
  none_beside one place (inl own) = none_found one place own
  none_beside one place (inr free) = none_after (is_row pair) rows place Free (row_none (is_row pair) rows free.0) refl

  one_each_written : one_each rows ≡ true → (place : ℕ) (amount : Pence) → place_for rows pair ≡ Some place → one_each (set rows place (Stands pair amount)) ≡ true
  one_each_written one place amount is = one_each_set rows place pair amount one (none_beside one place (at place is))

  -- at the place found stands what the pair has
  pub found_amount : (place : ℕ) (d : Row) → place_for rows pair ≡ Some place → amount_in (Some (get_or rows place d)) ≡ row_amount rows pair
  found_amount place d is = by_place (at place is)
    where
      free : (row : Row) → is_free row ≡ true → amount_in (Some row) ≡ None
      free Free e = refl
      free (Stands own amount) e = absurd (cc)

      by_place : At place → amount_in (Some (get_or rows place d)) ≡ row_amount rows pair
      by_place (inl own) = sym (ap amount_in (row_found (is_row pair) rows place d own))
      by_place (inr other) = free (get_or rows place d) (other.1.passes d) ∙ sym (ap amount_in (row_none (is_row pair) rows other.0))

  pub found_nothing : place_for rows pair ≡ None → row_amount rows pair ≡ None
  found_nothing none = ap amount_in (row_none (is_row pair) rows (unplaced (is_row pair) is_free rows none))

  -- a free row at the place found may as well be dropped
  pub drop_found : (place : ℕ) → place_for rows pair ≡ Some place → set rows place Free ≡ dropped rows pair
  drop_found place is = by_first (first_with (is_row pair) rows) refl
    where
      free : (row : Row) → is_free row ≡ true → row ≡ Free
      free Free e = refl
      free (Stands own amount) e = absurd (cc)

      by_first : (own : Option ℕ) → first_with (is_row pair) rows ≡ own → set rows place Free ≡ set_at own Free rows
      by_first (Some first) e = ap (λ at. set_at at Free rows) (sym is ∙ ap (λ own. option_or own (first_with is_free rows)) e)
      by_first None e =
          let found = found_of_first is_free rows place (sym (ap (λ own. option_or own (first_with is_free rows)) e) ∙ is) in
          ap (set rows place) (sym (free (get_or rows place Free) (found.passes Free))) ∙ set-get_or rows place Free

  pub drop_nothing : place_for rows pair ≡ None → rows ≡ dropped rows pair
  drop_nothing none = ap (λ own. set_at own Free rows) (sym (first_none (is_row pair) rows (unplaced (is_row pair) is_free rows none)))

  -- dropped: the pair has none, and any other pair what it had
  pub dropped_here : one_each rows ≡ true → row_amount (dropped rows pair) pair ≡ None
  dropped_here one = by_place (first_with (is_row pair) rows) refl
    where
      by_place : (place : Option ℕ) → first_with (is_row pair) rows ≡ place → row_amount (set_at place Free rows) pair ≡ None
      by_place (Some place) is = ap amount_in (none_found one place (found_of_first (is_row pair) rows place is))
      by_place None is = ap amount_in (row_none (is_row pair) rows (none_of_first (is_row pair) rows is))

  pub set_elsewhere : (place : ℕ) (y : Row) (pair' : Pair) → same_pair pair' pair ≡ false → is_row pair (get_or rows place y) ≡ true → is_row pair' y ≡ false → row_amount (set rows place y) pair' ≡ row_amount rows pair'
  set_elsewhere place y pair' other stood fails =
      ap amount_in (find_past (is_row pair') rows place y y (one_pair pair pair' (get_or rows place y) other stood) fails)

  pub dropped_elsewhere : (pair' : Pair) → same_pair pair' pair ≡ false → row_amount (dropped rows pair) pair' ≡ row_amount rows pair'
  dropped_elsewhere pair' other = by_place (first_with (is_row pair) rows) refl
    where
      by_place : (place : Option ℕ) → first_with (is_row pair) rows ≡ place → row_amount (set_at place Free rows) pair' ≡ row_amount rows pair'
      by_place (Some place) is = set_elsewhere place Free pair' other ((found_of_first (is_row pair) rows place is).passes Free) refl
      by_place None is = refl

  -- written: the pair has the amount, and any other pair what it had
  pub written_here : (amount : Pence) → is_some (place_for rows pair) ≡ true → row_amount (written rows pair amount) pair ≡ Some amount
  written_here amount some = by_place (place_for rows pair) refl some
    where
      by_place : (place : Option ℕ) → place_for rows pair ≡ place → is_some place ≡ true → row_amount (set_at place (Stands pair amount) rows) pair ≡ Some amount
      by_place (Some place) is some = ap amount_in (placed_here (is_row pair) is_free rows place (Stands pair amount) (at place is) (same_pair_itself pair))
      by_place None is some = absurd (cc)

  pub written_elsewhere : (amount : Pence) (pair' : Pair) → same_pair pair' pair ≡ false → row_amount (written rows pair amount) pair' ≡ row_amount rows pair'
  written_elsewhere amount pair' other = by_place (place_for rows pair) refl
    where
      by_place : (place : Option ℕ) → place_for rows pair ≡ place → row_amount (set_at place (Stands pair amount) rows) pair' ≡ row_amount rows pair'
      by_place (Some place) is =
          let apart : same_pair pair pair' ≡ false = grind (arith, nat_tests) in
          ap amount_in (placed_elsewhere (is_row pair) is_free rows (is_row pair') (λ row. one_pair pair pair' row other) (free_is_none pair') place (Stands pair amount) (at place is) apart)
      by_place None is = refl

  -- a pair that has a row has a place
  pub own_place : (own : Pence) → row_amount rows pair ≡ Some own → is_some (place_for rows pair) ≡ true
  own_place own is = by_first (first_with (is_row pair) rows) refl
    where
      by_first : (place : Option ℕ) → first_with (is_row pair) rows ≡ place → is_some (option_or place (first_with is_free rows)) ≡ true
      by_first (Some place) e = refl
      by_first None e =
          let none : row_amount rows pair ≡ None = ap amount_in (row_none (is_row pair) rows (none_of_first (is_row pair) rows e)) in
          absurd (cc)

-- so what always holds of the rows holds after either
pub kept_dropped : (rows : List Row) (place : ℕ) → Kept rows → Kept (set rows place Free)
kept_dropped rows place kept = record { sixteen = length-set rows place Free ∙ kept.sixteen; one = one_each_dropped rows place kept.one }

pub kept_written : (rows : List Row) (pair : Pair) (place : ℕ) (amount : Pence) → place_for rows pair ≡ Some place → Kept rows → Kept (set rows place (Stands pair amount))
kept_written rows pair place amount is kept =
    record { sixteen = length-set rows place (Stands pair amount) ∙ kept.sixteen; one = one_each_written rows pair kept.one place amount is }
