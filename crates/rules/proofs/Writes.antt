-- Where a row found_place, and what a write makes of a list of rows.
use Rattle.std.proofs.Common.{◌≡◌, ℕ, zero, suc, ◌≤◌, Bool, true, false, cond, List, [], ◌∷◌, ◌++◌, length, set, Some, None, Option, unwrap_or, sym, refl, ap, arith}
use Rattle.std.proofs.lemmas.Bool.{and_from, and_parts}
use Rattle.std.specs.List.{list_all}
use Rattle.std.proofs.Common.{length-append}
use Rattle.std.proofs.lemmas.List.{length-set}
use Rattle.rows.specs.First.{first_with, row_with, update_first, Found, FirstOrNone}
use Rattle.rows.proofs.First.{cases_of_first, row_none, update_found}
use Rattle.rules.specs.Change.{FitsIn, rows_after}
use Rattle.rules.specs.Found.{place_in}
use Rattle.rules.specs.declared.plan.RowWrite.{RowWrite}
use Rattle.rules.specs.declared.plan.RowWrite.TheVariants.{Replace, Append}

module _ {R : Type 0} (test : R → Bool) where
  -- the row that is found found_place at its place
  pub found_place : (rows : List R) (row : R) → row_with test rows ≡ Some row → Found test rows (place_in test rows)
  found_place rows row is = by (first_with test rows) (cases_of_first test rows)
    where
      by : (answer : Option ℕ) → FirstOrNone test rows answer → Found test rows (unwrap_or answer (length rows))
      by None every = let none = row_none test rows every in absurd cc
      by (Some place) found = found

  -- so to write there is to rewrite it
  pub set_first : (rows : List R) (row new : R) → row_with test rows ≡ Some row → set rows (place_in test rows) new ≡ update_first test (λ _. new) rows
  set_first rows row new is = sym (update_found test (λ _. new) rows (place_in test rows) new (found_place rows row is))

  -- a row behind the others is the first that passes, if none of them does
  pub update_last : (f : R → R) (rows : List R) (new : R) → row_with test rows ≡ None → test new ≡ true → update_first test f (rows ++ new ∷ []) ≡ rows ++ f new ∷ []
  update_last f [] new none passes = rw passes refl
  update_last f (x ∷ rows) new none passes =
      elim (test x) as (λ t. cond t (Some x) (row_with test rows) ≡ None → cond t (f x ∷ (rows ++ new ∷ [])) (x ∷ update_first test f (rows ++ new ∷ [])) ≡ x ∷ (rows ++ f new ∷ [])) [
        | true ↦ λ found. absurd cc
        | false ↦ λ rest. ap (λ ys. x ∷ ys) (update_last f rows new rest passes)
      ] none

  -- all rows still pass after one is rows_after that does
  every_set : (rows : List R) (place : ℕ) (row : R) → list_all test rows ≡ true → test row ≡ true → list_all test (set rows place row) ≡ true
  every_set [] place row all ok = refl
  every_set (x ∷ rows) zero row all ok = and_from (test row) (list_all test rows) ok (and_parts (test x) (list_all test rows) all).1
  every_set (x ∷ rows) (suc place) row all ok =
      let both = and_parts (test x) (list_all test rows) all in
      and_from (test x) (list_all test (set rows place row)) both.0 (every_set rows place row both.1 ok)

  every_append : (rows : List R) (row : R) → list_all test rows ≡ true → test row ≡ true → list_all test (rows ++ row ∷ []) ≡ true
  every_append [] row all ok = and_from (test row) true ok refl
  every_append (x ∷ rows) row all ok =
      let both = and_parts (test x) (list_all test rows) all in
      and_from (test x) (list_all test (rows ++ row ∷ [])) both.0 (every_append rows row both.1 ok)

  pub every_after : (most : ℕ) (write : Option (RowWrite R)) (rows : List R) → list_all test rows ≡ true → FitsIn most test write rows → list_all test (rows_after write rows) ≡ true
  every_after most None rows all fits = all
  every_after most (Some (Replace place row)) rows all fits = every_set rows place row all fits.1
  every_after most (Some (Append row)) rows all fits = every_append rows row all fits.1

-- how long a list is after a write
module _ {R : Type 0} (test : R → Bool) (most : ℕ) where
  pub longer_after : (write : Option (RowWrite R)) (rows : List R) → length rows ≤ length (rows_after write rows)
  longer_after None rows = omega arith
  longer_after (Some (Replace place row)) rows = omega (arith, length-set rows place row)
  longer_after (Some (Append row)) rows = omega (arith, length-append rows (row ∷ []))

  pub fits_after : (write : Option (RowWrite R)) (rows : List R) → length rows ≤ most → FitsIn most test write rows → length (rows_after write rows) ≤ most
  fits_after None rows few fits = few
  fits_after (Some (Replace place row)) rows few fits = omega (arith, length-set rows place row)
  fits_after (Some (Append row)) rows few fits = omega (arith, fits.0, length-append rows (row ∷ []))

  -- a larger list has room too
  pub fits_larger : (more : ℕ) → most ≤ more → (write : Option (RowWrite R)) (rows : List R) → FitsIn most test write rows → FitsIn more (λ _. true) write rows
  fits_larger more larger None rows fits = tt
  fits_larger more larger (Some (Replace place row)) rows fits = (fits.0, refl)
  fits_larger more larger (Some (Append row)) rows fits = (omega (arith, fits.0), refl)
