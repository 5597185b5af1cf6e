-- Where a row is written: at the first that passes its own test, or, where none does, at the first
-- free one.
use Rattle.std.proofs.Common.{◌≡◌, ℕ, ◌<◌, Bool, true, false, List, length, get_or, set, Some, None, Option, refl, ◌∙◌, ◌⊎◌, inl, inr, arith}
use Rattle.std.specs.Option.{option_or}
use Rattle.std.specs.List.{AllWithin}
use Rattle.std.proofs.lemmas.List.Folds.{find_past}
use Rattle.rows.specs.Either.{first_either}
use Rattle.rows.specs.First.{first_with, row_with, Found}
use Rattle.rows.proofs.First.{found_of_first, none_of_first, row_set_here}

module _ {R : Type 0} (own free : R → Bool) (rows : List R) where
  abbrev pub Placed : ℕ → Type 0
  Placed place =
      Found own rows place
      ⊎ (AllWithin (λ row. own row ≡ false) rows 0 (length rows) × Found free rows place)

  by_own : (first : Option ℕ) → first_with own rows ≡ first → (place : ℕ) → option_or first (first_with free rows) ≡ Some place → Placed place
  by_own None none place e = inr (none_of_first own rows none, found_of_first free rows place e)
  by_own (Some at) some place e = inl (found_of_first own rows place (some ∙ e))

  pub placed : (place : ℕ) → first_either own free rows ≡ Some place → Placed place
  placed place e = by_own (first_with own rows) refl place e

  pub within_placed : (place : ℕ) → Placed place → place < length rows
  within_placed place (inl found) = found.within
  within_placed place (inr free) = free.1.within

  no_own : (first : Option ℕ) → option_or first (first_with free rows) ≡ None → first ≡ None
  no_own None is = refl
  no_own (Some at) is = absurd (cc)

  pub unplaced : first_either own free rows ≡ None → AllWithin (λ row. own row ≡ false) rows 0 (length rows)
  unplaced none = none_of_first own rows (no_own (first_with own rows) none)

  -- a row written there is the first that passes
  pub placed_here : (place : ℕ) (y : R) → Placed place → own y ≡ true → row_with own (set rows place y) ≡ Some y
  placed_here place y (inl found) passes = row_set_here own rows place y found.within found.none_before passes
  placed_here place y (inr free) passes =
      row_set_here own rows place y free.1.within (λ k d low high. free.0 k d low (omega (arith, free.1.within))) passes

  -- and no test that neither of the two rows passes is touched
  pub placed_elsewhere : (other : R → Bool) → ((x : R) → own x ≡ true → other x ≡ false) → ((x : R) → free x ≡ true → other x ≡ false) → (place : ℕ) (y : R) → Placed place → other y ≡ false → row_with other (set rows place y) ≡ row_with other rows
  placed_elsewhere other not_own not_free place y stood fails = find_past other rows place y y (was stood) fails
    where
      was : Placed place → other (get_or rows place y) ≡ false
      was (inl found) = not_own (get_or rows place y) (found.passes y)
      was (inr free) = not_free (get_or rows place y) (free.1.passes y)
