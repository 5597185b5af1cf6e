-- The first row of a list that passes a test: its place, the row itself, the list with it
-- rewritten, and what a search answers in full.
use Rattle.std.specs.Prelude.{◌≡◌, ℕ, suc, ◌<◌, Bool, true, false, if◌then◌else◌}
use Rattle.std.specs.Prelude.{List, [], ◌∷◌, length, Option, Some, None}
use Rattle.std.specs.Option.{option_map}
use Rattle.std.specs.List.{HoldsAt, AllWithin, find}

-- where it stands
abbrev pub first_with : {R : Type 0} → (R → Bool) → List R → Option ℕ
first_with test [] = None
first_with test (x ∷ xs) = if test x then Some 0 else option_map suc (first_with test xs)

-- the row that stands there
abbrev pub row_with : {R : Type 0} → (R → Bool) → List R → Option R
row_with test rows = find test rows

-- the list with that row rewritten
abbrev pub update_first : {R : Type 0} → (R → Bool) → (R → R) → List R → List R
update_first test f [] = []
update_first test f (x ∷ xs) = if test x then f x ∷ xs else x ∷ update_first test f xs

-- the row found passes and none before it does
pub record Found {R : Type 0} (test : R → Bool) (rows : List R) (place : ℕ) : Type 0 where
  pub within : place < length rows
  pub passes : HoldsAt (λ row. test row ≡ true) rows place
  pub none_before : AllWithin (λ row. test row ≡ false) rows 0 place

-- what a search answers, case by case: the first row that passes, or nothing where no row does
abbrev pub FirstOrNone : {R : Type 0} → (R → Bool) → List R → Option ℕ → Type 0
FirstOrNone test rows None = AllWithin (λ row. test row ≡ false) rows 0 (length rows)
FirstOrNone test rows (Some place) = Found test rows place
