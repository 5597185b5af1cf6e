-- Laws of the first row that passes a test: found or not, after rows are written, and after rows are
-- added.
use Rattle.std.proofs.Common.{◌≡◌, ℕ, zero, suc, ◌<◌, Bool, true, false, cond, List, [], ◌∷◌, ◌++◌, map, length, get_or, set, Some, None, Option, sym, refl, ap, subst, arith}
use Rattle.std.proofs.lemmas.List.{append-nil}
use Rattle.std.specs.Option.{option_map}
use Rattle.std.specs.List.{AllWithin}
use Rattle.rows.specs.First.{first_with, row_with, update_first, Found, FirstOrNone}

module _ {R : Type 0} (test : R → Bool) where
  -- what stands past the head, from what stands in the whole list
  later : (x : R) (xs : List R) (n : ℕ) → AllWithin (λ row. test row ≡ false) (x ∷ xs) 0 (suc n) → AllWithin (λ row. test row ≡ false) xs 0 n
  later x xs n every k d low high = every (suc k) d (omega arith) (omega arith)

  sooner : (x : R) (xs : List R) (n : ℕ) → test x ≡ false → AllWithin (λ row. test row ≡ false) xs 0 n → AllWithin (λ row. test row ≡ false) (x ∷ xs) 0 (suc n)
  sooner x xs n fails every zero d low high = fails
  sooner x xs n fails every (suc k) d low high = every k d (omega arith) (omega arith)

  -- found first in the front of a list, whatever stands behind
  pub first_append : (rows more : List R) (place : ℕ) → Found test rows place → first_with test (rows ++ more) ≡ Some place
  first_append [] more place found = absurd (omega (arith, found.within))
  first_append (x ∷ xs) more zero found = rw (found.passes x) refl
  first_append (x ∷ xs) more (suc place) found =
      let rest : Found test xs place = record { within = omega (arith, found.within); passes = found.passes; none_before = later x xs place found.none_before } in
      rw (found.none_before 0 x (omega arith) (omega arith)) (ap (option_map suc) (first_append xs more place rest))

  pub first_found : (rows : List R) (place : ℕ) → Found test rows place → first_with test rows ≡ Some place
  first_found rows place found = rw append-nil at (first_append rows [] place found)

  pub first_none : (rows : List R) → AllWithin (λ row. test row ≡ false) rows 0 (length rows) → first_with test rows ≡ None
  first_none [] every = refl
  first_none (x ∷ xs) every =
      rw (every 0 x (omega arith) (omega arith)) (ap (option_map suc) (first_none xs (later x xs (length xs) every)))

  -- the two halves name one answer
  pub first_from_cases : (rows : List R) (answer : Option ℕ) → FirstOrNone test rows answer → answer ≡ first_with test rows
  first_from_cases rows None every = sym (first_none rows every)
  first_from_cases rows (Some place) found = sym (first_found rows place found)

  behind : (x : R) (xs : List R) → test x ≡ false → (answer : Option ℕ) → FirstOrNone test xs answer → FirstOrNone test (x ∷ xs) (option_map suc answer)
  behind x xs fails None every = sooner x xs (length xs) fails every
  behind x xs fails (Some place) found =
      record { within = omega (arith, found.within); passes = found.passes; none_before = sooner x xs place fails found.none_before }

  -- and the answer has the two halves
  pub cases_of_first : (rows : List R) → FirstOrNone test rows (first_with test rows)
  cases_of_first [] = λ k d low high. absurd (omega arith)
  cases_of_first (x ∷ xs) = at_head (test x) refl (cases_of_first xs)
    where
      at_head : (b : Bool) → test x ≡ b → FirstOrNone test xs (first_with test xs) → FirstOrNone test (x ∷ xs) (cond b (Some 0) (option_map suc (first_with test xs)))
      at_head true passes rest = record { within = omega arith; passes = λ d. passes; none_before = λ k d low high. absurd (omega arith) }
      at_head false fails rest = behind x xs fails (first_with test xs) rest

  pub found_of_first : (rows : List R) (place : ℕ) → first_with test rows ≡ Some place → Found test rows place
  found_of_first rows place e = subst (FirstOrNone test rows) e (cases_of_first rows)

  pub none_of_first : (rows : List R) → first_with test rows ≡ None → AllWithin (λ row. test row ≡ false) rows 0 (length rows)
  none_of_first rows e = subst (FirstOrNone test rows) e (cases_of_first rows)

  -- the row that stands at the place found
  pub row_found : (rows : List R) (place : ℕ) (d : R) → Found test rows place → row_with test rows ≡ Some (get_or rows place d)
  row_found [] place d found = absurd (omega (arith, found.within))
  row_found (x ∷ xs) zero d found = rw (found.passes x) refl
  row_found (x ∷ xs) (suc place) d found =
      let rest : Found test xs place = record { within = omega (arith, found.within); passes = found.passes; none_before = later x xs place found.none_before } in
      rw (found.none_before 0 x (omega arith) (omega arith)) (row_found xs place d rest)

  pub row_none : (rows : List R) → AllWithin (λ row. test row ≡ false) rows 0 (length rows) → row_with test rows ≡ None
  row_none [] every = refl
  row_none (x ∷ xs) every = rw (every 0 x (omega arith) (omega arith)) (row_none xs (later x xs (length xs) every))

  -- what stands at the place that a search answers: the first row that passes
  abbrev pub Stands : List R → Option ℕ → Type 0
  Stands rows None = row_with test rows ≡ None
  Stands rows (Some place) = (d : R) → row_with test rows ≡ Some (get_or rows place d)

  pub stands_from_cases : (rows : List R) (answer : Option ℕ) → FirstOrNone test rows answer → Stands rows answer
  stands_from_cases rows None every = row_none rows every
  stands_from_cases rows (Some place) found = λ d. row_found rows place d found

  -- a row written in the place of one that passes or fails as it does
  pub first_set : (rows : List R) (place : ℕ) (y d : R) → test y ≡ test (get_or rows place d) → first_with test (set rows place y) ≡ first_with test rows
  first_set [] place y d e = refl
  first_set (x ∷ xs) zero y d e = rw e refl
  first_set (x ∷ xs) (suc place) y d e = ap (λ answer. cond (test x) (Some 0) (option_map suc answer)) (first_set xs place y d e)

  -- a row that passes, written where none before it does
  pub row_set_here : (rows : List R) (place : ℕ) (y : R) → place < length rows → AllWithin (λ row. test row ≡ false) rows 0 place → test y ≡ true → row_with test (set rows place y) ≡ Some y
  row_set_here [] place y within before passes = absurd (omega arith)
  row_set_here (x ∷ xs) zero y within before passes = rw passes refl
  row_set_here (x ∷ xs) (suc place) y within before passes =
      rw (before 0 x (omega arith) (omega arith)) (row_set_here xs place y (omega arith) (later x xs place before) passes)

  -- every row rewritten
  pub row_map_other : (f : R → R) → ((x : R) → test x ≡ true → f x ≡ x) → ((x : R) → test x ≡ false → test (f x) ≡ false) → (rows : List R) → row_with test (map f rows) ≡ row_with test rows
  row_map_other f keeps fails [] = refl
  row_map_other f keeps fails (x ∷ xs) = at_head (test x) refl (row_map_other f keeps fails xs)
    where
      at_head : (b : Bool) → test x ≡ b → row_with test (map f xs) ≡ row_with test xs → row_with test (map f (x ∷ xs)) ≡ row_with test (x ∷ xs)
      at_head true e rest = rw (keeps x e, e) refl
      at_head false e rest = rw (fails x e, e) rest

  pub row_map_none : (f : R → R) → ((x : R) → test (f x) ≡ false) → (rows : List R) → row_with test (map f rows) ≡ None
  row_map_none f fails [] = refl
  row_map_none f fails (x ∷ xs) = rw (fails x) (row_map_none f fails xs)

  -- one more row behind the others
  pub first_push_fails : (rows : List R) (y : R) → test y ≡ false → first_with test (rows ++ y ∷ []) ≡ first_with test rows
  first_push_fails [] y fails = rw fails refl
  first_push_fails (x ∷ xs) y fails = ap (λ answer. cond (test x) (Some 0) (option_map suc answer)) (first_push_fails xs y fails)

  pub first_push_passes : (rows : List R) (y : R) → AllWithin (λ row. test row ≡ false) rows 0 (length rows) → test y ≡ true → first_with test (rows ++ y ∷ []) ≡ Some (length rows)
  first_push_passes [] y every passes = rw passes refl
  first_push_passes (x ∷ xs) y every passes =
      rw (every 0 x (omega arith) (omega arith)) (ap (option_map suc) (first_push_passes xs y (later x xs (length xs) every) passes))

  -- the first row that passes, rewritten
  pub update_found : (f : R → R) (rows : List R) (place : ℕ) (d : R) → Found test rows place → update_first test f rows ≡ set rows place (f (get_or rows place d))
  update_found f [] place d found = absurd (omega (arith, found.within))
  update_found f (x ∷ xs) zero d found = rw (found.passes x) refl
  update_found f (x ∷ xs) (suc place) d found =
      let rest : Found test xs place = record { within = omega (arith, found.within); passes = found.passes; none_before = later x xs place found.none_before } in
      rw (found.none_before 0 x (omega arith) (omega arith)) (ap (λ rows. x ∷ rows) (update_found f xs place d rest))

  pub update_none : (f : R → R) (rows : List R) → AllWithin (λ row. test row ≡ false) rows 0 (length rows) → update_first test f rows ≡ rows
  update_none f [] every = refl
  update_none f (x ∷ xs) every =
      rw (every 0 x (omega arith) (omega arith)) (ap (λ rows. x ∷ rows) (update_none f xs (later x xs (length xs) every)))

  -- it is still the first one that passes
  pub row_update : (f : R → R) → ((x : R) → test x ≡ true → test (f x) ≡ true) → (rows : List R) → row_with test (update_first test f rows) ≡ option_map f (row_with test rows)
  row_update f keeps [] = refl
  row_update f keeps (x ∷ xs) = at_head (test x) refl (row_update f keeps xs)
    where
      at_head : (b : Bool) → test x ≡ b → row_with test (update_first test f xs) ≡ option_map f (row_with test xs) → row_with test (update_first test f (x ∷ xs)) ≡ option_map f (row_with test (x ∷ xs))
      at_head true e rest = rw (e, keeps x e) refl
      at_head false e rest = rw (e, e) rest

  -- and no other test is touched
  pub row_update_other : (other : R → Bool) (f : R → R) → ((x : R) → test x ≡ true → (other x ≡ false) × (other (f x) ≡ false)) → (rows : List R) → row_with other (update_first test f rows) ≡ row_with other rows
  row_update_other other f apart [] = refl
  row_update_other other f apart (x ∷ xs) = at_head (test x) refl (row_update_other other f apart xs)
    where
      at_head : (b : Bool) → test x ≡ b → row_with other (update_first test f xs) ≡ row_with other xs → row_with other (update_first test f (x ∷ xs)) ≡ row_with other (x ∷ xs)
      at_head true e rest = rw (e, (apart x e).0, (apart x e).1) refl
      at_head false e rest = rw e (ap (λ answer. cond (other x) (Some x) answer) rest)
