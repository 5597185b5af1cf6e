-- A test that every row passes, after a row is looked up, rewritten or added.
use Rattle.std.proofs.Common.{◌≡◌, Bool, true, false, cond, List, [], ◌∷◌, Some, None, unwrap_or, sym, refl, ap, ◌∙◌}
use Rattle.std.proofs.lemmas.Bool.{and_parts, and_from}
use Rattle.std.specs.List.{list_all}
use Rattle.rows.specs.First.{row_with, update_first}

module _ {R : Type 0} (test : R → Bool) where
  -- a row that is found passes
  pub every_row : (sought : R → Bool) (rows : List R) (row : R) → list_all test rows ≡ true → row_with sought rows ≡ Some row → test row ≡ true
  every_row sought [] row all is = cc
  every_row sought (x ∷ rows) row all is =
      elim (sought x) as (λ t. cond t (Some x) (row_with sought rows) ≡ Some row → test row ≡ true) [
        | true ↦ λ here. let same : x ≡ row = cc in ap test (sym same) ∙ (and_parts (test x) (list_all test rows) all).0
        | false ↦ λ later. every_row sought rows row (and_parts (test x) (list_all test rows) all).1 later
      ] is

  -- and so does what stands for one that is not found, if it passes
  pub every_found : (sought : R → Bool) (rows : List R) (none : R) → list_all test rows ≡ true → test none ≡ true → test (unwrap_or (row_with sought rows) none) ≡ true
  every_found sought [] none all ok = ok
  every_found sought (x ∷ rows) none all ok =
      let both = and_parts (test x) (list_all test rows) all in
      elim (sought x) as (λ t. test (unwrap_or (cond t (Some x) (row_with sought rows)) none) ≡ true) [
        | true ↦ both.0
        | false ↦ every_found sought rows none both.1 ok
      ]

  -- they pass with one rewritten to such as does
  pub every_update : (sought : R → Bool) (rows : List R) (row : R) → list_all test rows ≡ true → test row ≡ true → list_all test (update_first sought (λ _. row) rows) ≡ true
  every_update sought [] row all ok = refl
  every_update sought (x ∷ rows) row all ok =
      let both = and_parts (test x) (list_all test rows) all in
      elim (sought x) as (λ t. list_all test (cond t (row ∷ rows) (x ∷ update_first sought (λ _. row) rows)) ≡ true) [
        | true ↦ and_from (test row) (list_all test rows) ok both.1
        | false ↦ and_from (test x) (list_all test (update_first sought (λ _. row) rows)) both.0 (every_update sought rows row both.1 ok)
      ]

  -- and they pass a weaker test
  pub every_weaker : (weak : R → Bool) → ((row : R) → test row ≡ true → weak row ≡ true) → (rows : List R) → list_all test rows ≡ true → list_all weak rows ≡ true
  every_weaker weak so [] all = refl
  every_weaker weak so (x ∷ rows) all =
      let both = and_parts (test x) (list_all test rows) all in
      and_from (weak x) (list_all weak rows) (so x both.0) (every_weaker weak so rows both.1)

-- a row rewritten by what it becomes
pub update_const : {R : Type 0} (sought : R → Bool) (f : R → R) (rows : List R) (row : R) → row_with sought rows ≡ Some row → update_first sought (λ _. f row) rows ≡ update_first sought f rows
update_const sought f [] row is = refl
update_const sought f (x ∷ rows) row is =
    elim (sought x) as (λ t. cond t (Some x) (row_with sought rows) ≡ Some row
    → cond t (f row ∷ rows) (x ∷ update_first sought (λ _. f row) rows) ≡ cond t (f x ∷ rows) (x ∷ update_first sought f rows)) [
      | true ↦ λ here. let same : x ≡ row = cc in ap (λ y. f y ∷ rows) (sym same)
      | false ↦ λ later. ap (λ ys. x ∷ ys) (update_const sought f rows row later)
    ] is

-- where no row is found none is rewritten
pub update_nothing : {R : Type 0} (sought : R → Bool) (f : R → R) (rows : List R) → row_with sought rows ≡ None → update_first sought f rows ≡ rows
update_nothing sought f [] is = refl
update_nothing sought f (x ∷ rows) is =
    elim (sought x) as (λ t. cond t (Some x) (row_with sought rows) ≡ None → cond t (f x ∷ rows) (x ∷ update_first sought f rows) ≡ x ∷ rows) [
      | true ↦ λ here. cc
      | false ↦ λ later. ap (λ ys. x ∷ ys) (update_nothing sought f rows later)
    ] is
