-- A loop that writes f x over each row x: one turn.
use Rattle.std.proofs.Common.{◌≡◌, ℕ, ◌+◌, ◌<◌, List, ◌++◌, map, length, get_or, take, drop, set, ap, ◌∙◌, arith}
use Rattle.std.proofs.lemmas.List.Edits.{map_over_more}
use Rattle.std.proofs.lemmas.List.{get_or_default}

module _ {R : Type 0} (f : R → R) (xs ys : List R) (i : ℕ) (so_far : ys ≡ map f (take i xs) ++ drop i xs) where
  pub map_turn : (d y : R) → i < length xs → length ys ≡ length xs → y ≡ f (get_or ys i d) → set ys i y ≡ map f (take (i + 1) xs) ++ drop (i + 1) xs
  map_turn d y within long new =
      ap (set ys i) new ∙ map_over_more f xs ys i (get_or ys i d) within so_far (get_or_default ys i d (get_or ys i d) (omega arith))
