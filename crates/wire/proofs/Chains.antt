-- The first check that fails, by what is known of the checks before it.
use Rattle.std.proofs.Common.{◌≡◌, ℕ, zero, suc, Bool, true, false, cond, List, [], ◌∷◌, ◌++◌, get_or, Some, None, refl, ap, arith}
use Rattle.wire.specs.Checks.{first_failing}

-- checks that all pass leave it to those after them
pub after_passed : (xs ys : List (ℕ × Bool)) → first_failing xs ≡ None → first_failing (xs ++ ys) ≡ first_failing ys
after_passed [] ys none = refl
after_passed ((n, true) ∷ xs) ys none = let z : ◌≡◌ {A = ℕ} 0 1 = cc in absurd (omega arith)
after_passed ((n, false) ∷ xs) ys none = after_passed xs ys none

-- a check that fails decides, whatever comes after it
pub before_failed : (xs ys : List (ℕ × Bool)) (k : ℕ) → first_failing xs ≡ Some k → first_failing (xs ++ ys) ≡ Some k
before_failed [] ys k some = let z : ◌≡◌ {A = ℕ} 0 1 = cc in absurd (omega arith)
before_failed ((n, true) ∷ xs) ys k some = some
before_failed ((n, false) ∷ xs) ys k some = before_failed xs ys k some

pub passes : (n : ℕ) (failing : Bool) (xs : List (ℕ × Bool)) → failing ≡ false → first_failing ((n, failing) ∷ xs) ≡ first_failing xs
passes n failing xs passed = ap (λ t. cond t (Some n) (first_failing xs)) passed

pub fails : (n : ℕ) (failing : Bool) (xs : List (ℕ × Bool)) → failing ≡ true → first_failing ((n, failing) ∷ xs) ≡ Some n
fails n failing xs is = ap (λ t. cond t (Some n) (first_failing xs)) is

-- where no check fails, none of them does
pub none_fails : (checks : List (ℕ × Bool)) → first_failing checks ≡ None → (i : ℕ) → (get_or checks i (0, false)).1 ≡ false
none_fails [] none i = refl
none_fails ((n, true) ∷ xs) none i = let z : ◌≡◌ {A = ℕ} 0 1 = cc in absurd (omega arith)
none_fails ((n, false) ∷ xs) none zero = refl
none_fails ((n, false) ∷ xs) none (suc i) = none_fails xs none i

-- a last check that passes decides nothing
pub last_passes : (checks : List (ℕ × Bool)) (n : ℕ) (failing : Bool) → failing ≡ false → first_failing (checks ++ (n, failing) ∷ []) ≡ first_failing checks
last_passes [] n failing passed = passes n failing [] passed
last_passes ((k, true) ∷ xs) n failing passed = refl
last_passes ((k, false) ∷ xs) n failing passed = last_passes xs n failing passed
