-- The bound of the batch totals grows with the number of remembered answers.
use Rattle.std.proofs.Common.{◌≡◌, ℕ, ◌≤◌, true, List, arith}
use Rattle.std.proofs.lemmas.Bool.{le-leb, leb-true}
use Rattle.rules.specs.Sound.{all_within, most_total, size, within}
use Rattle.rules.specs.declared.batch.Batch.{Batch}
use Rattle.rules.proofs.Every.{every_weaker}

-- with more answers the bound is larger
pub within_grows : (n k : ℕ) (batches : List Batch) → n ≤ k → all_within (most_total n) batches ≡ true → all_within (most_total k) batches ≡ true
within_grows n k batches more all =
    every_weaker (within (most_total n)) (within (most_total k))
    (λ b ok. le-leb (size b.total) (most_total k) (omega (arith, leb-true (size b.total) (most_total n) ok))) batches all
