-- The leading six digits of a card number; one of six digits or fewer is its own.
use Rattle.std.specs.Prelude.{◌≡◌, ℕ, zero, suc, ◌/◌, ◌^◌, ◌<◌, ◌≤◌, if◌then◌else◌, ◌⊎◌, nat_lt}

-- the last digit is dropped, at most so many times, while there are more than six
abbrev pub shortened : ℕ → ℕ → ℕ
shortened zero n = n
shortened (suc times) n = if nat_lt n 1000000 then n else shortened times (n / 10)

-- a number of 64 bits has at most twenty digits
unfoldable pub leading_six : ℕ → ℕ
leading_six number = shortened 14 number

-- the same as a relation: some last digits are dropped, six or fewer are left, and six where any
-- was dropped
pub record LeadingSix (number six : ℕ) : Type 0 where
  pub dropped : ℕ
  pub front : six ≡ number / 10 ^ dropped
  pub at_most_six : six < 10 ^ 6
  pub whole_or_six : (dropped ≡ 0) ⊎ (10 ^ 5 ≤ six)
