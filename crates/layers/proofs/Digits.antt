-- Dropping last digits until six are left: what the loop knows at the start, after each turn and at the end.
use Rattle.std.proofs.Common.{◌≡◌, ℕ, zero, suc, ◌*◌, ◌/◌, ◌^◌, ◌<◌, ◌≤◌, ◌⊎◌, sym, refl, ap, ◌∙◌, inl, inr, pow-suc, div-one, arith}
use native.Mathlib.Nat.{div-div-eq-div-mul}
use Rattle.std.proofs.lemmas.Bool.{cond-true, cond-false, lt-ltb, le-ltb}
use Rattle.layers.specs.Digits.{shortened, leading_six, LeadingSix}

pub record Shortening (number front : ℕ) : Type 0 where
  -- so many more droppings are enough, and give the answer
  pub times : ℕ
  pub enough : front < 1000000 * 10 ^ times
  pub same : shortened times front ≡ leading_six number
  -- so many digits were dropped
  pub dropped : ℕ
  pub cut : front ≡ number / 10 ^ dropped
  pub whole_or_six : (dropped ≡ 0) ⊎ (10 ^ 5 ≤ front)

pub shortening_none : (number : ℕ) → number < 2 ^ 64 → Shortening number number
unfolding leading_six
shortening_none number fits = record { times = 14; enough = omega arith; same = refl; dropped = 0; cut = sym (div-one number); whole_or_six = inl refl }

pub shortening_more : (number front : ℕ) → 1000000 ≤ front → Shortening number front → Shortening number (front / 10)
shortening_more number front long s = by_times s.times s.enough s.same
  where
    by_times : (times : ℕ) → front < 1000000 * 10 ^ times → shortened times front ≡ leading_six number → Shortening number (front / 10)
    by_times zero enough same = absurd (omega arith)
    by_times (suc times) enough same =
        record {
          times = times;
          enough = omega (arith, pow-suc 10 times);
          same = sym (cond-false _ front _ (le-ltb front 1000000 long)) ∙ same;
          dropped = suc s.dropped;
          cut = ap (λ n. n / 10) s.cut ∙ div-div-eq-div-mul number (10 ^ s.dropped) 10 ∙ ap (λ n. number / n) (sym (pow-suc 10 s.dropped));
          whole_or_six = inr (omega arith);
        }

shortened_short : (times n : ℕ) → n < 1000000 → shortened times n ≡ n
shortened_short zero n short = refl
shortened_short (suc times) n short = cond-true _ n _ (lt-ltb n 1000000 short)

pub shortening_value : (number front : ℕ) → front < 1000000 → Shortening number front → front ≡ leading_six number
shortening_value number front short s = sym (shortened_short s.times front short) ∙ s.same

pub shortening_digits : (number front : ℕ) → front < 1000000 → Shortening number front → LeadingSix number front
shortening_digits number front short s =
    record { dropped = s.dropped; front = s.cut; at_most_six = short; whole_or_six = s.whole_or_six }
