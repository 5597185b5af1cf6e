-- What is known of the records of a file.
use Rattle.std.proofs.Common.{◌≡◌, ℕ, zero, suc, ◌≤◌, ltb, List, [], ◌∷◌, length, take, drop, Option, Some, None, refl, ap, arith, rules}
use Rattle.std.specs.Option.{option_map_or}
use Rattle.std.proofs.lemmas.List.{length-drop}
use Rattle.std.proofs.lemmas.Bool.{cond_both}
use Rattle.fields.specs.Record.{first_record, records_to, records_in}

-- what a record begins, where this function gives the records after it
abbrev begun : (List ℕ → List (Option (List ℕ))) → Option (List ℕ × List ℕ) → List (Option (List ℕ))
begun after cut = option_map_or {T = List ℕ × List ℕ} (λ parts. Some parts.0 ∷ after parts.1) cut (None ∷ [])

-- more records than there are bytes add nothing
records_to-enough : (n m : ℕ) (bytes : List ℕ) → length bytes ≤ n → length bytes ≤ m → records_to n bytes ≡ records_to m bytes
records_to-enough zero zero bytes in_n in_m = refl
records_to-enough zero (suc m) [] in_n in_m = refl
records_to-enough zero (suc m) (long ∷ rest) in_n in_m = absurd (omega arith)
records_to-enough (suc n) zero [] in_n in_m = refl
records_to-enough (suc n) zero (long ∷ rest) in_n in_m = absurd (omega arith)
records_to-enough (suc n) (suc m) [] in_n in_m = refl
records_to-enough (suc n) (suc m) (long ∷ rest) in_n in_m =
    let left = length-drop long rest in
    cond_both (ltb (length rest) long) None (Some (take long rest, drop long rest)) (λ cut. begun (records_to n) cut ≡ begun (records_to m) cut)
    (λ _. refl)
    (λ _. ap (λ rs. Some (take long rest) ∷ rs) (records_to-enough n m (drop long rest) (omega arith) (omega arith)))

-- the records where a whole one stands at the front
pub whole_first : (bytes message after : List ℕ) → Some (Some (message, after)) ≡ first_record bytes → records_in bytes ≡ Some message ∷ records_in after
whole_first [] message after first = absurd (search rules)
whole_first (long ∷ rest) message after first =
    let left = length-drop long rest in
    cond_both (ltb (length rest) long) None (Some (take long rest, drop long rest))
    (λ cut. Some (Some (message, after)) ≡ Some cut → begun (records_to (length rest)) cut ≡ Some message ∷ records_in after)
    (λ _ e. absurd (search rules))
    (λ _ e.
    let same_message : take long rest ≡ message = search rules in
    let same_after : drop long rest ≡ after = search rules in
    rw (same_message, same_after) (ap (λ rs. Some message ∷ rs) (records_to-enough (length rest) (length after) after (omega (arith, ap length same_after)) (omega arith))))
    first
