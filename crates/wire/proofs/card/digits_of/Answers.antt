use Rattle.std.proofs.Common.{◌≡◌, ltb, take, drop, sym, ap, ◌∙◌, arith}
use Rattle.std.proofs.lemmas.Bool.Decides.{nat_tests}
use Rattle.std.proofs.lemmas.List.Sums.{count_by-le-length}
use Rattle.wire.proofs.Halves.{digit_count, counts_digits, front_digits, counted_filled}
use Rattle.wire.proofs.card.digits_of.Goals as goal

pub split_at-requires : goal.split_at-requires
split_at-requires c = omega (arith, c.count_digits.ensures, count_by-le-length (λ h. ltb h 10) c.args.all.now)

pub returns-then-not-card_shaped : goal.returns-then-not-card_shaped
returns-then-not-card_shaped c =
    let hs = c.args.all.now in
    let count : c.count_digits.result ≡ digit_count hs = c.count_digits.ensures ∙ sym (counts_digits hs) in
    let front : c.split_at.result.0.now ≡ take (digit_count hs) hs = c.split_at.ensures.front ∙ ap (λ n. take n hs) count in
    let back : c.split_at.result.1.now ≡ drop (digit_count hs) hs = c.split_at.ensures.back ∙ ap (λ n. drop n hs) count in
    let whole = counted_filled hs in
    grind (arith, nat_tests)

pub returns : goal.returns
returns c =
    let hs = c.args.all.now in
    let count : c.count_digits.result ≡ digit_count hs = c.count_digits.ensures ∙ sym (counts_digits hs) in
    let front : c.split_at.result.0.now ≡ take (digit_count hs) hs = c.split_at.ensures.front ∙ ap (λ n. take n hs) count in
    let back : c.split_at.result.1.now ≡ drop (digit_count hs) hs = c.split_at.ensures.back ∙ ap (λ n. drop n hs) count in
    let whole = counted_filled hs in
    let first = front_digits hs in
    grind (arith, nat_tests)
