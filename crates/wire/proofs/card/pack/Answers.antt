use Rattle.std.proofs.Common.{ap, ◌∙◌, arith}
use Rattle.std.proofs.lemmas.Bool.Decides.{nat_tests}
use Rattle.std.specs.Int.Digits.{digits_of}
use Rattle.std.proofs.lemmas.Int.Digits.{all_below_base_digits_of}
use Rattle.wire.specs.Card.{pairs}
use Rattle.wire.proofs.Decimals.{shaped_counted, filled_under}
use Rattle.wire.proofs.Spread.{filled_spread, spread_passes, spread_under}
use Rattle.wire.proofs.card.pack.Goals as goal

pub returns-then-not-contains : goal.returns-then-not-contains
returns-then-not-contains c =
    let shaped = shaped_counted c.args.number in
    grind (arith, nat_tests)

pub passes_luhn-requires : goal.passes_luhn-requires
passes_luhn-requires c =
    spread_under (digits_of 10 c.args.number) c.spread.result (filled_spread (digits_of 10 c.args.number) c.fill-all.result c.spread.result c.count_decimal-count.result c.count_decimal-count.ensures c.fill-all.ensures c.spread.ensures) (all_below_base_digits_of 10 c.args.number (omega arith))

pub returns-then-not-passes_luhn : goal.returns-then-not-passes_luhn
returns-then-not-passes_luhn c =
    let fails = c.passes_luhn.ensures ∙ spread_passes (digits_of 10 c.args.number) c.spread.result (filled_spread (digits_of 10 c.args.number) c.fill-all.result c.spread.result c.count_decimal-count.result c.count_decimal-count.ensures c.fill-all.ensures c.spread.ensures) in
    grind (arith, nat_tests)

pub join-requires : goal.join-requires
join-requires c = rw c.fill-all.ensures (filled_under c.args.number)

pub returns : goal.returns
returns c =
    let shaped = shaped_counted c.args.number in
    let passes = c.passes_luhn.ensures ∙ spread_passes (digits_of 10 c.args.number) c.spread.result (filled_spread (digits_of 10 c.args.number) c.fill-all.result c.spread.result c.count_decimal-count.result c.count_decimal-count.ensures c.fill-all.ensures c.spread.ensures) in
    let bytes = c.join.ensures ∙ ap pairs c.fill-all.ensures in
    grind (arith, nat_tests)
