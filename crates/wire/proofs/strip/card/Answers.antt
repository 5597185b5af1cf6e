use Rattle.std.proofs.Common.{ap, sym, ◌∙◌, arith}
use Rattle.std.proofs.lemmas.Bool.Decides.{nat_tests}
use Rattle.std.proofs.lemmas.Option.{cond_some}
use Rattle.std.specs.Int.Digits.{number_from_digits}
use Rattle.wire.specs.Card.{digits_in}
use Rattle.wire.proofs.Halves.{digits_under}
use Rattle.wire.proofs.Spread.{found_spread, spread_passes, spread_under}
use Rattle.wire.proofs.strip.card.Goals as goal

pub passes_luhn-requires : goal.passes_luhn-requires
passes_luhn-requires c =
    let found = cond_some _ _ _ (sym c.in_ok-digits.ensures) in
    let on_strip = found_spread c.split-all.result c.in_ok-digits.digits.now c.spread.result found.1 c.spread.ensures in
    spread_under (digits_in c.split-all.result) c.spread.result on_strip (digits_under c.split-all.result)

pub returns-then-not-passes_luhn : goal.returns-then-not-passes_luhn
returns-then-not-passes_luhn c =
    let found = cond_some _ _ _ (sym c.in_ok-digits.ensures) in
    let on_strip = found_spread c.split-all.result c.in_ok-digits.digits.now c.spread.result found.1 c.spread.ensures in
    let fails = c.passes_luhn.ensures ∙ spread_passes (digits_in c.split-all.result) c.spread.result on_strip in
    grind (arith, nat_tests)

pub number-requires-clause-decimal : goal.number-requires-clause-decimal
number-requires-clause-decimal c = rw (← (cond_some _ _ _ (sym c.in_ok-digits.ensures)).1) (digits_under c.split-all.result)

pub returns : goal.returns
returns c =
    let found = cond_some _ _ _ (sym c.in_ok-digits.ensures) in
    let on_strip = found_spread c.split-all.result c.in_ok-digits.digits.now c.spread.result found.1 c.spread.ensures in
    let passes = c.passes_luhn.ensures ∙ spread_passes (digits_in c.split-all.result) c.spread.result on_strip in
    let value = c.number.ensures ∙ ap (number_from_digits 10) (sym found.1) in
    grind (arith, nat_tests)
