use Rattle.std.proofs.Common.{rules}
use Rattle.wire.proofs.Decimals.{digits_counted_or_none}
use Rattle.wire.proofs.card.count_decimal.Goals as goal

pub returns : goal.returns
returns c = digits_counted_or_none c.args.number c.checked_ilog10.result c.map_or.result _ c.checked_ilog10.ensures.none c.checked_ilog10.ensures.power_le c.checked_ilog10.ensures.next_power_gt c.map_or.ensures (λ k told. search rules)
