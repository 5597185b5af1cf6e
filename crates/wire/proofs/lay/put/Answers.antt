use Rattle.std.proofs.Common.{sym, ◌∙◌, arith}
use Rattle.fields.specs.Field.{bit_of}
use Rattle.fields.proofs.Places.{bit_small, ends_within, width_small, widths_to_small}
use Rattle.wire.proofs.lay.put.Goals as goal

pub overflow_add-at : goal.overflow_add-at
overflow_add-at c = record { fits = omega (arith, bit_small c.args.field, width_small (bit_of c.args.field), widths_to_small c.args.map.bits (bit_of c.args.field)) }

pub slice_bounds-copy_from_slice-end : goal.slice_bounds-copy_from_slice-end
slice_bounds-copy_from_slice-end c = omega (arith, c.requires.room, ends_within c.args.map.bits c.args.field (sym c.has.ensures ∙ c.if-has.true))
