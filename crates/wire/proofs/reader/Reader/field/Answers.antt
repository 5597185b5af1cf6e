use Rattle.std.proofs.Common.{◌≡◌, true, false, sym, ap, ◌∙◌, arith}
use Rattle.fields.specs.Field.{bit_of, length_under, stands}
use Rattle.fields.specs.Kind.{kind_number, map_of}
use Rattle.fields.proofs.Places.{bit_small, ends_within, fields_from_there, fields_from_lacking, width_small, widths_to_small}
use Rattle.wire.proofs.reader.Reader.field.Goals as goal

pub overflow_sub-self : goal.overflow_sub-self
overflow_sub-self g c =
    let map = map_of (kind_number c.args.self.now.kind) in
    let there : stands map (bit_of c.args.field) ≡ true = cc in
    omega (arith, c.requires.left, fields_from_there map (bit_of c.args.field) (bit_small c.args.field) there)

pub overflow_add-at : goal.overflow_add-at
overflow_add-at g c =
    omega (arith, bit_small c.args.field, width_small (bit_of c.args.field), widths_to_small c.map-map.result.bits (bit_of c.args.field))

pub slice_bounds-copy_from_slice-end-then-has : goal.slice_bounds-copy_from_slice-end-then-has
slice_bounds-copy_from_slice-end-then-has g c =
    let within = ends_within c.map-map.result.bits c.args.field (sym c.has.ensures ∙ c.if-has.true) in
    omega (arith, c.args.self.now.long, ap length_under c.map-map.ensures, within)

pub returns-then-has-clause-left : goal.returns-then-has-clause-left
returns-then-has-clause-left g c =
    let map = map_of (kind_number c.args.self.now.kind) in
    let there : stands map (bit_of c.args.field) ≡ true = cc in
    omega (arith, c.requires.left, fields_from_there map (bit_of c.args.field) (bit_small c.args.field) there)

pub returns-else-has-clause-left : goal.returns-else-has-clause-left
returns-else-has-clause-left g c =
    let map = map_of (kind_number c.args.self.now.kind) in
    let lacks : stands map (bit_of c.args.field) ≡ false = cc in
    omega (arith, c.requires.left, fields_from_lacking map (bit_of c.args.field) lacks)
