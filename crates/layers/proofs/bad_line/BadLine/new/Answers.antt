use Rattle.std.proofs.Common.{◌≡◌, take, IsOk, ap, ◌∙◌, arith}
use Rattle.std.proofs.lemmas.Grind.{common_steps}
use Rattle.std.proofs.lemmas.List.{length-take, take_min}
use Rattle.layers.proofs.bad_line.BadLine.new.Goals as goal

pub returns-clause-marks : goal.returns-clause-marks
returns-clause-marks g c =
    let fits : IsOk c.try_extend_from_slice.result = c.try_extend_from_slice.ensures.variant.1 (rw (c.new-left.ensures, length-take) (omega arith)) in
    let copied : c.try_extend_from_slice.new.self.items ≡ take c.min-count.result c.args.marks.now = grind (arith, common_steps) in
    c.into_iter.ensures.into_iter_gives.0 ∙ copied ∙ ap (λ k. take k c.args.marks.now) c.min-count.ensures ∙ take_min 64 c.args.marks.now
