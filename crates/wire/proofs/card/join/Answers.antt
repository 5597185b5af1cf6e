use Rattle.std.proofs.Common.{◌+◌, ◌*◌, [], ◌∷◌, ◌++◌, get_or, sym, ap, ◌∙◌, arith, length-set}
use Rattle.std.proofs.lemmas.List.{take_more_set}
use Rattle.wire.proofs.Halves.{pairs_more}
use Rattle.wire.proofs.card.join.Goals as goal

pub loop-i-preserved : goal.loop-i-preserved
loop-i-preserved c =
    let i = c.loop-i.i in
    let hs = c.args.all.now in
    let byte = get_or hs (2 * i) 0 * 16 + get_or hs (2 * i + 1) 0 in
    let long = c.loop-i.invariant.0 in (
      simp length-set long,
      take_more_set c.loop-i.byte-items i byte (omega arith)
          ∙ ap (λ bs. bs ++ byte ∷ []) c.loop-i.invariant.1
          ∙ sym (pairs_more i hs (omega arith)),
    )
