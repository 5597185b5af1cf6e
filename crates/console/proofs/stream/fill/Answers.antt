use Rattle.std.proofs.Common.{◌++◌, ◌-◌, ◌+◌, rules, arith, length, take, sym, ap, ◌∙◌, subst, le_refl}
use Rattle.std.proofs.lemmas.Slice.{take-put_mid_below}
use Rattle.std.specs.Io.KnownBytes.{Consumes}
use Rattle.std.proofs.KnownBytes.{Consumes-trans, Consumes-kept}
use borrow.Rule.Slice.PartMut.{put_mid}
use Rattle.console.proofs.Streamed.{take_split, range_written}
use Rattle.console.proofs.stream.fill.Goals.{in-Ok, in-Err+else-ne}
use Rattle.console.proofs.stream.fill.Goals as goal

pub loop-preserved : goal.loop-preserved
loop-preserved g c =
    let from = c.loop.at in
    let room = length c.loop.room - from in
    let within = c.loop.invariant.1 in
    let front = take-put_mid_below _ _ _ _ _ (le_refl _) within in
    elim c.match-read.branch [
      | in-Ok w ↦
          let part = range_written from room w.in-Ok.count c.loop.room c.read.new.buf within w.in-Ok.ensures.bound.0 in
          let joined = take_split from (from + w.in-Ok.count) c.loop.room (put_mid from room c.loop.room c.read.new.buf) (omega arith) front in
          rw w.at-is (search rules, search rules, subst (Consumes _ _) (ap (λ l. take from c.loop.room ++ l) (sym part) ∙ joined) (Consumes-trans _ _ _ _ _ c.loop.invariant.2 w.in-Ok.ensures.bytes.0))
      | in-Err+else-ne w ↦
          rw w.at-is (search rules, search rules, subst (Consumes _ _) (sym front) (Consumes-kept _ _ _ _ c.loop.invariant.2 w.in-Err.ensures.bytes))
    ]
