use Rattle.std.proofs.Common.{refl, rules}
use Rattle.layers.proofs.bad_line.BadLine.carry.Goals as goal

pub returns-in-Heard : goal.returns-in-Heard
returns-in-Heard g c = record { marks = c.spend.ensures.marks; below = rw (← c.in-Heard.ensures.fate) (search rules) }

pub returns-in-LostReturning : goal.returns-in-LostReturning
returns-in-LostReturning g c =
    record { marks = c.spend.ensures.marks; below = rw (← c.in-LostReturning.ensures.fate) (refl, (c.call-in-LostReturning.result, search rules)) }
