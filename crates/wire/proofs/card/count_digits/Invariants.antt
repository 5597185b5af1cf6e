use Rattle.std.proofs.Common.{◌≡◌, ltb, take}
use Rattle.std.specs.List.{count_by}
use Rattle.wire.proofs.card.count_digits.Given as goal

abbrev pub invariant-loop-half : goal.invariant-loop-half
invariant-loop-half l = l.count ≡ count_by (λ h. ltb h 10) (take l.half-index l.all)
