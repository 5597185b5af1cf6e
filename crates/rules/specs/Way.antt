-- Which way a message goes.
use Rattle.rules.specs.declared.outcome.Outcome.{Outcome}
use Rattle.rules.specs.declared.outcome.Performed.{Performed}

-- `Again` is a repeat, answered from memory; `Retry` a repeat of a message at which the host was
-- silent, whose put is made again; `Stopped` by a check; `Through` past all checks
pub data Way : Type 0 where
  Again : Performed → Way
  Retry : Way
  Stopped : Outcome → Way
  Through : Way
