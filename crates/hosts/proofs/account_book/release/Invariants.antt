use Rattle.std.proofs.Common.{◌≡◌, ◌++◌, map, take, drop}
use Rattle.hosts.specs.Book.{freed}
use Rattle.hosts.proofs.account_book.release.Given as goal

abbrev pub invariant-loop-hold : goal.invariant-loop-hold
invariant-loop-hold l = l.holds ≡ map (freed l.pair) (take l.hold-index l.initial.holds) ++ drop l.hold-index l.initial.holds
