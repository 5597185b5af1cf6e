use Rattle.std.proofs.Common.{◌≡◌, ◌+◌, take}
use Rattle.hosts.specs.Book.{other_holds}
use Rattle.hosts.proofs.account_book.covers.Given as goal

abbrev pub invariant-loop-hold : goal.invariant-loop-hold
invariant-loop-hold l = l.left + (l.amount + other_holds (take l.hold-index l.holds) l.pair) ≡ l.balance
