use Rattle.std.proofs.Common.{◌≡◌, ◌++◌, map, take, drop}
use Rattle.hosts.specs.Drawer.{unused}
use Rattle.hosts.proofs.voucher_drawer.clear.Given as goal

abbrev pub invariant-loop-voucher : goal.invariant-loop-voucher
invariant-loop-voucher l = l.vouchers ≡ map unused (take l.voucher-index l.initial.vouchers) ++ drop l.voucher-index l.initial.vouchers
