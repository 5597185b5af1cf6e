use Rattle.std.proofs.Common.{set, sym, ap, ◌∙◌}
use Rattle.rows.proofs.First.{update_found, update_none}
use Rattle.hosts.specs.Drawer.{is_voucher, changed}
use Rattle.hosts.proofs.Drawer.{no_voucher}
use Rattle.hosts.proofs.voucher_drawer.change_voucher.Goals as goal

pub returns-in-Some : goal.returns-in-Some
returns-in-Some c =
    ap (set c.args.vouchers.now c.in-Some.place) c.changed.ensures
    ∙ sym (update_found (is_voucher c.args.pair.card) (changed c.args.pair.reference c.args.amount) c.args.vouchers.now c.in-Some.place no_voucher (c.requires.found c.in-Some.place c.in-Some.is))

pub returns-in_default : goal.returns-in_default
returns-in_default c =
    sym (update_none (is_voucher c.args.pair.card) (changed c.args.pair.reference c.args.amount) c.args.vouchers.now (c.requires.absent c.in_default.is))
