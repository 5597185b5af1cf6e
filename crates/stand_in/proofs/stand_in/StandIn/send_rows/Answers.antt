use Rattle.std.proofs.Common.{◌≡◌, length, ap, arith}
use Rattle.stand_in.proofs.Sent.{sent_turn, sent_all}
use Rattle.stand_in.proofs.stand_in.StandIn.send_rows.Goals as goal

pub loop-place-preserved : goal.loop-place-preserved
loop-place-preserved g c =
    let long : length c.rows-place-end.result.now ≡ length c.args.self.now.rows = ap length c.rows-place-end.ensures.rows in
    sent_turn g.H.Host.put_step g.H.Host.held c.loop-place.place c.args.self.now c.loop-place.self c.send_row.new.self
    (omega (arith, c.loop-place-test.true, long, c.loop-place.invariant.long)) c.loop-place.invariant c.send_row.ensures.row c.send_row.ensures.holds

pub returns-clause-rows : goal.returns-clause-rows
returns-clause-rows g c =
    let long : length c.rows-place-end.result.now ≡ length c.args.self.now.rows = ap length c.rows-place-end.ensures.rows in
    sent_all g.H.Host.put_step g.H.Host.held c.loop-place.place c.args.self.now c.loop-place.self (omega (arith, c.loop-place-test.false, long)) c.loop-place.invariant
