use Rattle.stand_in.proofs.Sent.{SentSoFar}
use Rattle.stand_in.proofs.stand_in.StandIn.send_rows.Given as goal

abbrev pub invariant-loop-place : goal.invariant-loop-place
invariant-loop-place g l = SentSoFar g.H.Host.put_step g.H.Host.held l.place l.initial.self l.self
