use Rattle.std.proofs.Common.{◌≤◌, ◌*◌, length, ◌+◌}
use Rattle.exports.proofs.handle_all.Given as goal

-- each message that was handled took 24 bytes of its own
abbrev pub invariant-loop-record : goal.invariant-loop-record
invariant-loop-record g l = l.handled * 24 + length l.record-iterator.b.rest.s.now ≤ length l.fn.answers
