-- What performing a message answers, and what it leaves in the books and in the host: by the rules,
-- and the host's meaning.
use Rattle.std.specs.Prelude.{◌≡◌}
use Rattle.host.specs.Meaning.{put_answer, read_answer}
use Rattle.host.specs.Parts.{SameHeld}
use Rattle.host.specs.declared.Host.{Ghosts as HostMeaning}
use Rattle.wire.specs.declared.message.Fields.{Fields}
use Rattle.rules.specs.Ledger.{Ledger}
use Rattle.rules.specs.Rules.{Call, no_call, put, read, Reply, answer_of, books_after, call_of, held_after_call, reply_of}
use Rattle.rules.specs.declared.outcome.Performed.{Performed}

-- over a host, by its meaning
module _ {H : Type 0} (h : HostMeaning H) where
  -- what this host replies to a call
  abbrev pub reply : H → Call → Reply
  reply host call = reply_of (h.put_fate host) (h.read_fate host) (h.held host) (h.assent host) call

  -- exactly this call was made: without one the host is the same value; else it is what one such
  -- call leaves, with the reply that the answer and the books go by
  abbrev pub Made : Call → H → H → Type 0
  Made no_call host host' = host' ≡ host
  Made (put pair amount) host host' =
      let answer = put_answer (h.put_fate host) (h.held host) (h.assent host) pair amount in
      h.put_step host pair amount answer host'
  Made (read pair) host host' =
      h.read_step host pair (read_answer (h.read_fate host) (h.held host) pair) host'

  -- the host after a call: exactly this call was made, and every amount held is the meaning's
  pub record Called (call : Call) (host host' : H) : Type 0 where
    pub made : Made call host host'
    pub holds :
        let held = held_after_call (h.put_fate host) (h.held host) (h.assent host) call in
        SameHeld (h.held host') held

  -- performing: the answer, the books after it and the host after it
  pub record Performs
      (m : Fields) (l : Ledger) (host : H) (r : Performed) (l' : Ledger) (host' : H)
      : Type 0 where
    pub answer : r ≡ answer_of l m (reply host (call_of l m))
    pub books : l' ≡ books_after l m (reply host (call_of l m))
    pub called : Called (call_of l m) host host'
