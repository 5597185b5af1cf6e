-- What decides a put that is heard, and what one read that is heard makes of a host.
use Rattle.std.specs.Prelude.{◌≡◌, Bool}
use Rattle.host.specs.Parts.{Pence, Holdings, Assents}
use Rattle.host.specs.Meaning.{grants}
use Rattle.host.specs.declared.Pair.{Pair}
use Rattle.host.specs.declared.ReadReply.{ReadReply}
use Rattle.host.specs.declared.ReadReply.TheVariants.{Holds}

-- it is no raise of what is held, or has assent
abbrev pub granted : Holdings → Assents → Pair → Pence → Bool
granted held assent pair amount = grants (held pair) (assent pair amount) amount

-- one read: it replies what is held, and leaves the very same value
pub record HeardReadStep
    {H : Type 0} (held : H → Holdings) (before : H) (pair : Pair) (r : ReadReply) (after : H)
    : Type 0 where
  pub reply : r ≡ Holds (held before pair)
  pub same : after ≡ before
