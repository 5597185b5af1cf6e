-- The reply to a put and to a read, and what is held after it, from the four parts as they were
-- before the call.
use Rattle.std.specs.Prelude.{◌≡◌, Bool, true, false, if◌then◌else◌, ◌||◌, ◌⊎◌, nat_le}
use Rattle.host.specs.Parts.{Pence, Holdings, Assents, PutFates, ReadFates, SameHeld, same_pair}
use Rattle.host.specs.declared.Pair.{Pair}
use Rattle.host.specs.declared.Fate.{Fate}
use Rattle.host.specs.declared.Fate.TheVariants.{Heard, LostGoing, LostReturning}
use Rattle.host.specs.declared.PutReply.{PutReply}
use Rattle.host.specs.declared.PutReply.TheVariants.{Done, Refused, Silent}
use Rattle.host.specs.declared.ReadReply.{ReadReply}
use Rattle.host.specs.declared.ReadReply.TheVariants.{Holds, Silent as NoAnswer}

-- a put that is heard is granted if the amount is at most what is held, or the host assents
abbrev pub grants : Pence → Bool → Pence → Bool
grants held assent amount = nat_le amount held || assent

-- what a heard put makes of held
abbrev pub heard_put : Pence → Bool → Pence → Pence
heard_put held assent amount = if grants held assent amount then amount else held

abbrev pub put_reply : Fate → Pence → Bool → Pence → PutReply
put_reply Heard held assent amount = if grants held assent amount then Done else Refused
put_reply LostGoing held assent amount = Silent
put_reply LostReturning held assent amount = Silent

abbrev pub put_held : Fate → Pence → Bool → Pence → Pence
put_held Heard held assent amount = heard_put held assent amount
put_held LostGoing held assent amount = held
put_held LostReturning held assent amount = heard_put held assent amount

abbrev pub read_reply : Fate → Pence → ReadReply
read_reply Heard held = Holds held
read_reply LostGoing held = NoAnswer
read_reply LostReturning held = NoAnswer

-- all that is held after a put: the new amount at its pair, and what was held at any other
abbrev pub held_after : Holdings → Pair → Pence → Holdings
held_after held pair amount pair' = if same_pair pair' pair then amount else held pair'

-- the reply to a put, and all that is held after it
abbrev pub put_answer : PutFates → Holdings → Assents → Pair → Pence → PutReply
put_answer fate held assent pair amount =
    put_reply (fate pair amount) (held pair) (assent pair amount) amount

abbrev pub held_after_put : PutFates → Holdings → Assents → Pair → Pence → Holdings
held_after_put fate held assent pair amount =
    held_after held pair (put_held (fate pair amount) (held pair) (assent pair amount) amount)

-- the reply to a read
abbrev pub read_answer : ReadFates → Holdings → Pair → ReadReply
read_answer fate held pair = read_reply (fate pair) (held pair)

-- what each reply to a put says of the fate, and of the amounts held before and after
abbrev pub PutSays : PutReply → Fate → Bool → Pence → Pence → Pence → Type 0
PutSays Done fate assent amount before after =
    (fate ≡ Heard) × (grants before assent amount ≡ true) × (after ≡ amount)
PutSays Refused fate assent amount before after =
    (fate ≡ Heard) × (grants before assent amount ≡ false) × (after ≡ before)
PutSays Silent fate assent amount before after =
    ((fate ≡ LostGoing) × (after ≡ before))
    ⊎ ((fate ≡ LostReturning) × (after ≡ heard_put before assent amount))

-- what each reply to a read says of the fate and of the amount held
abbrev pub ReadSays : ReadReply → Fate → Pence → Type 0
ReadSays (Holds amount) fate held = (fate ≡ Heard) × (amount ≡ held)
ReadSays NoAnswer fate held = (fate ≡ LostGoing) ⊎ (fate ≡ LostReturning)

-- all that a put promises: its reply, every amount held after, and what the reply says
pub record PutMeans
    (fate : PutFates) (held : Holdings) (assent : Assents) (held' : Holdings)
    (pair : Pair) (amount : Pence) (r : PutReply)
    : Type 0 where
  pub reply : r ≡ put_answer fate held assent pair amount
  pub holds : SameHeld held' (held_after_put fate held assent pair amount)
  pub says : PutSays r (fate pair amount) (assent pair amount) amount (held pair) (held' pair)

-- all that a read promises: its reply, that no amount held has changed, and what the reply says
pub record ReadMeans
    (fate : ReadFates) (held held' : Holdings) (pair : Pair) (r : ReadReply)
    : Type 0 where
  pub reply : r ≡ read_answer fate held pair
  pub holds : SameHeld held' held
  pub says : ReadSays r (fate pair) (held pair)
