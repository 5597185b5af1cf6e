-- A call that does what the rules say carries the law.
use Rattle.std.proofs.Common.{◌≡◌, ℕ, ◌<◌, false, List, [], ◌∷◌, length, get_or, is_some, Ok, Err, sym, refl, ap, ◌∙◌, subst}
use Rattle.host.specs.Meaning.{put_answer, read_answer}
use Rattle.host.specs.Parts.{Assents, Holdings, PutFates, ReadFates, SameHeld}
use Rattle.host.proofs.Meaning.{put_means, read_means}
use Rattle.wire.specs.Checks.{first_failing}
use Rattle.wire.specs.Opening.{message_in, opening_checks}
use Rattle.wire.specs.RoundTrip.{Bytes}
use Rattle.wire.specs.Writing.{bytes_for}
use Rattle.wire.proofs.Accepted.{opens_again, spelled_bytes}
use Rattle.wire.proofs.Trips.{own_bytes}
use Rattle.wire.specs.declared.message.Fields.{Fields}
use Rattle.rules.specs.Ledger.{Ledger, no_ledger}
use Rattle.rules.specs.Rules.{Call, Reply, answer_of, books_after, call_of, held_after_call, no_call, put, read, reply_of}
use Rattle.rules.specs.declared.outcome.Performed.{Performed}
use Rattle.law.specs.Repeats.{RepeatsOf, full}
use Rattle.law.specs.Carried.{AnsweredAgain, BeginsLaw, CarriesLaw, Lawful, spelling}
use Rattle.law.specs.History.{Entry, entry, opened, short}
use Rattle.law.specs.Reached.{HandledByRules, Reached, Replies}
use Rattle.law.proofs.Law.{law_over_runs}

-- an opened message by its own bytes
pub spelling_opens : (m : Fields) → is_some (first_failing (opening_checks (bytes_for m))) ≡ false → message_in (bytes_for m) ≡ m → opened (spelling m) ≡ Ok m
unfolding opened spelling
spelling_opens m opens spelled = opens_again m opens spelled

pub spelling_bytes : (m : Fields) → ((k : ℕ) → k < length (bytes_for m) → get_or (bytes_for m) k 0 < 256) → Bytes (spelling m)
unfolding spelling
spelling_bytes m each = spelled_bytes m each

pub spelled_so : (m : Fields) (bytes : List ℕ) → bytes_for m ≡ bytes → spelling m ≡ bytes
unfolding spelling
spelled_so m bytes is = is

pub own_spelling : (bytes : List ℕ) (m : Fields) → Bytes bytes → opened bytes ≡ Ok m → spelling m ≡ bytes
unfolding opened spelling
own_spelling bytes m are is = own_bytes bytes are m is

-- a host's reply to a call, and what it holds after, are among those that its meaning allows
pub replies_of : (fates : PutFates) (read_fates : ReadFates) (held held' : Holdings) (assents : Assents) (call : Call) → SameHeld held' (held_after_call fates held assents call) → Replies call (reply_of fates read_fates held assents call) held held'
replies_of fates read_fates held held' assents no_call holds = (refl, holds)
replies_of fates read_fates held held' assents (put pair amount) holds =
    (put_answer fates held assents pair amount, fates, assents, refl, put_means fates held assents held' pair amount _ refl holds)
replies_of fates read_fates held held' assents (read pair) holds =
    (read_answer read_fates held pair, read_fates, refl, read_means read_fates held held' pair _ refl holds)

-- the law stands of what is reached
pub lawful : {H : Type 0} (held : H → Holdings) (h : List Entry) (l : Ledger) (host : H) → Reached h l (held host) → Lawful held h l host
lawful held h l host reached = record { reached = reached; stands = law_over_runs h l (held host) reached }

pub begins : {H : Type 0} (held : H → Holdings) (l : Ledger) (host : H) → l ≡ no_ledger → BeginsLaw held l host
begins held l host empty nothing = lawful held [] l host (empty, nothing)

-- a message that is performed by the rules
module _ {H : Type 0} (held : H → Holdings) (bytes : List ℕ) (m : Fields) (are : Bytes bytes) (is : opened bytes ≡ Ok m) (l l' : Ledger) (host host' : H) (a : Performed) (reply : Reply)
    (called : Replies (call_of l m) reply (held host) (held host')) (uncalled : call_of l m ≡ no_call → host' ≡ host) (answer : a ≡ answer_of l m reply) (books : l' ≡ books_after l m reply) where
  longer : (h : List Entry) → Reached h l (held host) → Reached (entry bytes (full a) ∷ h) l' (held host')
  longer h reached =
      (l, held host, reached, are, subst (λ o. HandledByRules o (full a) l (held host) l' (held host')) (sym is) (record { reply = reply; called = called; answer = ap full answer; books = books }))

  again : (h : List Entry) → Reached h l (held host) → AnsweredAgain h bytes (full a) l host l' host'
  again h reached other last given not_silent =
      let r = subst (λ o. RepeatsOf o last l) is ((law_over_runs h l (held host) reached).repeats bytes other last given not_silent) in
      (ap full answer ∙ r.same_answer reply, books ∙ r.same_books reply, uncalled r.makes_no_call)

  pub carries : CarriesLaw held bytes (full a) l host l' host'
  carries h reached = record { lawful = lawful held _ l' host' (longer h reached); repeated = again h reached }

-- bytes that are not opened
pub carries_short : {H : Type 0} (held : H → Holdings) (bytes : List ℕ) (number : ℕ) → Bytes bytes → opened bytes ≡ Err number → (l l' : Ledger) (host host' : H) → l' ≡ l → host' ≡ host → CarriesLaw held bytes (short number) l host l' host'
carries_short held bytes number are is l l' host host' books same h reached = record {
  lawful = lawful held _ l' host'
      (l, held host, reached, are, subst (λ o. HandledByRules o (short number) l (held host) l' (held host')) (sym is) (record { answer = refl; books = books; same = λ pair. ap (λ x. held x pair) same }));
  repeated = λ other last given not_silent. (subst (λ o. RepeatsOf o last l) is ((law_over_runs h l (held host) reached).repeats bytes other last given not_silent), books, same);
}
