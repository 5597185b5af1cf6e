-- Handling by its three cases: no room, a message, bytes that hold none.
use Rattle.std.proofs.Common.{◌≡◌, ℕ, Bool, true, false, cond, ltb, List, length, Some, Ok, Err, Result, sym, refl, ap, ◌∙◌, subst}
use Rattle.fields.specs.Kind.{kind_number}
use Rattle.fields.specs.Refusal.{refusal_number}
use Rattle.fields.specs.declared.kind.Kind.{Kind}
use Rattle.fields.specs.declared.refusal.Refusal.{Refusal}
use Rattle.host.specs.declared.Host.{Ghosts as HostMeaning}
use Rattle.wire.specs.Answer.{full_into, short_into}
use Rattle.wire.specs.Buffer.{over_front}
use Rattle.wire.specs.Checks.{first_failing, unless}
use Rattle.wire.specs.Opening.{message_in, opening_checks, opening_on}
use Rattle.wire.specs.RoundTrip.{Bytes}
use Rattle.wire.specs.Strip.{blanked, strip_length}
use Rattle.wire.specs.Writing.{bytes_for}
use Rattle.wire.specs.declared.message.Fields.{Fields}
use Rattle.rules.specs.Ledger.{Ledger}
use Rattle.rules.specs.declared.outcome.Performed.{Performed}
use Rattle.law.specs.Repeats.{full}
use Rattle.law.specs.Carried.{CarriesLaw, spelling}
use Rattle.law.specs.History.{opened, short}
use Rattle.law.proofs.Carrying.{carries_short, lawful, spelled_so}
use Rattle.gateway.specs.Handling.{Handles, HandlesLaw, answer_to}
use Rattle.gateway.specs.Performing.{Performs}
use Rattle.gateway.specs.declared.handled.Handled.{Handled}
use Rattle.gateway.specs.declared.handled.Handled.TheVariants.{NoRoom, Short, Full}

-- on a strip that is long enough, opening goes by the bytes alone
pub opened_on : (strip : ℕ) (bytes : List ℕ) → ltb strip strip_length ≡ false → opening_on strip bytes ≡ opened bytes
unfolding opened
opened_on strip bytes enough = ap (λ t. unless (cond t (Some 1) (first_failing (opening_checks bytes))) (message_in bytes)) enough

module _ {H : Type 0} (h : HostMeaning H) (none : Bool) (bytes : List ℕ) (l : Ledger) (host : H) (buffer strip : List ℕ) where
  abbrev Rules : Bool → Result Fields ℕ → Handled → Ledger → H → List ℕ → List ℕ → Type 0
  Rules t o r l' host' buffer' strip' = Handles h l host buffer strip r l' host' buffer' strip' t o

  -- nothing was done
  pub refused_for_room : none ≡ true → Rules none (opened bytes) NoRoom l host buffer strip
  refused_for_room is =
      subst (λ t. Rules t (opened bytes) NoRoom l host buffer strip) (sym is)
      (record { answer = refl; same_buffer = refl; same_strip = refl; same_books = refl; same_host = refl })

  pub no_room_law : none ≡ true → HandlesLaw none h.held bytes (short 1) l host l host
  no_room_law is = subst (λ t. HandlesLaw t h.held bytes (short 1) l host l host) (sym is) (λ before reached. lawful h.held before l host reached)

  module _ (room : none ≡ false) (l' : Ledger) (host' : H) (buffer' strip' : List ℕ) (blank : strip' ≡ blanked strip) where
    -- a message was performed
    pub performed : (m : Fields) → opened bytes ≡ Ok m → (k : Kind) → kind_number k ≡ m.kind → (a : Performed) → Performs h m l host a l' host' → buffer' ≡ over_front (full_into (length buffer) (answer_to m a)) buffer → Rules none (opened bytes) (Full k a) l' host' buffer' strip'
    performed m is k kind a p written =
        subst (λ t. Rules t (opened bytes) (Full k a) l' host' buffer' strip') (sym room)
        (subst (λ o. Rules false o (Full k a) l' host' buffer' strip') (sym is)
        (record {
          answer = ap full p.answer;
          kind = ap Some kind;
          rules = record { answer = refl; books = p.books; called = p.called };
          written = written ∙ ap (λ x. over_front (full_into (length buffer) (answer_to m x)) buffer) p.answer;
          blank = blank;
        }))

    pub performed_law : (m : Fields) → bytes_for m ≡ bytes → (a : Performed) → CarriesLaw h.held (spelling m) (full a) l host l' host' → HandlesLaw none h.held bytes (full a) l host l' host'
    performed_law m own a law =
        subst (λ t. HandlesLaw t h.held bytes (full a) l host l' host') (sym room) (subst (λ b. CarriesLaw h.held b (full a) l host l' host') (spelled_so m bytes own) law)

    -- the bytes hold no message
    module _ (books : l' ≡ l) (same : host' ≡ host) (refusal : Refusal) (is : opened bytes ≡ Err (refusal_number refusal)) where
      pub refused : buffer' ≡ over_front (short_into (length buffer) (refusal_number refusal)) buffer → Rules none (opened bytes) (Short refusal) l' host' buffer' strip'
      refused written =
          subst (λ t. Rules t (opened bytes) (Short refusal) l' host' buffer' strip') (sym room)
          (subst (λ o. Rules false o (Short refusal) l' host' buffer' strip') (sym is)
          (record { answer = refl; kind = refl; written = written; blank = blank; same_books = books; same_host = same }))

      pub refused_law : Bytes bytes → HandlesLaw none h.held bytes (short (refusal_number refusal)) l host l' host'
      refused_law are =
          subst (λ t. HandlesLaw t h.held bytes (short (refusal_number refusal)) l host l' host') (sym room) (carries_short h.held bytes (refusal_number refusal) are is l l' host host' books same)
