-- The host refuses no authorisation reversal, since it asks no more than is held.
use Rattle.std.proofs.Common.{◌≡◌, ℕ, ◌≤◌, Bool, true, false, cond, eqb, List, [], ◌∷◌, Some, None, Ok, Err, sym, refl, ap, ◌∙◌, subst, ⊎_elim, arith}
use Rattle.std.proofs.lemmas.Bool.{eqb-false, true≢false}
use Rattle.host.specs.Meaning.{PutMeans}
use Rattle.host.specs.Parts.{Assents, Holdings, PutFates}
use Rattle.host.specs.declared.Pair.{Pair}
use Rattle.host.specs.declared.PutReply.{PutReply}
use Rattle.host.specs.declared.PutReply.TheVariants.{Done, Refused, Silent}
use Rattle.host.proofs.Meaning.{refused_is_raise}
use Rattle.wire.specs.Bytes.{same_bytes}
use Rattle.wire.specs.RoundTrip.{Bytes}
use Rattle.wire.specs.declared.message.Fields.{Fields}
use Rattle.rules.specs.Ledger.{Ledger}
use Rattle.rules.specs.Outcome.{outcome_code}
use Rattle.rules.specs.Rules.{Reply, answer_of, call_of, on_put, outcome_of, pair_of, put}
use Rattle.rules.specs.declared.outcome.Outcome.TheVariants.{HostRefused}
use Rattle.rules.proofs.Outcomes.{check_apart}
use Rattle.rules.proofs.Passed.{lowers}
use Rattle.rules.proofs.Ways.{call_at}
use Rattle.law.specs.Observed.{ReversalsGranted}
use Rattle.law.specs.Booked.{booked_of}
use Rattle.law.specs.Repeats.{full}
use Rattle.law.specs.History.{Entry, Given, entry, last_given, message_of, opened, short}
use Rattle.law.specs.Reached.{Replies}
use Rattle.rules.proofs.Sames.{sames_equal}
use Rattle.law.proofs.Base.{kind_of}
use Rattle.law.proofs.Cases.{by_ways}
use Rattle.law.proofs.Holds.{Ready, ready_again, ready_lowered}
use Rattle.law.proofs.Invariants.{Holding, Kept, Recalls}

-- bytes that hold no message are no reversal
pub granted_refused : (h : List Entry) (bytes : List ℕ) (number : ℕ) → opened bytes ≡ Err number → ReversalsGranted h → ReversalsGranted (entry bytes (short number) ∷ h)
granted_refused h bytes number is g = ((λ m says two refused. let none : message_of (opened bytes) ≡ None = ap message_of is in true≢false cc), g)

-- no reversal was answered 24 last
last_granted : (h : List Entry) (bytes : List ℕ) (m : Fields) (given : Given) → ReversalsGranted h → opened bytes ≡ Ok m → last_given h bytes ≡ Some given → m.kind ≡ 2 → given.code ≡ 24 → ⊥
last_granted [] bytes m given g opens last two refused = true≢false cc
last_granted (e ∷ h) bytes m given g opens last two refused = at (same_bytes e.bytes bytes) refl last (last_granted h bytes m given g.1 opens)
  where
    at : (same : Bool) → same_bytes e.bytes bytes ≡ same → cond same (Some e.given) (last_given h bytes) ≡ Some given
        → (last_given h bytes ≡ Some given → m.kind ≡ 2 → given.code ≡ 24 → ⊥) → ⊥
    at true same here earlier =
        let answer : e.given ≡ given = cc in
        g.0 m (ap (λ b. message_of (opened b)) (sames_equal e.bytes bytes same) ∙ ap message_of opens) two (ap (λ x. x.code) answer ∙ refused)
    at false apart later earlier = earlier later two refused

-- a put of no more than is held is not refused
not_raised : (r : PutReply) {fates : PutFates} {held : Holdings} {assents : Assents} {held' : Holdings} {pair : Pair} {amount : ℕ}
    → PutMeans fates held assents held' pair amount r → amount ≤ held pair → outcome_code (outcome_of (on_put r)) ≡ 24 → ⊥
not_raised Done means within refused = omega arith
not_raised Refused means within refused = let raise = refused_is_raise means refl in omega arith
not_raised Silent means within refused = omega arith

-- what is held is the authorised amount or the amount asked, so a put of no more than is authorised
-- is not refused
put_granted : (l : Ledger) (m : Fields) (reply : Reply) (held held' : Holdings) (pair : Pair) → Ready l m held pair → m.amount ≤ (booked_of l m.xid).authorised
    → Replies (put pair m.amount) reply held held' → outcome_code (outcome_of reply) ≡ 24 → ⊥
put_granted l m reply held held' pair ready below (r, fates, assents, is, means) refused =
    let within : m.amount ≤ held pair =
    ⊎_elim (λ exact. omega arith) (λ doubt. let same = ready.asked (held pair) doubt in omega arith) (ready.holding.own m.xid pair ready.row) in
    not_raised r means within (ap (λ x. outcome_code (outcome_of x)) (sym is) ∙ refused)

-- no message adds a reversal that the host refused
pub granted_step : (h : List Entry) (l : Ledger) (bytes : List ℕ) (m : Fields) (reply : Reply) (held held' : Holdings) → Bytes bytes → opened bytes ≡ Ok m
    → Kept l → Holding l held → Recalls h l → ReversalsGranted h → Replies (call_of l m) reply held held' → ReversalsGranted (entry bytes (full (answer_of l m reply)) ∷ h)
granted_step h l bytes m reply held held' are is kept holding r g called =
    ((λ n says two. at (let same : m ≡ n = cc (ap message_of is, says) in ap (λ x. x.kind) same ∙ two)), g)
  where
    at : m.kind ≡ 2 → outcome_code (answer_of l m reply).outcome ≡ 24 → ⊥
    at two = by_ways l m held held' (λ a books. outcome_code a.outcome ≡ 24 → ⊥) (record {
      repeated = λ a known same. last_granted h bytes m (full a) g is (r.last bytes m a are is (ap (λ k. eqb k 9) two) known) two;
      put_again = λ was r called.
          put_granted l m (on_put r) held held' (pair_of l m) (ready_again l m held kept holding was) (kept.silent_below m was two) called;
      refused = λ o check why same. eqb-false _ _ (check_apart o HostRefused check refl);
      passed = λ passed reply called.
          put_granted l m reply held held' (pair_of l m) (ready_lowered l m held two passed.none holding) (omega (arith, lowers l m passed.none two))
          (subst (λ k. Replies (call_at l m k) reply held held') two called);
    }) (kind_of bytes m is) reply called
