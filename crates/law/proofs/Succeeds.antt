-- Which entries succeed: a repeat does not, and what was not answered yet, or by 25, was not done
-- before.
use Rattle.std.proofs.Common.{◌≡◌, ℕ, Bool, true, false, not, ◌&&◌, eqb, List, Some, None, Ok, Option, refl, ap, ◌∙◌}
use Rattle.std.proofs.lemmas.Bool.{eqb-true}
use Rattle.wire.specs.RoundTrip.{Bytes}
use Rattle.wire.specs.declared.message.Fields.{Fields}
use Rattle.rules.specs.Ledger.{Ledger}
use Rattle.rules.specs.Outcome.{outcome_code}
use Rattle.rules.specs.Rules.{is_silent}
use Rattle.rules.specs.declared.outcome.Performed.{Performed}
use Rattle.rules.proofs.Ways.{recalled}
use Rattle.law.specs.Repeats.{full}
use Rattle.law.specs.History.{Entry, entry, opened, succeeded_before, succeeds}
use Rattle.law.proofs.Invariants.{Recalls, is_done}

-- what was not done before succeeds just under code 0
pub succeeds_new : (h : List Entry) (bytes : List ℕ) (a : Performed) → succeeded_before h bytes ≡ false → succeeds (entry bytes (full a)) h ≡ eqb (outcome_code a.outcome) 0
succeeds_new h bytes a new = ap (λ t. eqb (outcome_code a.outcome) 0 && not t) new ∙ whole (eqb (outcome_code a.outcome) 0)
  where
    whole : (t : Bool) → (t && true) ≡ t
    whole true = refl
    whole false = refl

module _ (h : List Entry) (l : Ledger) (bytes : List ℕ) (m : Fields) (are : Bytes bytes) (is : opened bytes ≡ Ok m) (kind : eqb m.kind 9 ≡ false) (r : Recalls h l) where
  -- what is remembered says whether the bytes were done before
  done_by : (o : Option Performed) → recalled l m ≡ o → succeeded_before h bytes ≡ is_done o
  done_by o recall = r.done bytes m are is kind ∙ ap is_done recall

  -- what is not remembered, or with 25, was not done before
  pub fresh : recalled l m ≡ None → succeeded_before h bytes ≡ false
  fresh new = done_by None new

  pub fresh_silent : (a : Performed) → recalled l m ≡ Some a → is_silent a ≡ true → succeeded_before h bytes ≡ false
  fresh_silent a known silent = done_by (Some a) known ∙ ap (λ n. eqb n 0) (eqb-true (outcome_code a.outcome) 25 silent)

  -- a repeat does not succeed again
  pub again_not : (a : Performed) → recalled l m ≡ Some a → succeeds (entry bytes (full a)) h ≡ false
  again_not a known = ap (λ t. eqb (outcome_code a.outcome) 0 && not t) (done_by (Some a) known) ∙ never (eqb (outcome_code a.outcome) 0)
    where
      never : (t : Bool) → (t && not t) ≡ false
      never true = refl
      never false = refl
