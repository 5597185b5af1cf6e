-- What the remembered answers say of a message: which way it goes, or that the checks decide it.
use Rattle.std.specs.Prelude.{◌≡◌, ℕ, true, false, is_some, Some, None, ◌==◌, if◌then◌else◌}
use Rattle.fields.specs.Kind.{kind_number}
use Rattle.fields.specs.declared.kind.Kind.TheVariants.{Inquiry}
use Rattle.wire.specs.declared.message.Fields.{Fields}
use Rattle.rules.specs.Checks.{book_checks, refusal}
use Rattle.rules.specs.Found.{place_in}
use Rattle.rules.specs.Ledger.{Ledger, facts_of, of_request, purchase_row}
use Rattle.rules.specs.Rules.{choose, is_silent, way}
use Rattle.rules.specs.Same.{same_fields}
use Rattle.rules.specs.Way.{Again, Retry, Stopped}
use Rattle.rules.specs.declared.outcome.Outcome.TheVariants.{RequestNumberUsed}
use Rattle.rules.specs.declared.remembered.Recalled.{Recalled}
use Rattle.rules.specs.declared.remembered.Recalled.TheVariants.{Answered, Used, Open}
use Rattle.rules.specs.declared.remembered.Remembered.{Remembered}

-- what the row under a message's request number, at this place, says of it
abbrev pub recalled_in : Remembered → ℕ → Fields → Recalled
recalled_in r place m =
    if same_fields r.fields m
    then (if is_silent r.answer then Open (Some place) else Answered r.answer)
    else Used

-- it is what the rules say, and what was not answered by the host has its purchase in the books
abbrev pub Recalls : Recalled → Ledger → Fields → Type 0
Recalls (Answered answer) l m = way l m ≡ Again answer
Recalls Used l m = way l m ≡ Stopped RequestNumberUsed
Recalls (Open None) l m =
    way l m ≡ choose None None (refusal m.kind (book_checks (facts_of l m) m))
Recalls (Open (Some place)) l m =
    (way l m ≡ Retry)
    × (place ≡ place_in (of_request m.course m.request) l.answers)
    × (is_some (purchase_row l m) ≡ true)
    × ((m.kind == kind_number Inquiry) ≡ false)
