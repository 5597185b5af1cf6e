-- What a message finds in the books: what the checks look at, and where its rows stand.
use Rattle.std.specs.Prelude.{◌≡◌, ℕ, ◌+◌, Bool, List, length}
use Rattle.std.specs.Option.{unwrap_or}
use Rattle.host.specs.declared.Pair.{Pair}
use Rattle.rows.specs.First.{first_with}
use Rattle.wire.specs.declared.message.Fields.{Fields}
use Rattle.rules.specs.Ledger.{Ledger, facts_of, of_batch, of_xid, purchase_in}
use Rattle.rules.specs.Rules.{pair_for}
use Rattle.rules.specs.declared.facts.Facts.{Facts}
use Rattle.rules.specs.declared.found.Found.{Found}
use Rattle.rules.specs.declared.found.Places.{Places}

-- the place of the first row that passes, or of the next row
abbrev pub place_in : {R : Type 0} → (R → Bool) → List R → ℕ
place_in test rows = unwrap_or (first_with test rows) (length rows)

abbrev pub places_of : Ledger → Fields → Places
places_of l m = record {
  purchase = place_in (of_xid m.xid) l.purchases;
  batch = place_in (of_batch m.course m.batch) l.batches;
}

-- a message finds this in these books
pub record Finds (found : Found) (l : Ledger) (m : Fields) : Type 0 where
  pub facts : found.facts ≡ facts_of l m
  pub places : found.places ≡ places_of l m

-- the card and the reference that its host call is made under
abbrev pub pair_in : Facts → Places → Fields → Pair
pair_in f places m = pair_for (purchase_in f) (places.purchase + 1) m
