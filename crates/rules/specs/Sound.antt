-- What always holds of the rows of the books, so that no sum wraps, no difference goes below 0 and
-- no row is missing.
use Rattle.std.specs.Prelude.{ℕ, suc, ◌*◌, Bool, not, ◌&&◌, ◌||◌, List, ℤ, pos, negsuc, is_some, ◌==◌, nat_le}
use Rattle.std.specs.List.{list_all}
use Rattle.fields.specs.Kind.{kind_number, most_pence}
use Rattle.fields.specs.declared.kind.Kind.TheVariants.{Inquiry}
use Rattle.rows.specs.First.{row_with}
use Rattle.rules.specs.Ledger.{of_xid}
use Rattle.rules.specs.Rules.{is_silent}
use Rattle.rules.specs.declared.batch.Batch.{Batch}
use Rattle.rules.specs.declared.purchase.Purchase.{Purchase}
use Rattle.rules.specs.declared.remembered.Remembered.{Remembered}

-- credited is at most captured, and that at most a message's largest amount
abbrev pub sound_purchase : Purchase → Bool
sound_purchase p = nat_le p.credited p.captured && nat_le p.captured most_pence

abbrev pub all_sound : List Purchase → Bool
all_sound purchases = list_all sound_purchase purchases

-- so many messages move a total by at most so much
abbrev pub most_total : ℕ → ℕ
most_total n = most_pence * n

abbrev pub size : ℤ → ℕ
size (pos n) = n
size (negsuc n) = suc n

abbrev pub within : ℕ → Batch → Bool
within most b = nat_le (size b.total) most

abbrev pub all_within : ℕ → List Batch → Bool
all_within most batches = list_all (within most) batches

-- a remembered answer is of no inquiry, and where it is the host's silence, its purchase has a row
abbrev pub sound_answer : List Purchase → Remembered → Bool
sound_answer purchases r =
    not (r.fields.kind == kind_number Inquiry)
    && (not (is_silent r.answer) || is_some (row_with (of_xid r.fields.xid) purchases))

abbrev pub all_answers_sound : List Purchase → List Remembered → Bool
all_answers_sound purchases answers = list_all (sound_answer purchases) answers
