-- What each cause says of a message and of what it finds. A is authorised, C captured, R credited.
use Rattle.std.specs.Prelude.{Bool, not, ◌&&◌, ◌||◌, is_some, ◌==◌, nat_le, nat_lt}
use Rattle.host.specs.Parts.{same_card}
use Rattle.wire.specs.declared.message.Fields.{Fields}
use Rattle.rules.specs.Ledger.{batch_in, most_answers, most_batches, most_purchases, purchase_in, uncredited}
use Rattle.rules.specs.MessageCard.{message_card}
use Rattle.rules.specs.declared.checks.Cause.{Cause}
use Rattle.rules.specs.declared.checks.Cause.TheVariants.{NoRowForAnswer, NoSuchPurchase, OtherCourse, OtherCard, HasDoubt, SomeAuthorised, NoRowForPurchase, NoneAuthorised, SomeCaptured, NoneCaptured, NotBelowAuthorised, AboveAuthorised, AboveUncredited, AboveCredited, NoSuchBatch, ClosedBatch, CreditedOrOpenElsewhere, BatchExists, NoRowForBatch}
use Rattle.rules.specs.declared.facts.Facts.{Facts}

abbrev pub holds : Cause → Facts → Fields → Bool
holds NoRowForAnswer f m = nat_le most_answers f.answers
holds NoSuchPurchase f m = not (is_some f.purchase)
holds OtherCourse f m = is_some f.purchase && not ((purchase_in f).course == m.course)
holds OtherCard f m = is_some f.purchase && not (same_card (purchase_in f).card (message_card m))
holds HasDoubt f m = is_some (purchase_in f).doubt
holds SomeAuthorised f m = nat_lt 0 (purchase_in f).authorised
holds NoRowForPurchase f m = nat_le most_purchases f.purchases && not (is_some f.purchase)
holds NoneAuthorised f m = (purchase_in f).authorised == 0
holds SomeCaptured f m = nat_lt 0 (purchase_in f).captured
holds NoneCaptured f m = (purchase_in f).captured == 0
holds NotBelowAuthorised f m = nat_le (purchase_in f).authorised m.amount
holds AboveAuthorised f m = nat_lt (purchase_in f).authorised m.amount
holds AboveUncredited f m = nat_lt (uncredited (purchase_in f)) m.amount
holds AboveCredited f m = nat_lt (purchase_in f).credited m.amount
holds NoSuchBatch f m = not (is_some f.batch)
holds ClosedBatch f m = (batch_in f).closed
holds CreditedOrOpenElsewhere f m =
    nat_lt 0 (purchase_in f).credited
    || (f.captured_in_open && not ((purchase_in f).batch == m.batch))
holds BatchExists f m = is_some f.batch
holds NoRowForBatch f m = nat_le most_batches f.batches
