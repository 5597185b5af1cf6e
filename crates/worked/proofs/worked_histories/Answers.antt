use Rattle.std.proofs.Common.{refl}
use Rattle.law.specs.History.{opened}
use Rattle.worked.specs.Histories.{WorkedHistories}
use Rattle.worked.proofs.worked_histories.Goals as goal

worked : WorkedHistories
unfolding opened
worked = record {
  two_purchases = refl;
  p_amounts = (refl, refl, refl);
  q_declined = refl;
  one_batch = (refl, refl, refl);
  in_doubt = (refl, refl);
  settled = (refl, refl);
  undone_answers = refl;
  undone_sums = (refl, refl, refl, refl);
  while_open = refl;
}

pub returns : goal.returns
returns c = worked
