use Rattle.law.proofs.Between.{kept_between}
use Rattle.law.proofs.Carrying.{own_spelling}
use Rattle.law.proofs.Law.{law_over_runs}
use Rattle.law.proofs.law_over_runs.Goals as goal

pub returns : goal.returns
returns c = record { law = law_over_runs; between = kept_between; bytes = own_spelling }
