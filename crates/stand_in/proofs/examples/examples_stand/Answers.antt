use Rattle.std.proofs.Common.{ℕ, zero, suc, replicate, refl}
use Rattle.host.specs.Parts.{PutSteps}
use Rattle.host.specs.declared.PutReply.TheVariants.{Done, Refused}
use Rattle.stand_in.specs.Examples.{answers}
use Rattle.stand_in.specs.Sent.{RowsSent}
use Rattle.stand_in.specs.declared.row.Row.TheVariants.{Free}
use Rattle.stand_in.proofs.examples.examples_stand.Goals as goal

-- free rows are passed over
free_sent : {H : Type 0} (step : PutSteps H) (n : ℕ) (host : H) → RowsSent step (replicate n Free) host (replicate n Free) host
free_sent step zero host = (refl, refl)
free_sent step (suc n) host = (Free, host, replicate n Free, (refl, refl), free_sent step n host, refl)

pub returns : goal.returns
returns c = record {
  hold = record {
    at_the_floor = (refl, refl);
    above_the_floor = (refl, refl);
    to_none = (refl, refl);
    nothing_held = λ below. refl;
    first_free = (refl, refl);
    within_row = (refl, refl);
    above_row = (refl, refl);
    sent = (_, tt, _, (Done, refl, refl), (_, tt, _, (Refused, refl, refl), free_sent answers 14 tt, refl), refl);
    done = (refl, refl);
  };
}
