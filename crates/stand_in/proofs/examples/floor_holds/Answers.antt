use Rattle.stand_in.proofs.Floor.{floor_holds}
use Rattle.stand_in.proofs.examples.floor_holds.Goals as goal

pub returns : goal.returns
returns g c = record { hold = floor_holds g.H.Host.put_step }
