use Rattle.stand_in.proofs.Put.{stand_in_put}
use Rattle.stand_in.proofs.stand_in.StandInHost.put.Goals as goal

pub returns-clause-means : goal.returns-clause-means
returns-clause-means g c =
    rw c.settle.ensures.below
    (stand_in_put c.put-below.ensures.means c.args.self.now.rows c.args.self.now.floor c.settle.ensures.kept.one c.settle.new.self.rows c.settle.ensures.rows c.settle.result c.settle.ensures.answer)
