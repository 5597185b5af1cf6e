use Rattle.hosts.proofs.Book.{placed_at}
use Rattle.hosts.proofs.account_book.AccountBookKeeper.place.Goals as goal

pub returns : goal.returns
returns c = placed_at c.args.self.now.holds.now c.args.pair c.place_for.result c.place_for.ensures.place
