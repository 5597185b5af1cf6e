-- Between messages the books and every amount held stay the same. Sending on comes there.
use Rattle.std.specs.Prelude.{◌≡◌, List}
use Rattle.host.specs.Parts.{Holdings, SameHeld}
use Rattle.rules.specs.Ledger.{Ledger}
use Rattle.law.specs.History.{Entry}
use Rattle.law.specs.Reached.{Reached}
use Rattle.law.specs.Stands.{LawStands}

pub record Between (l : Ledger) (held : Holdings) (l' : Ledger) (held' : Holdings) : Type 0 where
  pub same_books : l' ≡ l
  pub same_held : SameHeld held' held

-- every history that led to what was there before leads to what is there after, and the law stands
abbrev pub KeptBetween : Type 0
KeptBetween = (h : List Entry) (l : Ledger) (held : Holdings) (l' : Ledger) (held' : Holdings)
    → Reached h l held → Between l held l' held' → Reached h l' held' × LawStands h l' held'
