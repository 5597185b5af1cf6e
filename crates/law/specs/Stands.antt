-- The law over runs, in three parts: what can be observed, what the books show, and what a repeat
-- would get now.
use Rattle.std.specs.Prelude.{List}
use Rattle.host.specs.Parts.{Holdings}
use Rattle.rules.specs.Ledger.{Ledger}
use Rattle.law.specs.Booked.{Booked}
use Rattle.law.specs.History.{Entry}
use Rattle.law.specs.Observed.{Observed}
use Rattle.law.specs.Reached.{Reached}
use Rattle.law.specs.Repeats.{RepeatsStand}

pub record LawStands (h : List Entry) (l : Ledger) (held : Holdings) : Type 0 where
  pub observed : Observed h held
  pub booked : Booked h l
  pub repeats : RepeatsStand h l

-- it stands wherever a history leads
abbrev pub LawOverRuns : Type 0
LawOverRuns =
    (h : List Entry) (l : Ledger) (held : Holdings) → Reached h l held → LawStands h l held
