-- The lines about the bank, each by the words after its first.
use Rattle.std.specs.Prelude.{◌≡◌, ◌⊎◌, ℕ, true, List, Option, Some, None, codes, bytes_eq, is_some, length, if◌then◌else◌}
use Rattle.std.specs.Borrow.{Bor}
use Rattle.std.specs.List.{list_all}
use Rattle.rehearsal.specs.declared.bank.BankLine.{BankLine}
use Rattle.rehearsal.specs.declared.bank.BankLine.TheVariants.{Account, Rows, Voucher, Split}
use Rattle.rehearsal.specs.declared.bank.BankLine.TheVariants.{Line, StandIn}
use Rattle.rehearsal.specs.declared.bank.BankWord.{BankWord}
use Rattle.rehearsal.specs.declared.bank.BankWord.TheVariants as begins
use Rattle.rehearsal.specs.declared.bank.Side.{Side}
use Rattle.rehearsal.specs.declared.bank.Side.TheVariants.{Book, Drawer}
use Rattle.rehearsal.specs.Words.{Words, word, IsUnsigned, number_of}

-- the word that each line about the bank begins with
abbrev pub bank_text : BankWord → List ℕ
bank_text begins.Account = codes "account"
bank_text begins.Rows = codes "rows"
bank_text begins.Voucher = codes "voucher"
bank_text begins.Split = codes "split"
bank_text begins.Line = codes "line"
bank_text begins.StandIn = codes "stand-in"

-- the mark that a word stands for
abbrev pub mark_of : List ℕ → Option ℕ
mark_of text =
    if bytes_eq text (codes "heard") then Some 0
    else if bytes_eq text (codes "lose-call") then Some 1
    else if bytes_eq text (codes "lose-answer") then Some 2
    else None

-- a card and an amount of pence
abbrev pub IsFunded : Words → Type 0
IsFunded rest = (length rest ≡ 2) × IsUnsigned 64 (word rest 0) × IsUnsigned 64 (word rest 1)

-- whose the cards between the bounds are, and whose all others
abbrev pub IsSides : List ℕ → List ℕ → Type 0
IsSides between others =
    ((between ≡ codes "book") × (others ≡ codes "drawer"))
    ⊎ ((between ≡ codes "drawer") × (others ≡ codes "book"))

-- LOW HIGH, and then the two sides
abbrev pub IsSplit : Words → Type 0
IsSplit rest =
    (length rest ≡ 4) × IsUnsigned 64 (word rest 0) × IsUnsigned 64 (word rest 1)
    × IsSides (word rest 2) (word rest 3)

abbrev pub side_of : List ℕ → Side
side_of text = if bytes_eq text (codes "book") then Book else Drawer

abbrev pub split_in : Words → BankLine
split_in rest =
    Split (number_of (word rest 0)) (number_of (word rest 1)) (side_of (word rest 2))

-- which words go on with a line about the bank
abbrev pub HasBank : BankWord → Words → Type 0
HasBank begins.Account rest = IsFunded rest
HasBank begins.Rows rest = (length rest ≡ 1) × IsUnsigned 8 (word rest 0)
HasBank begins.Voucher rest = IsFunded rest
HasBank begins.Split rest = IsSplit rest
HasBank begins.Line rest = list_all (λ mark. is_some (mark_of mark.now)) rest ≡ true
HasBank begins.StandIn rest = (length rest ≡ 1) × IsUnsigned 64 (word rest 0)

-- the line that they make
abbrev pub bank_in : BankWord → Bor Words → BankLine
bank_in begins.Account rest = Account (number_of (word rest.now 0)) (number_of (word rest.now 1))
bank_in begins.Rows rest = Rows (number_of (word rest.now 0))
bank_in begins.Voucher rest = Voucher (number_of (word rest.now 0)) (number_of (word rest.now 1))
bank_in begins.Split rest = split_in rest.now
bank_in begins.Line rest = Line rest
bank_in begins.StandIn rest = StandIn (number_of (word rest.now 0))
