-- The words of a line, as white space parts them.
use Rattle.std.specs.Prelude.{◌≡◌, ℕ, List, ⊤}
use Rattle.std.specs.Iterator.{DrainsIf}
use Rattle.std.specs.Str.Iter.{split_whitespace_rest, split_whitespace_steps}
use Rattle.std.specs.declared.str.SplitWhitespace.{SplitWhitespace}
use Rattle.rehearsal.specs.Words.{Words}

abbrev pub IsWordsOf : List ℕ → Words → Type 0
IsWordsOf text words =
    (it : SplitWhitespace) × (split_whitespace_rest it ≡ text)
    × DrainsIf split_whitespace_steps ⊤ it words
