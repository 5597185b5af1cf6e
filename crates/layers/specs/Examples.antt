-- Worked examples of the bad line and the range split, on marks and cards that are written out.
use Rattle.std.specs.Prelude.{◌≡◌, ℕ, true, false, List, [], ◌∷◌}
use Rattle.host.specs.Parts.{Pence}
use Rattle.host.specs.Meaning.{put_held, put_reply}
use Rattle.host.specs.declared.Fate.TheVariants.{Heard, LostGoing}
use Rattle.host.specs.declared.PutReply.{PutReply}
use Rattle.host.specs.declared.PutReply.TheVariants.{Done, Silent}
use Rattle.layers.specs.Line.{next_fate, spent, fate_on_line}
use Rattle.layers.specs.Split.{between}

-- a put of 3000 that is heard below and has assent: the marks left, what is held before it, its
-- reply, and what is held after
abbrev LinePut : List ℕ → Pence → PutReply → Pence → Type 0
LinePut left before reply after =
    (put_reply (fate_on_line (next_fate left) Heard) before true 3000 ≡ reply)
    × (put_held (fate_on_line (next_fate left) Heard) before true 3000 ≡ after)

-- three marks; the third counts as 0
abbrev marks : List ℕ
marks = 1 ∷ 2 ∷ 9 ∷ []

pub record LineExample : Type 0 where
  pub going : LinePut marks 0 Silent 0
  pub returning : LinePut (spent marks) 0 Silent 3000
  pub heard : LinePut (spent (spent marks)) 3000 Done 3000
  pub none_left : LinePut (spent (spent (spent marks))) 3000 Done 3000
  pub lost_below : fate_on_line (next_fate (spent marks)) LostGoing ≡ LostGoing

-- bounds 400000 and 499999
pub record SplitExample : Type 0 where
  pub inside : between 400000 499999 4111111111111111 ≡ true
  pub at_the_end : between 400000 499999 4999990000000004 ≡ true
  pub outside : between 400000 499999 6331100000000003 ≡ false
  pub whole : between 400000 499999 12345 ≡ false
