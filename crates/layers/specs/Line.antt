-- A bad line by its marks: which mark loses what, what one call makes of it, and what it makes of
-- the fates below.
use Rattle.std.specs.Prelude.{◌≡◌, ℕ, if◌then◌else◌, List, drop, ◌==◌, slice_index}
use Rattle.host.specs.declared.Fate.{Fate}
use Rattle.host.specs.declared.Fate.TheVariants.{Heard, LostGoing, LostReturning}
use Rattle.host.specs.declared.PutReply.TheVariants.{Silent}
use Rattle.host.specs.declared.ReadReply.TheVariants.{Silent as NoAnswer}
use Rattle.host.specs.Parts.{Holdings, Assents, PutFates, ReadFates, PutSteps, ReadSteps}
use Rattle.layers.specs.declared.bad_line.BadLine.{BadLine}

-- a line takes so many marks at most
abbrev pub most_marks : ℕ
most_marks = 64

-- 1 loses the call on its way there, 2 its reply, any other nothing
abbrev pub mark_fate : ℕ → Fate
mark_fate mark =
    if mark == 1 then LostGoing else if mark == 2 then LostReturning else Heard

-- the next mark is the first that is left; with none left it is 0
abbrev pub next_fate : List ℕ → Fate
next_fate left = mark_fate (slice_index left 0)

-- each call spends one
abbrev pub spent : List ℕ → List ℕ
spent left = drop 1 left

-- one call that meets a fate on the line: made below once with its reply, not made, or made below
-- once with its reply lost, which is silence
abbrev pub CalledBelow :
    {H A : Type 0} → (H → A → H → Type 0) → A → Fate → H → A → H → Type 0
CalledBelow call silence Heard before answer after = call before answer after
CalledBelow call silence LostGoing before answer after = (answer ≡ silence) × (after ≡ before)
CalledBelow {A = A} call silence LostReturning before answer after =
    (answer ≡ silence) × ((lost : A) × call before lost after)

-- a fate below, as it is through the line
abbrev answer_lost : Fate → Fate
answer_lost Heard = LostReturning
answer_lost LostGoing = LostGoing
answer_lost LostReturning = LostReturning

abbrev pub fate_on_line : Fate → Fate → Fate
fate_on_line Heard below = below
fate_on_line LostGoing below = LostGoing
fate_on_line LostReturning below = answer_lost below

-- the marks that a line has left
abbrev pub marks_left : {H : Type 0} → BadLine H → List ℕ
marks_left line = line.marks

-- one call: a mark is spent, and below is what this mark makes of the call
pub record LineStep
    {H A : Type 0} (call : H → A → H → Type 0) (silence : A)
    (before : BadLine H) (answer : A) (after : BadLine H)
    : Type 0 where
  pub marks : marks_left after ≡ spent (marks_left before)
  pub below :
      CalledBelow call silence (next_fate (marks_left before)) before.below answer after.below

abbrev pub line_put_step : {H : Type 0} → PutSteps H → PutSteps (BadLine H)
line_put_step step before pair amount answer after =
    LineStep (λ host reply host'. step host pair amount reply host') Silent before answer after

abbrev pub line_read_step : {H : Type 0} → ReadSteps H → ReadSteps (BadLine H)
line_read_step step before pair answer after =
    LineStep (λ host reply host'. step host pair reply host') NoAnswer before answer after

-- sending on spends no mark, and reaches the host below
pub record LineSends {H : Type 0} (send : H → H → Type 0) (before after : BadLine H)
    : Type 0 where
  pub below : send before.below after.below
  pub marks : marks_left after ≡ marks_left before

-- its four parts, from those of the host below
abbrev pub line_held : {H : Type 0} → (H → Holdings) → BadLine H → Holdings
line_held held line = held line.below

abbrev pub line_assent : {H : Type 0} → (H → Assents) → BadLine H → Assents
line_assent assent line = assent line.below

abbrev pub line_put_fate : {H : Type 0} → (H → PutFates) → BadLine H → PutFates
line_put_fate fate line pair amount =
    fate_on_line (next_fate (marks_left line)) (fate line.below pair amount)

abbrev pub line_read_fate : {H : Type 0} → (H → ReadFates) → BadLine H → ReadFates
line_read_fate fate line pair =
    fate_on_line (next_fate (marks_left line)) (fate line.below pair)
