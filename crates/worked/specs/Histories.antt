-- The words of the history at work: the sample meeting, an authorisation that was not answered, and
-- a capture that is undone after its batch has closed.
use Rattle.std.specs.Prelude.{◌≡◌, ℕ, true, List, [], ◌∷◌, ◌++◌, ℤ, pos, ◌-ℤ◌, Some, Option}
use Rattle.std.specs.Int.{w64}
use Rattle.std.specs.Option.{option_map}
use Rattle.std.proofs.Common.{of_z}
use Rattle.worked.specs.Meeting.{P, Q, answer, authorisation, batch_close, batch_open, capture, capture_reversal, card, fresh, lines, meeting}
use Rattle.law.specs.Batches.{batch_sum, batches, is_closed}
use Rattle.law.specs.Purchases.{authorised, captured, credited, purchases}
use Rattle.law.specs.History.{Entry, entry, last_given}

-- the history of these bytes with these answers, after what was handled before
abbrev told : List Entry → List (List ℕ) → List (ℕ × Option ℕ) → List Entry
told h [] answers = h
told h (bytes ∷ rest) [] = h
told h (bytes ∷ rest) (given ∷ answers) =
    told (entry bytes (record { code = given.0; amount = given.1 }) ∷ h) rest answers

-- the sample meeting, answered by the rules
abbrev pub after_meeting : List Entry
after_meeting = told [] meeting (lines (fresh []) meeting)

-- an authorisation that got no answer, and its repeat
abbrev pub unanswered : List Entry
unanswered = told [] (authorisation 1 P 3000 ∷ []) (answer 25 3000 ∷ [])

abbrev pub repeated_once : List Entry
repeated_once = told unanswered (authorisation 1 P 3000 ∷ []) (answer 0 3000 ∷ [])

abbrev last_code : List Entry → Option ℕ
last_code h = option_map (λ g. g.code) (last_given h (authorisation 1 P 3000))

-- a capture of 3,000 in batch 7
abbrev captured_in_7 : List (List ℕ)
captured_in_7 = batch_open 1 7 ∷ authorisation 2 P 3000 ∷ capture 3 P 3000 ∷ []

-- batch 7 is closed and 8 opened; then a reversal names 7, and one that is repeated names 8
abbrev pub undone_after_close : List (List ℕ)
undone_after_close =
    captured_in_7
    ++ batch_close 4 7
    ∷ batch_open 5 8
    ∷ capture_reversal 6 P 7
    ∷ capture_reversal 7 P 8
    ∷ capture_reversal 7 P 8
    ∷ batch_close 8 8
    ∷ []

-- a reversal names 8 while batch 7 is open
abbrev pub tried_while_open : List (List ℕ)
tried_while_open = captured_in_7 ++ batch_open 4 8 ∷ capture_reversal 5 P 8 ∷ []

abbrev minus_3000 : ℤ
minus_3000 = pos 0 -ℤ pos 3000

abbrev pub after_undone : List Entry
after_undone = told [] undone_after_close (lines (fresh []) undone_after_close)

pub record WorkedHistories : Type 0 where
  pub two_purchases :
      purchases after_meeting
      ≡ (record { xid = P; course = 9; card = card })
      ∷ (record { xid = Q; course = 9; card = card })
      ∷ []
  pub p_amounts :
      (authorised after_meeting P ≡ 3000) × (captured after_meeting P ≡ 3000)
      × (credited after_meeting P ≡ pos 1200)
  pub q_declined : authorised after_meeting Q ≡ 0
  pub one_batch :
      (batches after_meeting ≡ (record { course = 9; number = 7 }) ∷ [])
      × (batch_sum after_meeting 9 7 ≡ pos 1800) × (is_closed after_meeting 9 7 ≡ true)
  -- while the last answer is 25 nothing is authorised; the repeat succeeds
  pub in_doubt : (last_code unanswered ≡ Some 25) × (authorised unanswered P ≡ 0)
  pub settled : (last_code repeated_once ≡ Some 0) × (authorised repeated_once P ≡ 3000)
  -- 7 closes with 3,000 and keeps it. Naming 7 is refused, naming 8 takes 3,000 from 8, and the
  -- repeat takes nothing more
  pub undone_answers :
      lines (fresh []) undone_after_close
      ≡ answer 0 0
      ∷ answer 0 3000
      ∷ answer 0 3000
      ∷ answer 0 3000
      ∷ answer 0 0
      ∷ answer 20 0
      ∷ answer 0 0
      ∷ answer 0 0
      ∷ answer 0 (of_z w64 minus_3000)
      ∷ []
  pub undone_sums :
      (captured after_undone P ≡ 0) × (is_closed after_undone 9 7 ≡ true)
      × (batch_sum after_undone 9 7 ≡ pos 3000) × (batch_sum after_undone 9 8 ≡ minus_3000)
  -- while 7 is open only 7 will do
  pub while_open :
      lines (fresh []) tried_while_open
      ≡ answer 0 0
      ∷ answer 0 3000
      ∷ answer 0 3000
      ∷ answer 0 0
      ∷ answer 21 0
      ∷ []
