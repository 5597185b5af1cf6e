-- Each batch total is the sum of its batch, and each close answers it, from message to message.
use Rattle.std.proofs.Common.{◌≡◌, ℕ, Bool, true, false, ◌||◌, eqb, List, [], ◌∷◌, ◌++◌, ℤ, pos, ◌-ℤ◌, is_some, Some, None, Ok, Err, unwrap_or, sym, refl, ap, ◌∙◌, subst, w64, of_z}
use Rattle.std.proofs.lemmas.Bool.{and_from, and_left, and_parts, cond_both, cond-false, cond-true, eq-eqb, eqb-false, eqb-true}
use Rattle.host.specs.Parts.{Holdings}
use Rattle.rows.specs.First.{row_with}
use Rattle.wire.specs.RoundTrip.{Bytes}
use Rattle.wire.specs.declared.message.Fields.{Fields}
use Rattle.rules.specs.Checks.{among}
use Rattle.rules.specs.Ledger.{Ledger, batch_of, batch_row, no_batch, no_ledger, of_batch, purchase_of}
use Rattle.rules.specs.Rules.{Reply, answer_of, answered, books_after, books_by, call_of, close, minus, moved, new_batch, on_batch, on_put, on_read, plus, put_answered, refused_with, remembered, uncalled}
use Rattle.rules.specs.declared.batch.Batch.{Batch}
use Rattle.rules.specs.declared.outcome.Outcome.{Outcome}
use Rattle.rules.specs.declared.outcome.Outcome.TheVariants.{Success}
use Rattle.rules.specs.declared.outcome.Performed.{Performed}
use Rattle.rules.specs.Way.{Retry}
use Rattle.rules.proofs.Outcomes.{check_apart, is_check}
use Rattle.rules.proofs.Answering.{answered_at, moved_at, remembered_part, with_purchase_part}
use Rattle.rules.proofs.Passed.{batch_known}
use Rattle.rules.proofs.Ways.{recalled}
use Rattle.law.specs.Batches.{batch_sum, counted, is_under, sum_after}
use Rattle.law.specs.Repeats.{full}
use Rattle.law.specs.History.{Entry, entry, message_of, opened, said, short, succeeds, success_of}
use Rattle.law.specs.Purchases.{captured}
use Rattle.law.specs.Reached.{Replies}
use Rattle.law.proofs.Base.{at_number, at_put, kind_of, when, when_none, when_some}
use Rattle.law.proofs.Cases.{EachMove, Passed, by_move, by_ways}
use Rattle.law.proofs.Invariants.{Kept, Recalls, Shows, Sums}
use Rattle.law.proofs.Rows.{batch_elsewhere, batch_here, shown_push}
use Rattle.law.proofs.Succeeds.{again_not, fresh, succeeds_new}

-- the total that the books have under a course and number
abbrev total_of : List Batch → ℕ → ℕ → ℤ
total_of batches course number = (unwrap_or (row_with (of_batch course number) batches) no_batch).total

-- what the newest entry answers, if it closes a batch
abbrev Closing : List Entry → Entry → Type 0
Closing h e = (m : Fields) → success_of e h ≡ Some m → m.kind ≡ 8 → e.given.amount ≡ Some (of_z w64 (batch_sum h m.course m.batch))

-- a sum that stays
abbrev SumStays : List Entry → Entry → Type 0
SumStays h e = (course number : ℕ) → batch_sum (e ∷ h) course number ≡ batch_sum h course number

-- where nothing succeeds, nothing is counted or closed
sum_none : (h : List Entry) (e : Entry) → success_of e h ≡ None → SumStays h e
sum_none h e none course number = ap (λ o. sum_after o (captured h) course number (batch_sum h course number)) none

close_none : (h : List Entry) (e : Entry) → success_of e h ≡ None → Closing h e
close_none h e none m some kind = cc

-- a message that counts nothing, and closes nothing
abbrev Idle : List Entry → Fields → Type 0
Idle h m = ((sum : ℤ) → counted m (captured h) sum ≡ sum) × (eqb m.kind 8 ≡ false)

-- an entry whose message is known
module _ (h : List Entry) (e : Entry) (m : Fields) (says : said e ≡ Some m) where
  success_is : success_of e h ≡ when (succeeds e h) (Some m)
  success_is = ap (when (succeeds e h)) says

  sum_at : (course number : ℕ) → batch_sum (e ∷ h) course number ≡ sum_after (when (succeeds e h) (Some m)) (captured h) course number (batch_sum h course number)
  sum_at course number = ap (λ o. sum_after o (captured h) course number (batch_sum h course number)) success_is

  -- a message that counts nothing
  sum_stays : ((sum : ℤ) → counted m (captured h) sum ≡ sum) → SumStays h e
  sum_stays nothing course number = sum_at course number ∙ at (succeeds e h) (is_under course number m) (batch_sum h course number)
    where
      at : (t u : Bool) (sum : ℤ) → sum_after (when t (Some m)) (captured h) course number sum ≡ sum
      at true u sum = cond_both (is_under course number m) (counted m (captured h) sum) sum (λ x. x ≡ sum) (λ here. nothing sum) (λ there. refl)
      at false u sum = refl

  -- another batch
  sum_elsewhere : (course number : ℕ) → is_under course number m ≡ false → batch_sum (e ∷ h) course number ≡ batch_sum h course number
  sum_elsewhere course number apart = sum_at course number ∙ at (succeeds e h)
    where
      at : (t : Bool) → sum_after (when t (Some m)) (captured h) course number (batch_sum h course number) ≡ batch_sum h course number
      at true = cond-false _ _ _ apart
      at false = refl

  -- the message's own batch
  sum_here : succeeds e h ≡ true → batch_sum (e ∷ h) m.course m.batch ≡ counted m (captured h) (batch_sum h m.course m.batch)
  sum_here success =
      sum_at m.course m.batch
      ∙ ap (λ t. sum_after (when t (Some m)) (captured h) m.course m.batch (batch_sum h m.course m.batch)) success
      ∙ cond-true _ _ _ (and_from _ _ (eq-eqb m.course m.course refl) (eq-eqb m.batch m.batch refl))

  -- only kind 8 closes
  no_close : eqb m.kind 8 ≡ false → Closing h e
  no_close other n some closes = absurd (eqb-false m.kind 8 other (ap (λ x. x.kind) (when_some (succeeds e h) m n (sym success_is ∙ some)) ∙ closes))

-- a new batch starts at 0, as a batch that is not there counts
total_push : (batches : List Batch) (b : Batch) → b.total ≡ pos 0 → (course number : ℕ) → total_of (batches ++ b ∷ []) course number ≡ total_of batches course number
total_push batches b zero course number = shown_push (of_batch course number) (λ x. x.total) batches b no_batch zero

-- neither totals nor sums move
unmoved : (h : List Entry) (l : Ledger) (e : Entry) (l' : Ledger) → Sums h l
    → ((course number : ℕ) → total_of l'.batches course number ≡ total_of l.batches course number) → SumStays h e → Closing h e → Sums (e ∷ h) l'
unmoved h l e l' s totals sums closing = record {
  totals = λ course number. totals course number ∙ s.totals course number ∙ sym (sums course number);
  closes = (closing, s.closes);
}

-- what does not succeed, and leaves the batches
failed : (h : List Entry) (l : Ledger) (e : Entry) (l' : Ledger) → Sums h l → l'.batches ≡ l.batches → success_of e h ≡ None → Sums (e ∷ h) l'
failed h l e l' s same none =
    unmoved h l e l' s (λ course number. ap (λ b. total_of b course number) same) (sum_none h e none) (close_none h e none)

-- the message's batch moves by what is counted, and no other
counts : (h : List Entry) (l : Ledger) (e : Entry) (m : Fields) → said e ≡ Some m → (l' : Ledger) → Sums h l
    → (f : Batch → Batch) → ((course number : ℕ) (b : Batch) → of_batch course number (f b) ≡ of_batch course number b) → l'.batches ≡ (on_batch m f l).batches
    → is_some (batch_row l m) ≡ true → (f (batch_of l m)).total ≡ counted m (captured h) (batch_of l m).total
    → succeeds e h ≡ true → Closing h e → Sums (e ∷ h) l'
counts h l e m says l' s f keeps moved there count success closing = record {
  totals = λ course number. at (is_under course number m) course number refl;
  closes = (closing, s.closes);
}
  where
    here : total_of l'.batches m.course m.batch ≡ batch_sum (e ∷ h) m.course m.batch
    here =
        ap (λ b. total_of b m.course m.batch) moved ∙ ap (λ b. b.total) (batch_here l m f keeps there) ∙ count
        ∙ ap (counted m (captured h)) (s.totals m.course m.batch) ∙ sym (sum_here h e m says success)

    at : (t : Bool) (course number : ℕ) → is_under course number m ≡ t → total_of l'.batches course number ≡ batch_sum (e ∷ h) course number
    at true course number is =
        let both = and_parts (eqb m.course course) (eqb m.batch number) is in
        subst (λ c. total_of l'.batches c number ≡ batch_sum (e ∷ h) c number) (eqb-true _ _ both.0)
        (subst (λ n. total_of l'.batches m.course n ≡ batch_sum (e ∷ h) m.course n) (eqb-true _ _ both.1) here)
    at false course number apart =
        ap (λ b. total_of b course number) moved ∙ ap (λ b. b.total) (batch_elsewhere l m f keeps course number apart)
        ∙ s.totals course number ∙ sym (sum_elsewhere h e m says course number apart)

-- no batch, no sum
pub sums_start : Sums [] no_ledger
sums_start = record { totals = λ course number. refl; closes = tt }

-- bytes that are not opened are not counted
pub sums_refused : (h : List Entry) (l : Ledger) (bytes : List ℕ) (number : ℕ) → opened bytes ≡ Err number → Sums h l → Sums (entry bytes (short number) ∷ h) l
sums_refused h l bytes number is s =
    let e : Entry = entry bytes (short number) in
    failed h l e l s refl (ap (when (succeeds e h)) (ap message_of is) ∙ when_none (succeeds e h))

module _ (h : List Entry) (l : Ledger) (bytes : List ℕ) (m : Fields) (is : opened bytes ≡ Ok m) (s : Sums h l) where
  -- the message of the bytes
  says : (a : Performed) → said (entry bytes (full a)) ≡ Some m
  says a = ap message_of is

  -- a message that counts nothing and closes nothing, and leaves every total
  uncounted : Idle h m → (a : Performed) (l' : Ledger) → ((course number : ℕ) → total_of l'.batches course number ≡ total_of l.batches course number) → Sums (entry bytes (full a) ∷ h) l'
  uncounted idle a l' same =
      unmoved h l (entry bytes (full a)) l' s same (sum_stays h (entry bytes (full a)) m (says a) idle.0) (no_close h (entry bytes (full a)) m (says a) idle.1)

  -- what fails
  unsuccessful : (a : Performed) (l' : Ledger) → l'.batches ≡ l.batches → succeeds (entry bytes (full a)) h ≡ false → Sums (entry bytes (full a) ∷ h) l'
  unsuccessful a l' same fails = failed h l (entry bytes (full a)) l' s same (ap (λ t. when t (said (entry bytes (full a)))) fails)

  -- a refusal
  refused : (o : Outcome) → is_check o ≡ true → Sums (entry bytes (full (refused_with m o)) ∷ h) (remembered m (refused_with m o) l)
  refused o check =
      unsuccessful (refused_with m o) (remembered m (refused_with m o) l) (remembered_part (λ x. x.batches) m (refused_with m o) l refl) (and_left _ _ (check_apart o Success check refl))

  -- a put that is made again
  made_again : (eqb m.kind 1 || eqb m.kind 2) ≡ true → (a : Performed) (l' : Ledger) → l'.batches ≡ l.batches → Sums (entry bytes (full a) ∷ h) l'
  made_again puts a l' same = uncounted (at_put (Idle h) m puts ((λ sum. refl), refl) ((λ sum. refl), refl)) a l' (λ course number. ap (λ b. total_of b course number) same)

  -- a repeat; inquiries are not counted
  repeated : Bytes bytes → Recalls h l → (a : Performed) → recalled l m ≡ Some a → Sums (entry bytes (full a) ∷ h) l
  repeated are r a known = at (eqb m.kind 9) refl
    where
      at : (t : Bool) → eqb m.kind 9 ≡ t → Sums (entry bytes (full a) ∷ h) l
      at true inquiry = uncounted (at_number (Idle h) m 9 (eqb-true _ _ inquiry) ((λ sum. refl), refl)) a l (λ course number. refl)
      at false other = unsuccessful a l refl (again_not h l bytes m are is other r a known)

-- past all checks
module _ (h : List Entry) (l : Ledger) (bytes : List ℕ) (m : Fields) (are : Bytes bytes) (is : opened bytes ≡ Ok m) (r : Recalls h l) (shows : Shows h l) (s : Sums h l)
    (held held' : Holdings) (passed : Passed l m) where
  -- what is to show: the batches so moved have the sums of the history with this message
  abbrev Summed : Reply → Ledger → Type 0
  Summed reply l' = Sums (entry bytes (full (answered l m reply)) ∷ h) (remembered m (answered l m reply) l')

  -- kinds 1, 2, 7 and 9, which move no total
  passes : (reply : Reply) (l' : Ledger) (k : ℕ) → m.kind ≡ k → Idle h (record m { kind = k })
      → ((course number : ℕ) → total_of l'.batches course number ≡ total_of l.batches course number) → Summed reply l'
  passes reply l' k kind idle same =
      uncounted h l bytes m is s (at_number (Idle h) m k kind idle) (answered l m reply) (remembered m (answered l m reply) l')
      (λ course number. ap (λ b. total_of b course number) (remembered_part (λ x. x.batches) m (answered l m reply) l' refl) ∙ same course number)

  -- kinds 3 to 6 and 8, where the batch is rewritten: they make no call, and are done for the first
  -- time
  moves_total : (l' : Ledger) (k : ℕ) → m.kind ≡ k → among k (3 ∷ 4 ∷ 5 ∷ 6 ∷ 8 ∷ []) ≡ true → eqb k 9 ≡ false
      → (f : Batch → Batch) → ((course number : ℕ) (b : Batch) → of_batch course number (f b) ≡ of_batch course number b)
      → l'.batches ≡ (on_batch m f l).batches
      → (f (batch_of l m)).total ≡ counted (record m { kind = k }) (captured h) (batch_of l m).total → Closing h (entry bytes (full (answered l m uncalled))) → Summed uncalled l'
  moves_total l' k kind kinds other f keeps rewritten count closing =
      counts h l (entry bytes (full (answered l m uncalled))) m (ap message_of is) (remembered m (answered l m uncalled) l') s f keeps
      (remembered_part (λ x. x.batches) m (answered l m uncalled) l' refl ∙ rewritten) (batch_known l m passed.none k kind kinds)
      (at_number (λ n. (f (batch_of l m)).total ≡ counted n (captured h) (batch_of l m).total) m k kind count)
      (succeeds_new h bytes (answered l m uncalled) (fresh h l bytes m are is (ap (λ j. eqb j 9) kind ∙ other) r passed.absent))
      closing

  -- a close answers its batch's total
  closing_sum : m.kind ≡ 8 → Closing h (entry bytes (full (answered l m uncalled)))
  closing_sum kind n success closes =
      let e : Entry = entry bytes (full (answered l m uncalled)) in
      ap (λ a. Some a.amount) (answered_at l m 8 kind uncalled)
      ∙ ap (λ x. Some (of_z w64 (total_of x.batches m.course m.batch))) (moved_at l m 8 kind uncalled)
      ∙ ap (λ x. Some (of_z w64 x)) (ap (λ b. b.total) (batch_here l m close (λ course number b. refl) (batch_known l m passed.none 8 kind refl)) ∙ s.totals m.course m.batch)
      ∙ ap (λ (x : Fields). Some (of_z w64 (batch_sum h x.course x.batch))) (when_some (succeeds e h) m n (sym (success_is h e m (ap message_of is)) ∙ success))

  sums_through : EachMove l m held held' Summed
  sums_through = record {
    authorisation = λ kind reply called.
        passes (on_put reply) _ 1 kind ((λ sum. refl), refl) (λ course number. ap (λ b. total_of b course number) (with_purchase_part (λ x. x.batches) m l refl));
    authorisation_reversal = λ kind reply called. passes (on_put reply) _ 2 kind ((λ sum. refl), refl) (λ course number. refl);
    capture = λ kind same.
        moves_total _ 3 kind refl refl (plus m.amount) (λ course number b. refl) refl refl (open_still 3 kind refl);
    capture_reversal = λ kind same.
        moves_total _ 4 kind refl refl (minus (purchase_of l m).captured) (λ course number b. refl) refl
        (ap (λ n. (batch_of l m).total -ℤ pos n) (shows.same_captured m.xid)) (open_still 4 kind refl);
    credit = λ kind same.
        moves_total _ 5 kind refl refl (minus m.amount) (λ course number b. refl) refl refl (open_still 5 kind refl);
    credit_reversal = λ kind same.
        moves_total _ 6 kind refl refl (plus m.amount) (λ course number b. refl) refl refl (open_still 6 kind refl);
    batch_open = λ kind same. passes uncalled _ 7 kind ((λ sum. refl), refl) (total_push l.batches (new_batch m) refl);
    batch_close = λ kind same. moves_total _ 8 kind refl refl close (λ course number b. refl) refl refl (closing_sum kind);
    inquiry = λ kind same reply. passes (on_read reply) _ 9 kind ((λ sum. refl), refl) (λ course number. refl);
  }
    where
      open_still : (k : ℕ) → m.kind ≡ k → eqb k 8 ≡ false → Closing h (entry bytes (full (answered l m uncalled)))
      open_still k kind other = no_close h (entry bytes (full (answered l m uncalled))) m (ap message_of is) (ap (λ j. eqb j 8) kind ∙ other)

-- every message is counted as it is booked
pub sums_step : (h : List Entry) (l : Ledger) (bytes : List ℕ) (m : Fields) (reply : Reply) (held held' : Holdings) → Bytes bytes → opened bytes ≡ Ok m
    → Kept l → Recalls h l → Shows h l → Sums h l → Replies (call_of l m) reply held held' → Sums (entry bytes (full (answer_of l m reply)) ∷ h) (books_after l m reply)
sums_step h l bytes m reply held held' are is kept r shows s =
    by_ways l m held held' (λ a books. Sums (entry bytes (full a) ∷ h) books) (record {
      repeated = λ a known same. repeated h l bytes m is s are r a known;
      put_again = λ was r called. made_again h l bytes m is s (kept.silent_kind m was) (put_answered m (on_put r)) (books_by Retry l m (on_put r)) refl;
      refused = λ o check why same. refused h l bytes m is s o check;
      passed = λ passed. by_move l m held held' _ (sums_through h l bytes m are is r shows s held held' passed) (kind_of bytes m is);
    }) (kind_of bytes m is) reply
