-- The books show the batches of the history, open or closed, from message to message.
use Rattle.std.proofs.Common.{◌≡◌, ℕ, Bool, true, false, not, ◌&&◌, ◌||◌, eqb, List, [], ◌∷◌, ◌++◌, map, is_some, Some, None, Ok, Err, Option, unwrap_or, sym, refl, ap, ◌∙◌, subst}
use mathlib.Core.List.{map-append}
use Rattle.std.specs.Option.{option_map}
use Rattle.std.proofs.lemmas.Bool.{and_from, and_left, and_parts, cond-false, cond-true, eq-eqb, eqb-true, or_left, or_parts}
use Rattle.host.specs.Parts.{Holdings}
use Rattle.rows.specs.First.{row_with, update_first}
use Rattle.wire.specs.RoundTrip.{Bytes}
use Rattle.wire.specs.declared.message.Fields.{Fields}
use Rattle.rules.specs.Ledger.{Ledger, batch_row, no_batch, no_ledger, of_batch, purchase_of}
use Rattle.rules.specs.Rules.{Reply, answer_of, answered, books_after, books_by, call_of, close, minus, new_batch, on_batch, on_put, on_read, plus, put_answered, refused_with, remembered, uncalled}
use Rattle.rules.specs.declared.batch.Batch.{Batch}
use Rattle.rules.specs.declared.outcome.Outcome.{Outcome}
use Rattle.rules.specs.declared.outcome.Outcome.TheVariants.{Success}
use Rattle.rules.specs.declared.outcome.Performed.{Performed}
use Rattle.rules.specs.Way.{Retry}
use Rattle.rules.proofs.Outcomes.{check_apart, is_check}
use Rattle.rules.proofs.Answering.{remembered_part, with_purchase_part}
use Rattle.rules.proofs.Passed.{batch_is_new, batch_known}
use Rattle.rules.proofs.Ways.{recalled}
use Rattle.law.specs.Batches.{batches_after, closed_after, is_under, numbered}
use Rattle.law.specs.Booked.{batch_name}
use Rattle.law.specs.Repeats.{full}
use Rattle.law.specs.History.{Entry, entry, message_of, opened, short, succeeds, success_of}
use Rattle.law.specs.Reached.{Replies}
use Rattle.law.proofs.Base.{at_put, kind_of, when, when_none}
use Rattle.law.proofs.Cases.{EachMove, Passed, by_move, by_ways}
use Rattle.law.proofs.Invariants.{Batched, Kept, Recalls}
use Rattle.law.proofs.Rows.{batch_elsewhere, batch_here, found_by_name, map_update, part_stays, shown_push}
use Rattle.law.proofs.Succeeds.{again_not, fresh, succeeds_new}

-- whether the books have a closed batch under a course and number
abbrev closed_in : List Batch → ℕ → ℕ → Bool
closed_in rows course number = (unwrap_or (row_with (of_batch course number) rows) no_batch).closed

-- the batches of the books after a message that succeeds, or none, as those of the history after it
record Entered (done : Option Fields) (rows rows' : List Batch) : Type 0 where
  opens_too : map batch_name rows' ≡ batches_after done (map batch_name rows)
  closes_too : (course number : ℕ) → closed_in rows' course number ≡ closed_after done course number (closed_in rows course number)

-- so the books show the history with the message
entered_shows : (h : List Entry) (e : Entry) (l l' : Ledger) → Batched h l → Entered (success_of e h) l.batches l'.batches → Batched (e ∷ h) l'
entered_shows h e l l' b entered = record {
  same_batches = entered.opens_too ∙ ap (batches_after (success_of e h)) b.same_batches;
  same_closed = λ course number. entered.closes_too course number ∙ ap (closed_after (success_of e h) course number) (b.same_closed course number);
}

-- a message that opens or closes a batch
abbrev turns : Option Fields → Bool
turns None = false
turns (Some m) = eqb m.kind 7 || eqb m.kind 8

-- a message that does neither, whether it succeeds or not
turns_if : (t : Bool) (m : Fields) → turns (Some m) ≡ false → turns (when t (Some m)) ≡ false
turns_if true m neither = neither
turns_if false m neither = refl

turns_none : (m : Fields) (k : ℕ) → m.kind ≡ k → (eqb k 7 || eqb k 8) ≡ false → (t : Bool) → turns (when t (Some m)) ≡ false
turns_none m k kind neither t = turns_if t m (ap (λ n. eqb n 7 || eqb n 8) kind ∙ neither)

-- nor what does not succeed
turns_not : (o : Option Fields) (t : Bool) → t ≡ false → turns (when t o) ≡ false
turns_not o t fails = ap (λ u. turns (when u o)) fails

-- where nothing is opened or closed, and each batch keeps its name and stays open or closed
entered_still : (done : Option Fields) → turns done ≡ false → (rows rows' : List Batch) → map batch_name rows' ≡ map batch_name rows
    → ((course number : ℕ) → closed_in rows' course number ≡ closed_in rows course number) → Entered done rows rows'
entered_still None idle rows rows' names closed = record { opens_too = names; closes_too = closed }
entered_still (Some m) idle rows rows' names closed =
    let neither = or_parts (eqb m.kind 7) (eqb m.kind 8) idle in
    record {
      opens_too = names ∙ sym (cond-false _ _ _ (and_left (eqb m.kind 7) _ neither.0));
      closes_too = λ course number. closed course number ∙ ap (λ t. t || closed_in rows course number) (sym (and_left (eqb m.kind 8) (is_under course number m) neither.1));
    }

-- so where the batches are left
entered_left : (done : Option Fields) → turns done ≡ false → (rows rows' : List Batch) → rows' ≡ rows → Entered done rows rows'
entered_left done idle rows rows' same = entered_still done idle rows rows' (ap (map batch_name) same) (λ course number. ap (λ x. closed_in x course number) same)

-- or the total of one is rewritten
entered_total : (done : Option Fields) → turns done ≡ false → (m : Fields) (rows : List Batch) (f : Batch → Batch)
    → ((b : Batch) → batch_name (f b) ≡ batch_name b) → ((b : Batch) → (f b).closed ≡ b.closed) → Entered done rows (update_first (of_batch m.course m.batch) f rows)
entered_total done idle m rows f names closed =
    entered_still done idle rows (update_first (of_batch m.course m.batch) f rows) (map_update batch_name (of_batch m.course m.batch) f names rows) stays
  where
    shown : (o : Option Batch) → (unwrap_or o no_batch).closed ≡ unwrap_or (option_map (λ b. b.closed) o) false
    shown None = refl
    shown (Some b) = refl

    stays : (course number : ℕ) → closed_in (update_first (of_batch m.course m.batch) f rows) course number ≡ closed_in rows course number
    stays course number =
        shown (row_with (of_batch course number) (update_first (of_batch m.course m.batch) f rows))
        ∙ ap (λ o. unwrap_or o false)
        (part_stays (of_batch course number) (of_batch m.course m.batch) f (λ b. ap (numbered course number) (names b)) (λ b. b.closed) closed rows)
        ∙ sym (shown (row_with (of_batch course number) rows))

-- a batch open of a number that the books do not have
entered_open : (m : Fields) → m.kind ≡ 7 → (l : Ledger) → batch_row l m ≡ None → Entered (Some m) l.batches (l.batches ++ new_batch m ∷ [])
entered_open m kind l new = record {
  opens_too =
      map-append batch_name l.batches (new_batch m ∷ [])
      ∙ sym (cond-true _ _ _ (and_from _ _ (eq-eqb m.kind 7 kind) (ap not (found_by_name batch_name (numbered m.course m.batch) l.batches ∙ ap is_some new))));
  closes_too = λ course number.
      shown_push (of_batch course number) (λ b. b.closed) l.batches (new_batch m) no_batch refl
      ∙ ap (λ k. (eqb k 8 && is_under course number m) || closed_in l.batches course number) (sym kind);
}

-- a batch close of one that they have
entered_close : (m : Fields) → m.kind ≡ 8 → (l : Ledger) → is_some (batch_row l m) ≡ true → Entered (Some m) l.batches (on_batch m close l).batches
entered_close m kind l known = record {
  opens_too =
      map_update batch_name (of_batch m.course m.batch) close (λ b. refl) l.batches
      ∙ sym (cond-false _ _ _ (and_left (eqb m.kind 7) _ (ap (λ k. eqb k 7) kind)));
  closes_too = λ course number.
      at course number (is_under course number m) refl
      ∙ ap (λ k. (eqb k 8 && is_under course number m) || closed_in l.batches course number) (sym kind);
}
  where
    at : (course number : ℕ) (t : Bool) → is_under course number m ≡ t → closed_in (on_batch m close l).batches course number ≡ (is_under course number m || closed_in l.batches course number)
    at course number true is =
        let both = and_parts (eqb m.course course) (eqb m.batch number) is in
        subst (λ c. closed_in (on_batch m close l).batches c number ≡ true) (eqb-true _ _ both.0)
        (subst (λ n. closed_in (on_batch m close l).batches m.course n ≡ true) (eqb-true _ _ both.1) (ap (λ b. b.closed) (batch_here l m close (λ c n b. refl) known)))
        ∙ sym (or_left _ _ is)
    at course number false apart =
        ap (λ b. b.closed) (batch_elsewhere l m close (λ c n b. refl) course number apart)
        ∙ ap (λ t. t || closed_in l.batches course number) (sym apart)

-- no batch, none closed
pub batched_start : Batched [] no_ledger
batched_start = record { same_batches = refl; same_closed = λ course number. refl }

-- bytes that are not opened open and close nothing
pub batched_refused : (h : List Entry) (l : Ledger) (bytes : List ℕ) (number : ℕ) → opened bytes ≡ Err number → Batched h l → Batched (entry bytes (short number) ∷ h) l
batched_refused h l bytes number is b =
    let e : Entry = entry bytes (short number) in
    entered_shows h e l l b (entered_left (success_of e h) (ap turns (ap (when (succeeds e h)) (ap message_of is) ∙ when_none (succeeds e h))) l.batches l.batches refl)

module _ (h : List Entry) (l : Ledger) (bytes : List ℕ) (m : Fields) (are : Bytes bytes) (is : opened bytes ≡ Ok m) (r : Recalls h l) where
  -- what is to show: these batches are those of the history with this message, so answered
  abbrev EnteredBy : Performed → Ledger → Type 0
  EnteredBy a l' = Entered (when (succeeds (entry bytes (full a)) h) (Some m)) l.batches l'.batches

  -- a refusal
  refused : (o : Outcome) → is_check o ≡ true → EnteredBy (refused_with m o) (remembered m (refused_with m o) l)
  refused o check =
      entered_left _ (turns_not (Some m) _ (and_left _ _ (check_apart o Success check refl))) l.batches (remembered m (refused_with m o) l).batches (remembered_part (λ x. x.batches) m (refused_with m o) l refl)

  -- a put that is made again
  made_again : (eqb m.kind 1 || eqb m.kind 2) ≡ true → (a : Performed) (l' : Ledger) → l'.batches ≡ l.batches → EnteredBy a l'
  made_again puts a l' same = entered_left _ (turns_if _ m (at_put (λ n. turns (Some n) ≡ false) m puts refl refl)) l.batches l'.batches same

  -- a repeat; inquiries open and close nothing
  repeated : (a : Performed) → recalled l m ≡ Some a → EnteredBy a l
  repeated a known = entered_left _ (at (eqb m.kind 9) refl) l.batches l.batches refl
    where
      at : (t : Bool) → eqb m.kind 9 ≡ t → turns (when (succeeds (entry bytes (full a)) h) (Some m)) ≡ false
      at true inquiry = turns_none m 9 (eqb-true _ _ inquiry) refl _
      at false other = turns_not (Some m) _ (again_not h l bytes m are is other r a known)

  -- past all checks
  module _ (held held' : Holdings) (passed : Passed l m) where
    abbrev Passes : Reply → Ledger → Type 0
    Passes reply l' = EnteredBy (answered l m reply) (remembered m (answered l m reply) l')

    -- what is remembered besides
    besides : (reply : Reply) (l' : Ledger) → EnteredBy (answered l m reply) l' → Passes reply l'
    besides reply l' = subst (Entered (when (succeeds (entry bytes (full (answered l m reply))) h) (Some m)) l.batches) (sym (remembered_part (λ x. x.batches) m (answered l m reply) l' refl))

    -- kinds 1, 2 and 9, which leave the batches
    leaves : (reply : Reply) (l' : Ledger) (k : ℕ) → m.kind ≡ k → (eqb k 7 || eqb k 8) ≡ false → l'.batches ≡ l.batches → Passes reply l'
    leaves reply l' k kind neither same = besides reply l' (entered_left _ (turns_none m k kind neither _) l.batches l'.batches same)

    -- kinds 3 to 6, which rewrite a total
    totals : (l' : Ledger) (k : ℕ) → m.kind ≡ k → (eqb k 7 || eqb k 8) ≡ false → (f : Batch → Batch) → ((b : Batch) → batch_name (f b) ≡ batch_name b) → ((b : Batch) → (f b).closed ≡ b.closed)
        → l'.batches ≡ (on_batch m f l).batches → Passes uncalled l'
    totals l' k kind neither f names closed rewritten =
        besides uncalled l' (subst (Entered _ l.batches) (sym rewritten) (entered_total (when (succeeds (entry bytes (full (answered l m uncalled))) h) (Some m)) (turns_none m k kind neither _) m l.batches f names closed))

    -- kinds 7 and 8, which make no call, and so succeed, and for the first time
    succeeds_to : (l' : Ledger) (k : ℕ) → m.kind ≡ k → eqb k 9 ≡ false → Entered (Some m) l.batches l'.batches → Passes uncalled l'
    succeeds_to l' k kind other entered =
        let success : succeeds (entry bytes (full (answered l m uncalled))) h ≡ true =
        succeeds_new h bytes (answered l m uncalled) (fresh h l bytes m are is (ap (λ j. eqb j 9) kind ∙ other) r passed.absent) in
        besides uncalled l' (subst (λ t. Entered (when t (Some m)) l.batches l'.batches) (sym success) entered)

    batched_through : EachMove l m held held' Passes
    batched_through = record {
      authorisation = λ kind reply called. leaves (on_put reply) _ 1 kind refl (with_purchase_part (λ x. x.batches) m l refl);
      authorisation_reversal = λ kind reply called. leaves (on_put reply) _ 2 kind refl refl;
      capture = λ kind same. totals _ 3 kind refl (plus m.amount) (λ b. refl) (λ b. refl) refl;
      capture_reversal = λ kind same. totals _ 4 kind refl (minus (purchase_of l m).captured) (λ b. refl) (λ b. refl) refl;
      credit = λ kind same. totals _ 5 kind refl (minus m.amount) (λ b. refl) (λ b. refl) refl;
      credit_reversal = λ kind same. totals _ 6 kind refl (plus m.amount) (λ b. refl) (λ b. refl) refl;
      batch_open = λ kind same. succeeds_to _ 7 kind refl (entered_open m kind l (batch_is_new l m passed.none kind));
      batch_close = λ kind same. succeeds_to _ 8 kind refl (entered_close m kind l (batch_known l m passed.none 8 kind refl));
      inquiry = λ kind same reply. leaves (on_read reply) l 9 kind refl refl;
    }

-- every message opens and closes batches in the books as in the history
pub batched_step : (h : List Entry) (l : Ledger) (bytes : List ℕ) (m : Fields) (reply : Reply) (held held' : Holdings) → Bytes bytes → opened bytes ≡ Ok m
    → Kept l → Recalls h l → Batched h l → Replies (call_of l m) reply held held' → Batched (entry bytes (full (answer_of l m reply)) ∷ h) (books_after l m reply)
batched_step h l bytes m reply held held' are is kept r b called =
    entered_shows h (entry bytes (full (answer_of l m reply))) l (books_after l m reply) b
    (subst (λ o. Entered (when (succeeds (entry bytes (full (answer_of l m reply))) h) o) l.batches (books_after l m reply).batches) (sym (ap message_of is))
    (by_ways l m held held' (EnteredBy h l bytes m are is r) (record {
      repeated = λ a known same. repeated h l bytes m are is r a known;
      put_again = λ was reply called. made_again h l bytes m are is r (kept.silent_kind m was) (put_answered m (on_put reply)) (books_by Retry l m (on_put reply)) refl;
      refused = λ o check why same. refused h l bytes m are is r o check;
      passed = λ passed. by_move l m held held' _ (batched_through h l bytes m are is r held held' passed) (kind_of bytes m is);
    }) (kind_of bytes m is) reply called))
