-- Why each plan is the rules': what a message finds in the books, rewritten, is what the rules make of them.
use Rattle.std.proofs.Common.{◌≡◌, ℕ, suc, ◌+◌, ◌-◌, ◌<◌, ◌≤◌, Bool, true, false, cond, not, ◌&&◌, eqb, List, [], ◌∷◌, ◌++◌, length, set, is_some, Some, None, Option, unwrap_or, pos, ◌+ℤ◌, ◌-ℤ◌, sym, refl, ap, ◌∙◌, subst, arith}
use Rattle.std.proofs.lemmas.Int.{ints}
use Rattle.std.proofs.Common.{ℤ, of_z, w64, length-append}
use Rattle.rules.specs.Rules.{Reply, choose, refused_with, remembers, repeat_in}
use Rattle.rules.specs.Recalled.{Recalls}
use Rattle.rules.specs.Same.{same_fields}
use Rattle.rules.specs.declared.outcome.Outcome.{Outcome}
use Rattle.rules.specs.declared.outcome.Outcome.TheVariants.{HostSilent, RequestNumberUsed}
use Rattle.rules.specs.declared.outcome.Performed.{Performed}
use Rattle.std.specs.Option.{option_map}
use Rattle.std.proofs.lemmas.Bool.{and_from, and_parts, cond-false, cond-true, le-leb, leb-true, not-true, not_from_false, true≢false}
use Rattle.fields.specs.Kind.{is_kind, kind_from, most_pence}
use Rattle.host.specs.declared.PutReply.{PutReply}
use Rattle.host.specs.declared.ReadReply.{ReadReply}
use Rattle.host.specs.declared.ReadReply.TheVariants.{Holds, Silent as NoAnswer}
use Rattle.rows.specs.First.{row_with, update_first}
use Rattle.rows.proofs.First.{row_update}
use Rattle.wire.specs.Bytes.{same_bytes}
use Rattle.wire.specs.declared.message.Fields.{Fields}
use Rattle.rules.specs.Checks.{among, book_checks, refusal}
use Rattle.rules.specs.Ledger.{Ledger, answer_row, batch_of, batch_row, facts_of, most_answers, no_batch, most_purchases, no_purchase, of_batch, of_request, of_xid, purchase_of, purchase_row, remembered_of, uncredited}
use Rattle.rules.specs.Change.{FitsIn, KeepsKnown, booking, capturing, closing_batch, crediting, ledger_after, opening_batch, refusal_noted, reversing_capture, reversing_credit, rows_after}
use Rattle.rules.specs.Found.{Finds, pair_in, place_in, places_of}
use Rattle.rules.specs.Plan.{Decides, own_or_new_row, own_row, put_for, refusing, settled_row, settling}
use Rattle.rules.specs.Rules.{add_batch, add_purchase, answer_by, answer_of, answer_with, answered, books_after, books_by, call_by, call_of, close, kind_amount, kind_call, kind_moves, minus, moved, new_purchase, no_call, noted, on_batch, on_purchase, on_put, on_read, plus, put_answered, put_of, read_answered, remembered, settled, success, uncalled, way, with_captured, with_credited}
use Rattle.rules.specs.Sound.{most_total, size, sound_purchase, within}
use Rattle.rules.specs.declared.batch.Batch.{Batch}
use Rattle.rules.specs.declared.facts.Facts.{Facts}
use Rattle.rules.specs.declared.found.Found.{Found}
use Rattle.rules.specs.declared.found.Places.{Places}
use Rattle.rules.specs.declared.plan.Plan.{Plan}
use Rattle.rules.specs.declared.plan.Plan.TheVariants.{Answer, Commit, Put, Read}
use Rattle.rules.specs.declared.plan.RowWrite.{RowWrite}
use Rattle.rules.specs.declared.plan.RowWrite.TheVariants.{Replace, Append}
use Rattle.rules.specs.declared.purchase.Purchase.{Purchase}
use Rattle.rules.specs.declared.remembered.Recalled.TheVariants.{Open}
use Rattle.rules.specs.declared.remembered.Remembered.{Remembered}
use Rattle.rules.specs.Way.{Again, Stopped, Through}
use Rattle.rules.proofs.Answering.{answered_at, moved_at, forgets, forgets_inquiry, put_kept, remembered_at, with_purchase_part}
use Rattle.rules.proofs.Booking.{booked_rows, booked_value}
use Rattle.rules.proofs.Every.{update_const}
use Rattle.rules.proofs.Passed.{batch_known, batches_room, credits_within, known, nothing_captured, nothing_credited, purchases_room}
use Rattle.rules.proofs.Known.{known_append, known_last, known_set, sound_heard, sound_put}
use Rattle.rules.proofs.Settles.{settled_sound, settled_xid}
use Rattle.rules.proofs.Sames.{fields_equal, sames_refl}
use Rattle.rules.proofs.Ways.{Went, again, book_refusal, call_at, retried, stopped, stopped_heard, stopped_room, through, through_passes, went}
use Rattle.rules.proofs.Writes.{found_place, set_first, update_last}

-- what is there is the row that stands for it
pub there : {A : Type 0} (o : Option A) (d : A) → is_some o ≡ true → o ≡ Some (unwrap_or o d)
there None d is = absurd (true≢false (sym is))
there (Some x) d is = refl

-- an amount moves a total by no more than itself
size_added : (total : ℤ) (amount n : ℕ) → size total ≤ most_total n → amount ≤ most_pence → size (total +ℤ pos amount) ≤ most_total (suc n)
size_added total amount n low small = grind (arith, ints)

size_taken : (total : ℤ) (amount n : ℕ) → size total ≤ most_total n → amount ≤ most_pence → size (total -ℤ pos amount) ≤ most_total (suc n)
size_taken total amount n low small = grind (arith, ints)

-- a put settles the row of a purchase that is known
module _ (l : Ledger) (m : Fields) (reply : PutReply) where
  abbrev settle : Purchase → Purchase
  settle = settled (on_put reply) m.amount

  settles : (p : Purchase) → purchase_row l m ≡ Some p → set l.purchases (place_in (of_xid m.xid) l.purchases) (settle p) ≡ update_first (of_xid m.xid) settle l.purchases
  settles p is = set_first (of_xid m.xid) l.purchases p (settle p) is ∙ update_const (of_xid m.xid) settle l.purchases p is

  -- and the row is as sound as it was
  fits_own : (p : Purchase) → purchase_row l m ≡ Some p → sound_purchase p ≡ true
      → FitsIn most_purchases sound_purchase (Some (Replace (place_in (of_xid m.xid) l.purchases) (settle p))) l.purchases
  fits_own p is sound = ((found_place (of_xid m.xid) l.purchases p is).within, settled_sound reply m.amount p ∙ sound)

  known_own : (p : Purchase) → purchase_row l m ≡ Some p → KeepsKnown l.purchases (set l.purchases (place_in (of_xid m.xid) l.purchases) (settle p))
  known_own p is = known_set m.xid l.purchases p (settle p) is (settled_xid reply m.amount p)

-- past all checks
module _ (l : Ledger) (m : Fields) (kind : is_kind m.kind ≡ true) (past : way l m ≡ Through) where
  passed : book_refusal l m ≡ None
  passed = through_passes l m kind past

  room : eqb m.kind 9 ≡ false → length l.answers < most_answers
  room other = by (went l m kind)
    where
      by : Went l m → length l.answers < most_answers
      by (again a w k not_silent) = absurd (true≢false cc)
      by (retried a w k silent) = absurd (true≢false cc)
      by (stopped o w check why) = absurd (true≢false cc)
      by (through w none pass free) = (free other).1

  -- what it answers and leaves is what its kind makes of it
  answer_past : (reply : Reply) → answered l m reply ≡ answer_of l m reply
  answer_past reply = ap (λ w. answer_by w l m reply) (sym past)

  books_past : (reply : Reply) → remembered m (answered l m reply) (moved l m reply) ≡ books_after l m reply
  books_past reply = ap (λ w. books_by w l m reply) (sym past)

  call_past : (k : ℕ) → m.kind ≡ k → call_of l m ≡ call_at l m k
  call_past k is = ap (λ w. call_by w (put_of l m) (kind_call (kind_from m.kind) l m)) past ∙ ap (call_at l m) is

  module _ (k : ℕ) (is : m.kind ≡ k) (f : Purchase → Purchase) (g : Batch → Batch)
      (names : among k (2 ∷ 3 ∷ 4 ∷ 5 ∷ 6 ∷ 9 ∷ []) ≡ true) (books : among k (3 ∷ 4 ∷ 5 ∷ 6 ∷ 8 ∷ []) ≡ true) (calls : call_at l m k ≡ no_call)
      (keeps : (q : Purchase) → (f q).xid ≡ q.xid)
      (move : kind_moves (kind_from k) m uncalled l ≡ on_batch m g (on_purchase m f l))
      (amount : (x : Ledger) → kind_amount (kind_from k) x m uncalled ≡ uncredited (purchase_of x m))
      (kept : (not (eqb k 9) && true) ≡ true)
      (sound : sound_purchase (f (purchase_of l m)) ≡ true)
      (bound : within (most_total (suc (length l.answers))) (g (batch_of l m)) ≡ true) where
    abbrev p : Purchase
    p = f (purchase_of l m)

    abbrev b : Batch
    b = g (batch_of l m)

    purchase : purchase_row l m ≡ Some (purchase_of l m)
    purchase = there (purchase_row l m) no_purchase (known l m passed k is names)

    batch : batch_row l m ≡ Some (batch_of l m)
    batch = there (batch_row l m) no_batch (batch_known l m passed k is books)

    other : eqb m.kind 9 ≡ false
    other = ap (λ n. eqb n 9) is ∙ not-true (eqb k 9) (and_parts _ _ kept).0

    rows : ledger_after (booking (places_of l m) m p b) l ≡ noted m (success (uncredited p)) (on_batch m (λ _. b) (on_purchase m (λ _. p) l))
    rows =
        let at : List Purchase → List Batch → Ledger = λ purchases batches. record (noted m (success (uncredited p)) l) { purchases = purchases; batches = batches } in
        let batches = set l.batches (place_in (of_batch m.course m.batch) l.batches) b in
        ap (λ purchases. at purchases batches) (set_first (of_xid m.xid) l.purchases (purchase_of l m) p purchase)
        ∙ ap (at (update_first (of_xid m.xid) (λ _. p) l.purchases)) (set_first (of_batch m.course m.batch) l.batches (batch_of l m) b batch)

    -- a capture, a credit or the reversal of one
    money : Decides (Commit (booking (places_of l m) m p b)) l m
    money = (
      call_past k is ∙ calls,
      record {
        answer = booked_value l m k is f g (purchase_of l m) (batch_of l m) purchase batch keeps move amount kept ∙ answer_past uncalled;
        books = rows ∙ booked_rows l m k is f g (purchase_of l m) (batch_of l m) purchase batch keeps move amount kept ∙ books_past uncalled;
        fits = record {
          purchase = ((found_place (of_xid m.xid) l.purchases (purchase_of l m) purchase).within, sound);
          known = known_set m.xid l.purchases (purchase_of l m) p purchase (keeps (purchase_of l m));
          batch = (
            (found_place (of_batch m.course m.batch) l.batches (batch_of l m) batch).within,
            ap (λ n. within (most_total n) b) (omega (arith, length-append l.answers (answer_row m (success (uncredited p)) ∷ []))) ∙ bound,
          );
          remembered = (room other, sound_heard (set l.purchases (place_in (of_xid m.xid) l.purchases) p) m other (success (uncredited p)) refl);
        };
      },
    )

  -- each of the four, from what always holds of the rows that a message finds
  module _ (small : m.amount ≤ most_pence) (sound : sound_purchase (purchase_of l m) ≡ true)
      (bounded : within (most_total (length l.answers)) (batch_of l m) ≡ true) where
    credited_low : (purchase_of l m).credited ≤ (purchase_of l m).captured
    credited_low = leb-true _ _ (and_parts _ _ sound).0

    captured_low : (purchase_of l m).captured ≤ most_pence
    captured_low = leb-true _ _ (and_parts _ _ sound).1

    total_low : size (batch_of l m).total ≤ most_total (length l.answers)
    total_low = leb-true _ _ bounded

    pub captures : m.kind ≡ 3 → Decides (Commit (capturing (facts_of l m) (places_of l m) m)) l m
    captures is =
        money 3 is (with_captured m.amount m.batch) (plus m.amount) refl refl refl (λ q. refl) refl (λ x. refl) refl
        (let nothing = nothing_captured l m passed 3 is refl in
        and_from _ _ (le-leb (purchase_of l m).credited m.amount (omega (arith, credited_low, nothing))) (le-leb _ _ small))
        (le-leb _ _ (size_added (batch_of l m).total m.amount (length l.answers) total_low small))

    pub reverses_capture : m.kind ≡ 4 → Decides (Commit (reversing_capture (facts_of l m) (places_of l m) m)) l m
    reverses_capture is =
        money 4 is (λ q. with_captured 0 q.batch q) (minus (purchase_of l m).captured) refl refl refl (λ q. refl) refl (λ x. refl) refl
        (and_from _ _ (le-leb (purchase_of l m).credited 0 (omega (arith, nothing_credited l m passed is))) refl)
        (le-leb _ _ (size_taken (batch_of l m).total (purchase_of l m).captured (length l.answers) total_low captured_low))

    pub credits : m.kind ≡ 5 → Decides (Commit (crediting (facts_of l m) (places_of l m) m)) l m
    credits is =
        money 5 is (λ q. with_credited (q.credited + m.amount) q) (minus m.amount) refl refl refl (λ q. refl) refl (λ x. refl) refl
        (and_from _ _ (le-leb ((purchase_of l m).credited + m.amount) (purchase_of l m).captured (omega (arith, credits_within l m passed is, credited_low))) (le-leb _ _ captured_low))
        (le-leb _ _ (size_taken (batch_of l m).total m.amount (length l.answers) total_low small))

    pub reverses_credit : m.kind ≡ 6 → Decides (Commit (reversing_credit (facts_of l m) (places_of l m) m)) l m
    reverses_credit is =
        money 6 is (λ q. with_credited (q.credited - m.amount) q) (plus m.amount) refl refl refl (λ q. refl) refl (λ x. refl) refl
        (and_from _ _ (le-leb ((purchase_of l m).credited - m.amount) (purchase_of l m).captured (omega (arith, credited_low))) (le-leb _ _ captured_low))
        (le-leb _ _ (size_added (batch_of l m).total m.amount (length l.answers) total_low small))

  -- a new batch
  pub opens : m.kind ≡ 7 → Decides (Commit (opening_batch m)) l m
  opens is =
      let value : success 0 ≡ answered l m uncalled = sym (answered_at l m 7 is uncalled) in (
        call_past 7 is,
        record {
          answer = value ∙ answer_past uncalled;
          books =
              ap (λ a. noted m a (add_batch m l)) value
              ∙ ap (noted m (answered l m uncalled)) (sym (moved_at l m 7 is uncalled))
              ∙ sym (remembered_at l m 7 is uncalled (answered l m uncalled) (moved l m uncalled) refl)
              ∙ books_past uncalled;
          fits = record {
            purchase = tt;
            known = λ xid known. known;
            batch = (batches_room l m passed is, le-leb 0 _ (omega arith));
            remembered = (room (ap (λ n. eqb n 9) is), sound_heard l.purchases m (ap (λ n. eqb n 9) is) (success 0) refl);
          };
        },
      )

  -- a batch is closed, with its total
  pub closes : m.kind ≡ 8 → within (most_total (length l.answers)) (batch_of l m) ≡ true → Decides (Commit (closing_batch (facts_of l m) (places_of l m) m)) l m
  closes is bounded =
      let sought = of_batch m.course m.batch in
      let b = batch_of l m in
      let row : batch_row l m ≡ Some b = there (batch_row l m) no_batch (batch_known l m passed 8 is refl) in
      let here : moved l m uncalled ≡ on_batch m close l = moved_at l m 8 is uncalled in
      let after : batch_of (moved l m uncalled) m ≡ close b =
      ap (λ x. batch_of x m) here ∙ ap (λ found. unwrap_or found no_batch) (row_update sought close (λ x is. is) l.batches ∙ ap (option_map close) row) in
      let value : success (of_z w64 b.total) ≡ answered l m uncalled =
      ap (λ x. success (of_z w64 x.total)) (sym after) ∙ sym (answered_at l m 8 is uncalled) in
      let at : List Batch → Ledger = λ batches. record (noted m (success (of_z w64 b.total)) l) { batches = batches } in (
        call_past 8 is,
        record {
          answer = value ∙ answer_past uncalled;
          books =
              ap at (set_first sought l.batches b (close b) row ∙ update_const sought close l.batches b row)
              ∙ ap (noted m (success (of_z w64 b.total))) (sym here)
              ∙ ap (λ a. noted m a (moved l m uncalled)) value
              ∙ sym (remembered_at l m 8 is uncalled (answered l m uncalled) (moved l m uncalled) refl)
              ∙ books_past uncalled;
          fits = record {
            purchase = tt;
            known = λ xid known. known;
            batch = ((found_place sought l.batches b row).within, le-leb (size b.total) _ (omega (arith, leb-true (size b.total) _ bounded, length-append l.answers (answer_row m (success (of_z w64 b.total)) ∷ []))));
            remembered = (room (ap (λ n. eqb n 9) is), sound_heard l.purchases m (ap (λ n. eqb n 9) is) (success (of_z w64 b.total)) refl);
          };
        },
      )

  -- a put that is made the first time: what is written of its purchase is what its kind makes of the purchases
  module _ (k : ℕ) (is : m.kind ≡ k) (row : RowWrite Purchase) (calls : call_at l m k ≡ put_of l m) (no_inquiry : eqb k 9 ≡ false)
      (amount : (x : Ledger) (reply : PutReply) → kind_amount (kind_from k) x m (on_put reply) ≡ m.amount)
      (batches : (reply : PutReply) → (kind_moves (kind_from k) m (on_put reply) l).batches ≡ l.batches)
      (answers : (reply : PutReply) → (kind_moves (kind_from k) m (on_put reply) l).answers ≡ l.answers)
      (purchases : (reply : PutReply) → rows_after (Some (settled_row (on_put reply) m.amount row)) l.purchases ≡ (kind_moves (kind_from k) m (on_put reply) l).purchases)
      (fits : (reply : PutReply) → FitsIn most_purchases sound_purchase (Some (settled_row (on_put reply) m.amount row)) l.purchases)
      (keeps : (reply : PutReply) → KeepsKnown l.purchases (rows_after (Some (settled_row (on_put reply) m.amount row)) l.purchases))
      (stands : (reply : PutReply) → is_some (row_with (of_xid m.xid) (rows_after (Some (settled_row (on_put reply) m.amount row)) l.purchases)) ≡ true) where
    value : (reply : PutReply) → put_answered m (on_put reply) ≡ answered l m (on_put reply)
    value reply =
        let r = on_put reply in
        ap (answer_with m r) (sym (amount (moved l m r) reply))
        ∙ sym (answered_at l m k is r)

    books : (reply : PutReply) → ledger_after (settling (put_for (facts_of l m) (places_of l m) m row None) (on_put reply)) l ≡ books_after l m (on_put reply)
    books reply =
        let r = on_put reply in
        let x = kind_moves (kind_from k) m r l in
        let at : List Purchase → List Remembered → List Batch → Ledger = λ ps answers bs. record { purchases = ps; answers = answers ++ answer_row m (put_answered m r) ∷ []; batches = bs } in
        ap (λ ps. at ps l.answers l.batches) (purchases reply)
        ∙ ap (λ rows. at x.purchases rows l.batches) (sym (answers reply))
        ∙ ap (λ bs. at x.purchases x.answers bs) (sym (batches reply))
        ∙ ap (noted m (put_answered m r)) (sym (moved_at l m k is r))
        ∙ ap (λ a. noted m a (moved l m r)) (value reply)
        ∙ sym (remembered_at l m k is r (answered l m r) (moved l m r) (and_from _ _ (not_from_false (eqb k 9) no_inquiry) (put_kept reply)))
        ∙ books_past r

    puts : Decides (Put (put_for (facts_of l m) (places_of l m) m row None)) l m
    puts =
        let other : eqb m.kind 9 ≡ false = ap (λ n. eqb n 9) is ∙ no_inquiry in (
          call_past k is ∙ calls,
          λ reply. record {
            answer = value reply ∙ answer_past (on_put reply);
            books = books reply;
            fits = record { purchase = fits reply; known = keeps reply; batch = tt; remembered = (room other, sound_put (rows_after (Some (settled_row (on_put reply) m.amount row)) l.purchases) m other reply (stands reply)) };
          },
        )

  -- an authorisation reversal settles its purchase
  pub lowers : m.kind ≡ 2 → sound_purchase (purchase_of l m) ≡ true → Decides (Put (put_for (facts_of l m) (places_of l m) m (own_row (facts_of l m) (places_of l m)) None)) l m
  lowers is sound =
      let p = purchase_of l m in
      let there_is = known l m passed 2 is refl in
      let row : purchase_row l m ≡ Some p = there (purchase_row l m) no_purchase there_is in
      puts 2 is (own_row (facts_of l m) (places_of l m)) refl refl (λ x reply. refl) (λ reply. refl) (λ reply. refl)
      (λ reply. settles l m reply p row)
      (λ reply. fits_own l m reply p row sound)
      (λ reply. known_own l m reply p row)
      (λ reply. known_own l m reply p row m.xid there_is)

  -- an authorisation settles its purchase, or a new one behind the others
  pub authorises : m.kind ≡ 1 → sound_purchase (purchase_of l m) ≡ true → Decides (Put (put_for (facts_of l m) (places_of l m) m (own_or_new_row (facts_of l m) (places_of l m) m) None)) l m
  authorises is sound =
      puts 1 is (row (purchase_row l m)) refl refl (λ x reply. refl)
      (λ reply. with_purchase_part (λ x. x.batches) m l refl) (λ reply. with_purchase_part (λ x. x.answers) m l refl)
      (λ reply. at reply (purchase_row l m) refl) (λ reply. fit reply (purchase_row l m) refl)
      (λ reply. keep reply (purchase_row l m) refl) (λ reply. stand reply (purchase_row l m) refl)
    where
      row : Option Purchase → RowWrite Purchase
      row o = cond (is_some o) (Replace (place_in (of_xid m.xid) l.purchases) (unwrap_or o no_purchase)) (Append (new_purchase m))

      after : PutReply → Option Purchase → List Purchase
      after reply o = rows_after (Some (settled_row (on_put reply) m.amount (row o))) l.purchases

      at : (reply : PutReply) (o : Option Purchase) → purchase_row l m ≡ o → after reply o ≡ update_first (of_xid m.xid) (settled (on_put reply) m.amount) (cond (is_some o) l (add_purchase m l)).purchases
      at reply None none = sym (update_last (of_xid m.xid) (settled (on_put reply) m.amount) l.purchases (new_purchase m) none (sames_refl m.xid))
      at reply (Some p) row = settles l m reply p row

      fit : (reply : PutReply) (o : Option Purchase) → purchase_row l m ≡ o → FitsIn most_purchases sound_purchase (Some (settled_row (on_put reply) m.amount (row o))) l.purchases
      fit reply None none = (purchases_room l m passed is (ap is_some none), settled_sound reply m.amount (new_purchase m))
      fit reply (Some p) row = fits_own l m reply p row (ap sound_purchase (ap (λ found. unwrap_or found no_purchase) (sym row)) ∙ sound)

      keep : (reply : PutReply) (o : Option Purchase) → purchase_row l m ≡ o → KeepsKnown l.purchases (after reply o)
      keep reply None none = known_append l.purchases (settled (on_put reply) m.amount (new_purchase m))
      keep reply (Some p) row = known_own l m reply p row

      stand : (reply : PutReply) (o : Option Purchase) → purchase_row l m ≡ o → is_some (row_with (of_xid m.xid) (after reply o)) ≡ true
      stand reply None none =
          let new = settled (on_put reply) m.amount (new_purchase m) in
          known_last l.purchases new m.xid (ap (λ xid. same_bytes xid m.xid) (settled_xid reply m.amount (new_purchase m)) ∙ sames_refl m.xid)
      stand reply (Some p) row = known_own l m reply p row m.xid (ap is_some row)

  -- an inquiry reads
  pub reads : m.kind ≡ 9 → Decides (Read (pair_in (facts_of l m) (places_of l m) m)) l m
  reads is = (
    call_past 9 is,
    λ reply. (
      sym (answered_at_read reply) ∙ answer_past (on_read reply),
      sym (moved_at l m 9 is (on_read reply)) ∙ sym (unremembered reply) ∙ books_past (on_read reply),
    ),
  )
    where
      answered_at_read : (reply : ReadReply) → answered l m (on_read reply) ≡ read_answered reply
      answered_at_read (Holds amount) = answered_at l m 9 is (on_read (Holds amount))
      answered_at_read NoAnswer =
          let by : ℕ → Performed = λ n. record { outcome = HostSilent; amount = cond (eqb n 1) m.amount 0 } in
          answered_at l m 9 is (on_read NoAnswer) ∙ ap by is

      unremembered : (reply : ReadReply) → remembered m (answered l m (on_read reply)) (moved l m (on_read reply)) ≡ moved l m (on_read reply)
      unremembered reply =
          let a = answered l m (on_read reply) in
          let x = moved l m (on_read reply) in
          cond-false (remembers m a.outcome) (noted m a x) x (forgets_inquiry m a.outcome (ap (λ n. eqb n 9) is))

-- a repeat of what was answered 25 puts again, settles the purchase in its row and remembers the new answer in the place of the old
pub puts_again : (l : Ledger) (m : Fields) → is_kind m.kind ≡ true → (place : ℕ) → Recalls (Open (Some place)) l m → sound_purchase (purchase_of l m) ≡ true
    → Decides (Put (put_for (facts_of l m) (places_of l m) m (own_row (facts_of l m) (places_of l m)) (Some place))) l m
puts_again l m kind place (goes, at, stands, other) sound = by (went l m kind)
  where
    sought : Remembered → Bool
    sought = of_request m.course m.request

    p : Purchase
    p = purchase_of l m

    known_row : purchase_row l m ≡ Some p
    known_row = there (purchase_row l m) no_purchase stands

    decided : (r : Remembered) → remembered_of l m ≡ Some r → same_fields r.fields m ≡ true → Decides (Put (put_for (facts_of l m) (places_of l m) m (own_row (facts_of l m) (places_of l m)) (Some place))) l m
    decided r row same = (
      ap (λ w. call_by w (put_of l m) (kind_call (kind_from m.kind) l m)) goes,
      λ reply.
          let answer = put_answered m (on_put reply) in
          let answering : Remembered → Remembered = λ x. record x { answer = answer } in
          let ledger : List Purchase → List Remembered → Ledger = λ ps rows. record l { purchases = ps; answers = rows } in
          let new : Remembered = answer_row m answer in
          record {
            answer = ap (λ w. answer_by w l m (on_put reply)) (sym goes);
            books =
                ap (λ n. ledger (set l.purchases (place_in (of_xid m.xid) l.purchases) (settled (on_put reply) m.amount p)) (set l.answers n new)) at
                ∙ ap (λ ps. ledger ps (set l.answers (place_in sought l.answers) new)) (settles l m reply p known_row)
                ∙ ap (ledger (update_first (of_xid m.xid) (settled (on_put reply) m.amount) l.purchases))
                (set_first sought l.answers r new row
                ∙ ap (λ f. update_first sought (λ _. answer_row f answer) l.answers) (sym (fields_equal r.fields m same))
                ∙ update_const sought answering l.answers r row)
                ∙ ap (λ w. books_by w l m (on_put reply)) (sym goes);
            fits = record {
              purchase = fits_own l m reply p known_row sound;
              known = known_own l m reply p known_row;
              batch = tt;
              remembered = (
                subst (λ n. n < length l.answers) (sym at) (found_place sought l.answers r row).within,
                sound_put (set l.purchases (place_in (of_xid m.xid) l.purchases) (settled (on_put reply) m.amount p)) m other reply (known_own l m reply p known_row m.xid stands),
              );
            };
          },
    )

    recalls : (a : Performed) → (o : Option Remembered) → remembered_of l m ≡ o → repeat_in o m ≡ Some a → Decides (Put (put_for (facts_of l m) (places_of l m) m (own_row (facts_of l m) (places_of l m)) (Some place))) l m
    recalls a None none is = absurd cc
    recalls a (Some r) row is = by_same (same_fields r.fields m) refl is
      where
        by_same : (t : Bool) → same_fields r.fields m ≡ t → cond t (Some r.answer) None ≡ Some a → Decides (Put (put_for (facts_of l m) (places_of l m) m (own_row (facts_of l m) (places_of l m)) (Some place))) l m
        by_same true same found = decided r row same
        by_same false same found = absurd cc

    by : Went l m → Decides (Put (put_for (facts_of l m) (places_of l m) m (own_row (facts_of l m) (places_of l m)) (Some place))) l m
    by (again a w k not_silent) = absurd (true≢false cc)
    by (retried a w k silent) = recalls a (remembered_of l m) refl k
    by (stopped o w check why) = absurd (true≢false cc)
    by (through w none pass free) = absurd (true≢false cc)

-- a repeat is answered from memory
pub answers_again : (l : Ledger) (m : Fields) (a : Performed) → way l m ≡ Again a → Decides (Answer a) l m
answers_again l m a goes = (
  ap (λ w. call_by w (put_of l m) (kind_call (kind_from m.kind) l m)) goes,
  ap (λ w. answer_by w l m uncalled) (sym goes),
  ap (λ w. books_by w l m uncalled) (sym goes),
)

-- a request number that is used is answered alone
pub refuses_used : (l : Ledger) (m : Fields) → way l m ≡ Stopped RequestNumberUsed → Decides (Answer (refused_with m RequestNumberUsed)) l m
refuses_used l m goes = (
  ap (λ w. call_by w (put_of l m) (kind_call (kind_from m.kind) l m)) goes,
  ap (λ w. answer_by w l m uncalled) (sym goes),
  sym (cond-false (remembers m RequestNumberUsed) (noted m (refused_with m RequestNumberUsed) l) l (forgets m RequestNumberUsed refl)) ∙ ap (λ w. books_by w l m uncalled) (sym goes),
)

-- a refusal moves nothing, and is remembered or forgotten
pub refuses : (l : Ledger) (m : Fields) (o : Outcome) → is_kind m.kind ≡ true → way l m ≡ Stopped o → Decides (refusing m o) l m
refuses l m o kind goes = by (remembers m o) refl
  where
    a : Performed
    a = refused_with m o

    by : (t : Bool) → remembers m o ≡ t → Decides (cond t (Commit (refusal_noted m a)) (Answer a)) l m
    by true kept = (
      ap (λ w. call_by w (put_of l m) (kind_call (kind_from m.kind) l m)) goes,
      record {
        answer = ap (λ w. answer_by w l m uncalled) (sym goes);
        books = sym (cond-true (remembers m o) (noted m a l) l kept) ∙ ap (λ w. books_by w l m uncalled) (sym goes);
        fits = record {
          purchase = tt;
          known = λ xid known. known;
          batch = tt;
          remembered = (stopped_room l m kind o goes kept, sound_heard l.purchases m (not-true _ (and_parts _ _ kept).0) a (stopped_heard l m kind o goes));
        };
      },
    )
    by false kept = (
      ap (λ w. call_by w (put_of l m) (kind_call (kind_from m.kind) l m)) goes,
      ap (λ w. answer_by w l m uncalled) (sym goes),
      sym (cond-false (remembers m o) (noted m a l) l kept) ∙ ap (λ w. books_by w l m uncalled) (sym goes),
    )

-- what is planned from what a message finds in books is planned from these books
module _ (found : Found) (l : Ledger) (m : Fields) (finds : Finds found l m) where
  pub planned : (plan : Facts → Places → Plan) → Decides (plan (facts_of l m) (places_of l m)) l m → (result : Plan) → result ≡ plan found.facts found.places → Decides result l m
  planned plan decides result is =
      subst (λ x. Decides x l m) (sym (is ∙ ap (λ f. plan f found.places) finds.facts ∙ ap (plan (facts_of l m)) finds.places)) decides

  pub sound_found : sound_purchase (purchase_of l m) ≡ true
  sound_found = ap (λ f. sound_purchase (unwrap_or f.purchase no_purchase)) (sym finds.facts) ∙ found.sound

  pub bounded_found : within (most_total (length l.answers)) (batch_of l m) ≡ true
  bounded_found = ap (λ f. within (most_total f.answers) (unwrap_or f.batch no_batch)) (sym finds.facts) ∙ found.bounded

  -- the checks of what was found decide the way of a message that is no repeat
  pub refusal_found : Recalls (Open None) l m → way l m ≡ choose None None (refusal m.kind (book_checks found.facts m))
  refusal_found new = new ∙ ap (λ f. choose None None (refusal m.kind (book_checks f m))) (sym finds.facts)
