-- The books show the purchases and amounts of the history, from message to message.
use Rattle.std.proofs.Common.{◌≡◌, ℕ, ◌+◌, ◌-◌, Bool, true, false, not, ◌||◌, eqb, List, [], ◌∷◌, map, is_some, Some, None, Ok, Err, Option, sym, refl, ap, ◌∙◌, subst}
use Rattle.std.proofs.lemmas.Bool.{and_left, and_right, eqb-true, or_from}
use Rattle.host.specs.Parts.{Holdings}
use Rattle.host.specs.declared.PutReply.{PutReply}
use Rattle.host.specs.declared.PutReply.TheVariants.{Done, Refused, Silent}
use Rattle.rows.specs.First.{first_with}
use Rattle.wire.specs.RoundTrip.{Bytes}
use Rattle.wire.specs.declared.message.Fields.{Fields}
use Rattle.rules.specs.Checks.{among}
use Rattle.rules.specs.Ledger.{Ledger, no_ledger, purchase_row}
use Rattle.rules.specs.Outcome.{outcome_code}
use Rattle.rules.specs.Rules.{Reply, answer_of, answered, books_after, books_by, call_of, on_purchase, on_put, on_read, outcome_of, put_answered, refused_with, remembered, settled, uncalled, with_captured, with_credited, with_purchase}
use Rattle.rules.specs.declared.outcome.Outcome.{Outcome}
use Rattle.rules.specs.declared.outcome.Outcome.TheVariants.{HostRefused, HostSilent, Success}
use Rattle.rules.specs.declared.outcome.Performed.{Performed}
use Rattle.rules.specs.declared.purchase.Purchase.{Purchase}
use Rattle.rules.specs.Way.{Retry}
use Rattle.rules.proofs.Outcomes.{check_apart, is_check}
use Rattle.rules.proofs.Answering.{remembered_part}
use Rattle.rules.proofs.Passed.{known, uncredits_within}
use Rattle.rules.proofs.Settles.{settled_part}
use Rattle.rules.proofs.Ways.{puts_no_inquiry, recalled}
use Rattle.law.specs.Booked.{booked_of, name_of}
use Rattle.law.specs.Repeats.{full}
use Rattle.law.specs.History.{Entry, entry, message_of, opened, short, succeeded_before, succeeds}
use Rattle.law.specs.Purchases.{makes_purchase, named}
use Rattle.law.specs.Reached.{Replies}
use Rattle.law.proofs.Base.{at_number, kind_of, when, when_none}
use Rattle.law.proofs.Cases.{EachMove, Passed, by_move, by_ways}
use Rattle.law.proofs.Invariants.{Kept, Recalls, Shows, Silent as RecalledSilent}
use Rattle.law.proofs.Rows.{booked_same, doubt_known}
use Rattle.law.proofs.Succeeds.{again_not, fresh, fresh_silent, succeeds_new}
use Rattle.law.proofs.Told.{Moves, Told, adds, moves_capture, moves_credit, moves_never, moves_not, moves_put, moves_uncapture, moves_uncredit, told_first, told_known, told_shows, told_still, was_purchase}

-- empty books show an empty history
pub shows_start : Shows [] no_ledger
shows_start = record { same_purchases = refl; same_authorised = λ xid. refl; same_captured = λ xid. refl; same_credited = λ xid. refl }

-- no message shows nothing
told_none : (c : ℕ) (t : Bool) (l : Ledger) → Told None c (when t None) l l
told_none c t l = record { same_names = refl; moves = λ xid. subst (λ o. Moves o xid (booked_of l xid) (booked_of l xid)) (sym (when_none t)) (moves_not xid (booked_of l xid)) }

-- nor do bytes that are not opened
pub shows_refused : (h : List Entry) (l : Ledger) (bytes : List ℕ) (number : ℕ) → opened bytes ≡ Err number → Shows h l → Shows (entry bytes (short number) ∷ h) l
shows_refused h l bytes number is s =
    told_shows h (entry bytes (short number)) l l s
    (subst (λ o. Told o number (when (succeeds (entry bytes (short number)) h) o) l l) (sym (ap message_of is)) (told_none number _ l))

-- a message that does not succeed and makes no purchase
told_not : (m : Fields) (c : ℕ) (t : Bool) (l : Ledger) → adds m c (map name_of l.purchases) ≡ false → t ≡ false → Told (Some m) c (when t (Some m)) l l
told_not m c t l still fails = told_still m c t l still (λ xid p. subst (λ u. Moves (when u (Some m)) xid p p) (sym fails) (moves_not xid p))

-- a message of a kind that moves no purchase
told_quiet : (m : Fields) (c : ℕ) (t : Bool) (l : Ledger) (k : ℕ) → m.kind ≡ k → eqb k 1 ≡ false → ((xid : List ℕ) (p : Purchase) → Moves (Some (record m { kind = k })) xid p p)
    → Told (Some m) c (when t (Some m)) l l
told_quiet m c t l k kind other never =
    told_still m c t l (and_left (makes_purchase m c) _ (and_left (eqb m.kind 1) _ (ap (λ j. eqb j 1) kind ∙ other)))
    (λ xid p. moves_never t m xid p (at_number (λ n. Moves (Some n) xid p p) m k kind (never xid p)))

-- what is remembered, and the batches, are of no matter to the purchases
told_same : (o : Option Fields) (c : ℕ) (done : Option Fields) (l l' l'' : Ledger) → l''.purchases ≡ l'.purchases → Told o c done l l' → Told o c done l l''
told_same o c done l l' l'' same told = record {
  same_names = ap (map name_of) same ∙ told.same_names;
  moves = λ xid. subst (λ q. Moves done xid (booked_of l xid) q) (sym (booked_same l' l'' same xid)) (told.moves xid);
}

-- a put leaves the names of the purchases
settled_name : (reply : PutReply) (amount : ℕ) (p : Purchase) → name_of (settled (on_put reply) amount p) ≡ name_of p
settled_name = settled_part name_of (λ amount doubt p. refl)

-- an authorisation makes a purchase whatever its put replies
put_makes : (m : Fields) (reply : PutReply) → m.kind ≡ 1 → makes_purchase m (outcome_code (outcome_of (on_put reply))) ≡ true
put_makes m Done kind = at_number (λ n. makes_purchase n 0 ≡ true) m 1 kind refl
put_makes m Refused kind = at_number (λ n. makes_purchase n 24 ≡ true) m 1 kind refl
put_makes m Silent kind = at_number (λ n. makes_purchase n 25 ≡ true) m 1 kind refl

-- the books after these bytes and this answer, as the history after them
abbrev ToldBy : List Entry → Ledger → List ℕ → Fields → Performed → Ledger → Type 0
ToldBy h l bytes m a l' = Told (Some m) (outcome_code a.outcome) (when (succeeds (entry bytes (full a)) h) (Some m)) l l'

-- what is remembered besides
told_remembered : (h : List Entry) (l : Ledger) (bytes : List ℕ) (m : Fields) (a : Performed) (l' : Ledger) → ToldBy h l bytes m a l' → ToldBy h l bytes m a (remembered m a l')
told_remembered h l bytes m a l' told = told_same (Some m) _ _ l l' (remembered m a l') (remembered_part (λ x. x.purchases) m a l' refl) told

-- a refusal
told_stopped : (h : List Entry) (l : Ledger) (bytes : List ℕ) (m : Fields) (o : Outcome) → is_check o ≡ true
    → ToldBy h l bytes m (refused_with m o) (remembered m (refused_with m o) l)
told_stopped h l bytes m o check =
    let fails = check_apart o Success check refl in
    told_remembered h l bytes m (refused_with m o) l
    (told_not m (outcome_code o) _ l (and_left _ _ (and_right (eqb m.kind 1) _ (or_from _ _ fails (or_from _ _ (check_apart o HostRefused check refl) (check_apart o HostSilent check refl)))))
    (and_left _ _ fails))

module _ (h : List Entry) (l : Ledger) (bytes : List ℕ) (m : Fields) (are : Bytes bytes) (is : opened bytes ≡ Ok m) (r : Recalls h l) where
  -- a repeat
  told_again : Shows h l → (a : Performed) → recalled l m ≡ Some a → ToldBy h l bytes m a l
  told_again s a recall = at_kind (eqb m.kind 9) refl
    where
      -- under 0, 24 or 25 it was answered before, so its XID is a purchase already
      still : eqb m.kind 9 ≡ false → (makes : Bool) → makes_purchase m (outcome_code a.outcome) ≡ makes → adds m (outcome_code a.outcome) (map name_of l.purchases) ≡ false
      still other false fails = and_left _ _ fails
      still other true makes =
          and_right (makes_purchase m (outcome_code a.outcome)) _
          (ap (λ bs. not (is_some (first_with (named m.xid) bs))) s.same_purchases
          ∙ ap not (was_purchase h bytes m (full a) is (r.last bytes m a are is other recall) makes))

      at_kind : (inquiry : Bool) → eqb m.kind 9 ≡ inquiry → ToldBy h l bytes m a l
      at_kind true inquiry = told_quiet m _ _ l 9 (eqb-true m.kind 9 inquiry) refl (λ xid p. record { authorises = refl; captures = refl; credits = refl })
      at_kind false other = told_not m _ _ l (still other _ refl) (again_not h l bytes m are is other r a recall)

  -- a message that was not done before moves what its answer says
  moves_now : succeeded_before h bytes ≡ false → (a : Performed) (p q : Purchase) → Moves (when (eqb (outcome_code a.outcome) 0) (Some m)) m.xid p q
      → Moves (when (succeeds (entry bytes (full a)) h) (Some m)) m.xid p q
  moves_now new a p q moves = subst (λ t. Moves (when t (Some m)) m.xid p q) (sym (succeeds_new h bytes a new)) moves

  -- a put that is made again
  told_retried : Kept l → (was : RecalledSilent l m) (reply : PutReply) → ToldBy h l bytes m (put_answered m (on_put reply)) (books_by Retry l m (on_put reply))
  told_retried kept was reply =
      let puts = kept.silent_kind m was in
      told_same (Some m) _ _ l (on_purchase m (settled (on_put reply) m.amount) l) (books_by Retry l m (on_put reply)) refl
      (told_known m _ _ l (settled (on_put reply) m.amount) (settled_name reply m.amount) (doubt_known (purchase_row l m) m.amount (kept.silent_doubt m was))
      (moves_now (fresh_silent h l bytes m are is (puts_no_inquiry m.kind puts) r was.answer was.is was.silent) (put_answered m (on_put reply)) _ _ (moves_put m reply _ puts)))

  -- past all checks
  module _ (held held' : Holdings) (passed : Passed l m) where
    abbrev ToldThrough : Reply → Ledger → Type 0
    ToldThrough reply l' = ToldBy h l bytes m (answered l m reply) (remembered m (answered l m reply) l')

    -- a message of one of the kinds 1 to 8 was not done before
    new : (k : ℕ) → m.kind ≡ k → eqb k 9 ≡ false → succeeded_before h bytes ≡ false
    new k kind other = fresh h l bytes m are is (ap (λ j. eqb j 9) kind ∙ other) r passed.absent

    -- a message for a purchase that the books know
    told_on : (reply : Reply) (l' : Ledger) (k : ℕ) → m.kind ≡ k → (f : Purchase → Purchase) → ((p : Purchase) → name_of (f p) ≡ name_of p)
        → among k (2 ∷ 3 ∷ 4 ∷ 5 ∷ 6 ∷ 9 ∷ []) ≡ true → eqb k 9 ≡ false → l'.purchases ≡ (on_purchase m f l).purchases
        → Moves (when (eqb (outcome_code (outcome_of reply)) 0) (Some m)) m.xid (booked_of l m.xid) (f (booked_of l m.xid)) → ToldThrough reply l'
    told_on reply l' k kind f keeps kinds other same here =
        told_remembered h l bytes m (answered l m reply) l'
        (told_same (Some m) _ _ l (on_purchase m f l) l' same
        (told_known m _ _ l f keeps (known l m passed.none k kind kinds) (moves_now (new k kind other) (answered l m reply) _ _ here)))

    -- a message that moves no purchase
    told_idle : (reply : Reply) (l' : Ledger) (k : ℕ) → m.kind ≡ k → l'.purchases ≡ l.purchases → eqb k 1 ≡ false → ((xid : List ℕ) (p : Purchase) → Moves (Some (record m { kind = k })) xid p p)
        → ToldThrough reply l'
    told_idle reply l' k kind same other never =
        told_remembered h l bytes m (answered l m reply) l' (told_same (Some m) _ _ l l l' same (told_quiet m _ _ l k kind other never))

    told_through : EachMove l m held held' ToldThrough
    told_through = record {
      authorisation = λ kind reply called.
          told_remembered h l bytes m (answered l m (on_put reply)) (on_purchase m (settled (on_put reply) m.amount) (with_purchase m l))
          (told_first m _ _ l (settled (on_put reply) m.amount) (settled_name reply m.amount) (put_makes m reply kind)
          (λ p. moves_now (new 1 kind refl) (answered l m (on_put reply)) p _ (moves_put m reply p (ap (λ k. eqb k 1 || eqb k 2) kind))));
      authorisation_reversal = λ kind reply called.
          told_on (on_put reply) _ 2 kind (settled (on_put reply) m.amount) (settled_name reply m.amount) refl refl refl
          (moves_put m reply _ (ap (λ k. eqb k 1 || eqb k 2) kind));
      capture = λ kind same. told_on uncalled _ 3 kind (with_captured m.amount m.batch) (λ p. refl) refl refl refl (moves_capture m m.batch _ kind);
      capture_reversal = λ kind same. told_on uncalled _ 4 kind (λ p. with_captured 0 p.batch p) (λ p. refl) refl refl refl (moves_uncapture m _ _ kind);
      credit = λ kind same. told_on uncalled _ 5 kind (λ p. with_credited (p.credited + m.amount) p) (λ p. refl) refl refl refl (moves_credit m _ kind);
      credit_reversal = λ kind same.
          told_on uncalled _ 6 kind (λ p. with_credited (p.credited - m.amount) p) (λ p. refl) refl refl refl (moves_uncredit m _ (uncredits_within l m passed.none kind) kind);
      batch_open = λ kind same. told_idle uncalled _ 7 kind refl refl (λ xid p. record { authorises = refl; captures = refl; credits = refl });
      batch_close = λ kind same. told_idle uncalled _ 8 kind refl refl (λ xid p. record { authorises = refl; captures = refl; credits = refl });
      inquiry = λ kind same reply. told_idle (on_read reply) l 9 kind refl refl (λ xid p. record { authorises = refl; captures = refl; credits = refl });
    }

-- every message is shown
pub shows_step : (h : List Entry) (l : Ledger) (bytes : List ℕ) (m : Fields) (reply : Reply) (held held' : Holdings) → Bytes bytes → opened bytes ≡ Ok m
    → Kept l → Recalls h l → Shows h l → Replies (call_of l m) reply held held' → Shows (entry bytes (full (answer_of l m reply)) ∷ h) (books_after l m reply)
shows_step h l bytes m reply held held' are is kept r s called =
    told_shows h (entry bytes (full (answer_of l m reply))) l (books_after l m reply) s
    (subst (λ o. Told o (outcome_code (answer_of l m reply).outcome) (when (succeeds (entry bytes (full (answer_of l m reply))) h) o) l (books_after l m reply)) (sym (ap message_of is))
    (by_ways l m held held' (ToldBy h l bytes m) (record {
      repeated = λ a known same. told_again h l bytes m are is r s a known;
      put_again = λ was reply called. told_retried h l bytes m are is r kept was reply;
      refused = λ o check why same. told_stopped h l bytes m o check;
      passed = λ passed. by_move l m held held' _ (told_through h l bytes m are is r held held' passed) (kind_of bytes m is);
    }) (kind_of bytes m is) reply called))
