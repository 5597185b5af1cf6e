-- The amounts and the doubts of the books, from message to message.
use Rattle.std.proofs.Common.{◌≡◌, ℕ, ◌+◌, ◌-◌, ◌≤◌, true, false, cond, not, ◌||◌, eqb, List, [], ◌∷◌, is_some, Some, None, unwrap_or, sym, refl, ap, ◌∙◌, subst, arith}
use Rattle.std.proofs.lemmas.Bool.{and_parts, cond_both, cond-false, not-true, true≢false}
use Rattle.fields.specs.Kind.{is_kind}
use Rattle.host.specs.Parts.{Holdings}
use Rattle.host.specs.declared.PutReply.{PutReply}
use Rattle.wire.specs.declared.message.Fields.{Fields}
use Rattle.rules.specs.Checks.{among}
use Rattle.rules.specs.Ledger.{Ledger, no_ledger, no_purchase, of_xid, purchase_row, remembered_of}
use Rattle.rules.specs.MessageCard.{message_card}
use Rattle.rules.specs.Outcome.{outcome_code}
use Rattle.rules.specs.Rules.{Reply, add_purchase, answered, books_after, books_by, call_of, is_forgotten, is_silent, new_purchase, noted, on_purchase, on_put, on_read, outcome_of, put_answered, refused_with, remembered, remembers, settled, uncalled, with_captured, with_credited, with_purchase}
use Rattle.wire.specs.Bytes.{same_bytes}
use Rattle.rules.specs.Same.{same_fields}
use Rattle.rules.specs.declared.outcome.Outcome.{Outcome}
use Rattle.rules.specs.declared.outcome.Outcome.TheVariants.{HostSilent}
use Rattle.rules.specs.declared.outcome.Performed.{Performed}
use Rattle.rules.specs.declared.purchase.Purchase.{Purchase}
use Rattle.rules.specs.Way.{Retry}
use Rattle.rules.proofs.Outcomes.{check_apart, is_check}
use Rattle.rules.proofs.Answering.{forgets, forgets_inquiry, keeps_answer, remembered_answers, remembered_part, replied_kept, with_purchase_part}
use Rattle.rules.proofs.Passed.{captures_within, card_the_same, credits_within, known, lowers, no_doubt, nothing_authorised, nothing_captured, nothing_credited}
use Rattle.rules.proofs.Settles.{settled_captured, settled_card, settled_credited, settled_doubt, settled_xid, silent_authorised}
use Rattle.rules.proofs.Ways.{Refused, book_refusal, full_memory, other_check, recalled, used_number}
use Rattle.law.specs.Booked.{booked_of}
use Rattle.law.specs.Reached.{Replies}
use Rattle.rules.proofs.Sames.{sames_refl}
use Rattle.law.proofs.Cases.{EachMove, Passed, by_move, by_ways}
use Rattle.law.proofs.Changes.{Change, kept_changed, kept_noted}
use Rattle.law.proofs.Invariants.{Kept, Silent}
use Rattle.law.proofs.Recall.{recalled_noted, recalled_replaced}
use Rattle.law.proofs.Rows.{booked_elsewhere, booked_here, booked_same, doubt_known, row_new, row_push_other}

-- nothing is remembered in empty books
nothing_silent : (m : Fields) → Silent no_ledger m → ⊥
nothing_silent m s = let is = s.is in true≢false cc

-- empty books are kept
pub kept_start : Kept no_ledger
kept_start = record {
  credited_within = λ xid. omega arith;
  captured_within = λ xid. omega arith;
  nothing_captured = λ xid amount e. refl;
  silent_kind = λ m s. absurd (nothing_silent m s);
  silent_doubt = λ m s. absurd (nothing_silent m s);
  silent_card = λ m s. absurd (nothing_silent m s);
  doubted = λ xid amount e. absurd (true≢false cc);
  silent_below = λ m s. absurd (nothing_silent m s);
  one_doubt = λ m n s t e. absurd (nothing_silent m s);
}

-- the purchase of a put has its row, of which nothing is captured; a reversal asks no more than is
-- authorised
record PutRow (l l₁ : Ledger) (m : Fields) : Type 0 where
  there : is_some (purchase_row l₁ m) ≡ true
  elsewhere : (xid : List ℕ) → same_bytes m.xid xid ≡ false → booked_of l₁ xid ≡ booked_of l xid
  credits : (booked_of l₁ m.xid).credited ≤ (booked_of l₁ m.xid).captured
  captures : (booked_of l₁ m.xid).captured ≡ 0
  card : m.kind ≡ 1 → (booked_of l₁ m.xid).card ≡ message_card m
  below : m.kind ≡ 2 → m.amount ≤ (booked_of l₁ m.xid).authorised

-- a put, new or made again, whose answer is remembered
put_change : (l l₁ l' : Ledger) (m : Fields) (r : PutReply) (a : Performed) → PutRow l l₁ m → (eqb m.kind 1 || eqb m.kind 2) ≡ true → a.outcome ≡ outcome_of (on_put r)
    → ((n : Fields) → Silent l n → m.xid ≡ n.xid → m ≡ n) → l'.purchases ≡ (on_purchase m (settled (on_put r) m.amount) l₁).purchases
    → ((n : Fields) → recalled l' n ≡ cond (same_fields m n) (Some a) (recalled l n)) → Change l l' m a
put_change l l₁ l' m r a row puts outcome alone same recalls =
    let f : Purchase → Purchase = settled (on_put r) m.amount in
    let p : Purchase = booked_of l₁ m.xid in
    let booked = booked_same (on_purchase m f l₁) l' same in
    let here : booked_of l' m.xid ≡ f p = booked m.xid ∙ booked_here l₁ m f (settled_xid r m.amount) row.there in
    let captured : (booked_of l' m.xid).captured ≡ p.captured = ap (λ q. q.captured) here ∙ settled_captured r m.amount p in
    let credited : (booked_of l' m.xid).credited ≡ p.credited = ap (λ q. q.credited) here ∙ settled_credited r m.amount p in
    let silent : eqb (outcome_code (outcome_of (on_put r))) 25 ≡ is_silent a = ap (λ o. eqb (outcome_code o) 25) (sym outcome) in
    record {
      recalls = recalls;
      elsewhere = λ xid apart. booked xid ∙ booked_elsewhere l₁ m f (settled_xid r m.amount) xid apart ∙ row.elsewhere xid apart;
      alone = alone;
      credits = omega (arith, row.credits);
      captures = omega (arith, row.captures);
      doubts = ap (λ q. q.doubt) here ∙ settled_doubt r m.amount p ∙ ap (λ t. cond t (Some m.amount) None) silent;
      only_puts = λ s. puts;
      uncaptured = λ s. captured ∙ row.captures;
      card_the_same = λ s is. ap (λ q. q.card) here ∙ settled_card r m.amount p ∙ row.card is;
      below = λ s is. subst (λ n. m.amount ≤ n) (sym (ap (λ q. q.authorised) here ∙ silent_authorised r m.amount p (silent ∙ s))) (row.below is);
    }

-- an XID that the books know keeps its row
put_row_known : (l : Ledger) (m : Fields) → Kept l → is_some (purchase_row l m) ≡ true → (booked_of l m.xid).captured ≡ 0 → (m.kind ≡ 1 → (booked_of l m.xid).card ≡ message_card m)
    → (m.kind ≡ 2 → m.amount ≤ (booked_of l m.xid).authorised) → PutRow l l m
put_row_known l m kept there nothing card below = record {
  there = there;
  elsewhere = λ xid apart. refl;
  credits = kept.credited_within m.xid;
  captures = nothing;
  card = card;
  below = below;
}

-- a new XID takes a row of its own
put_row_new : (l : Ledger) (m : Fields) → m.kind ≡ 1 → is_some (purchase_row l m) ≡ false → PutRow l (add_purchase m l) m
put_row_new l m is new =
    let here : purchase_row (add_purchase m l) m ≡ Some (new_purchase m) = row_new l m m.xid new (sames_refl m.xid) in
    let booked : booked_of (add_purchase m l) m.xid ≡ new_purchase m = ap (λ o. unwrap_or o no_purchase) here in
    record {
      there = ap is_some here;
      elsewhere = λ xid apart. ap (λ o. unwrap_or o no_purchase) (row_push_other (of_xid xid) l.purchases (new_purchase m) apart);
      credits = subst (λ p. p.credited ≤ p.captured) (sym booked) (omega arith);
      captures = ap (λ p. p.captured) booked;
      card = λ one. ap (λ p. p.card) booked;
      below = λ two. absurd (omega (arith, is, two));
    }

-- the purchase of an authorisation, known or new
put_row_first : (l : Ledger) (m : Fields) → Kept l → m.kind ≡ 1 → book_refusal l m ≡ None → PutRow l (with_purchase m l) m
put_row_first l m kept is none = cond_both (is_some (purchase_row l m)) l (add_purchase m l) (λ x. PutRow l x m)
    (λ known. put_row_known l m kept known (omega (arith, nothing_authorised l m none is, kept.captured_within m.xid)) (λ one. card_the_same l m none is known)
    (λ two. absurd (omega (arith, is, two))))
    (put_row_new l m is)

-- without a doubt no message of the XID is remembered with 25
none_silent : (l : Ledger) (m : Fields) → Kept l → (booked_of l m.xid).doubt ≡ None → (n : Fields) → Silent l n → m.xid ≡ n.xid → m ≡ n
none_silent l m kept clear n s e =
    let doubt : (booked_of l m.xid).doubt ≡ Some n.amount = ap (λ x. (booked_of l x).doubt) e ∙ kept.silent_doubt n s in
    cc

-- a put made again
kept_retried : (l : Ledger) (m : Fields) (r : PutReply) (a : Performed) → Kept l → recalled l m ≡ Some a → is_silent a ≡ true → Kept (books_by Retry l m (on_put r))
kept_retried l m r a kept is silent =
    let s : Silent l m = record { answer = a; is = is; silent = silent } in
    let l' : Ledger = books_by Retry l m (on_put r) in
    let b : Performed = put_answered m (on_put r) in
    let doubt = kept.silent_doubt m s in
    let row = put_row_known l m kept (doubt_known (purchase_row l m) m.amount doubt) (kept.nothing_captured m.xid m.amount doubt) (kept.silent_card m s) (kept.silent_below m s) in
    kept_changed l l' m b kept
    (put_change l l l' m r b row (kept.silent_kind m s) refl (λ n t e. kept.one_doubt m n s t e) refl (λ n. recalled_replaced l l' m n b a refl is))

-- a refusal other than 25, remembered or not
kept_refused : (l : Ledger) (m : Fields) (o : Outcome) → Kept l → recalled l m ≡ None → eqb (outcome_code o) 25 ≡ false → (remembers m o ≡ true → remembered_of l m ≡ None)
    → Kept (remembered m (refused_with m o) l)
kept_refused l m o kept absent heard new =
    let l' : Ledger = noted m (refused_with m o) l in
    cond_both (remembers m o) l' l Kept
    (λ e. kept_noted l l' m (refused_with m o) (λ n. recalled_noted l l' m n (refused_with m o) refl (new e)) kept refl absent heard) (λ e. kept)

-- a refusal that is not remembered
kept_forgotten : (l : Ledger) (m : Fields) (o : Outcome) → Kept l → is_forgotten o ≡ true → Kept (remembered m (refused_with m o) l)
kept_forgotten l m o kept quiet = subst Kept (sym (cond-false _ (noted m (refused_with m o) l) l (forgets m o quiet))) kept

-- a message past all checks
module _ (l : Ledger) (m : Fields) (held held' : Holdings) (kept : Kept l) (passed : Passed l m) where
  -- what is to show
  abbrev KeptThrough : Reply → Ledger → Type 0
  KeptThrough reply l' = Kept (remembered m (answered l m reply) l')

  -- the purchases after it
  purchases_of : (reply : Reply) (l' : Ledger) → (remembered m (answered l m reply) l').purchases ≡ l'.purchases
  purchases_of reply l' = remembered_part (λ x. x.purchases) m (answered l m reply) l' refl

  module _ (k : ℕ) (is : m.kind ≡ k) (other : eqb k 9 ≡ false) where
    -- what is remembered after it
    recalls_at : (reply : Reply) (l' : Ledger) → l'.answers ≡ l.answers → (n : Fields)
        → recalled (remembered m (answered l m reply) l') n ≡ cond (same_fields m n) (Some (answered l m reply)) (recalled l n)
    recalls_at reply l' same n =
        let no_inquiry : eqb m.kind 9 ≡ false = ap (λ j. eqb j 9) is ∙ other in
        recalled_noted l (remembered m (answered l m reply) l') m n (answered l m reply)
        (remembered_answers m (answered l m reply) l l' (keeps_answer m (outcome_of reply) no_inquiry (replied_kept reply)) same) (passed.free no_inquiry).0

    -- an authorisation or its reversal
    kept_put : (r : PutReply) (l₁ l' : Ledger) → l'.answers ≡ l.answers → PutRow l l₁ m → (eqb k 1 || eqb k 2) ≡ true → (booked_of l m.xid).doubt ≡ None
        → l'.purchases ≡ (on_purchase m (settled (on_put r) m.amount) l₁).purchases → KeptThrough (on_put r) l'
    kept_put r l₁ l' answers row puts clear same =
        let a : Performed = answered l m (on_put r) in
        kept_changed l (remembered m a l') m a kept
        (put_change l l₁ (remembered m a l') m r a row (ap (λ n. eqb n 1 || eqb n 2) is ∙ puts) refl (none_silent l m kept clear)
        (purchases_of (on_put r) l' ∙ same) (recalls_at (on_put r) l' answers))

    -- a capture, a credit, or a reversal of one: the rewritten purchase has its bounds, and no
    -- doubt
    kept_moved : (f : Purchase → Purchase) → ((p : Purchase) → (f p).xid ≡ p.xid) → ((p : Purchase) → (f p).doubt ≡ p.doubt)
        → among k (2 ∷ 3 ∷ 4 ∷ 5 ∷ 6 ∷ 9 ∷ []) ≡ true → among k (1 ∷ 2 ∷ 3 ∷ 4 ∷ 5 ∷ 6 ∷ []) ≡ true
        → (f (booked_of l m.xid)).credited ≤ (f (booked_of l m.xid)).captured → (f (booked_of l m.xid)).captured ≤ (f (booked_of l m.xid)).authorised
        → (l' : Ledger) → l'.answers ≡ l.answers → l'.purchases ≡ (on_purchase m f l).purchases → KeptThrough uncalled l'
    kept_moved f keeps doubts knows clears low high l' answers same =
        let after : Ledger = remembered m (answered l m uncalled) l' in
        let booked = booked_same (on_purchase m f l) after (purchases_of uncalled l' ∙ same) in
        let here : booked_of after m.xid ≡ f (booked_of l m.xid) = booked m.xid ∙ booked_here l m f keeps (known l m passed.none k is knows) in
        let clear : (booked_of l m.xid).doubt ≡ None = no_doubt l m passed.none k is clears in
        kept_changed l after m (answered l m uncalled) kept (record {
          recalls = recalls_at uncalled l' answers;
          elsewhere = λ xid apart. booked xid ∙ booked_elsewhere l m f keeps xid apart;
          alone = none_silent l m kept clear;
          credits = subst (λ p. p.credited ≤ p.captured) (sym here) low;
          captures = subst (λ p. p.captured ≤ p.authorised) (sym here) high;
          doubts = ap (λ p. p.doubt) here ∙ doubts (booked_of l m.xid) ∙ clear;
          only_puts = λ s. cc;
          uncaptured = λ s. cc;
          card_the_same = λ s is. cc;
          below = λ s is. absurd (true≢false (sym s));
        })

    -- a batch opened or closed
    kept_batch : (l' : Ledger) → l'.answers ≡ l.answers → l'.purchases ≡ l.purchases → KeptThrough uncalled l'
    kept_batch l' answers same =
        kept_noted l (remembered m (answered l m uncalled) l') m (answered l m uncalled) (recalls_at uncalled l' answers) kept (purchases_of uncalled l' ∙ same) passed.absent refl

  -- an inquiry moves nothing
  kept_inquiry : (reply : Reply) → m.kind ≡ 9 → KeptThrough reply l
  kept_inquiry reply is =
      subst Kept (sym (cond-false _ (noted m (answered l m reply) l) l (forgets_inquiry m (outcome_of reply) (ap (λ n. eqb n 9) is)))) kept

  kept_through : EachMove l m held held' KeptThrough
  kept_through = record {
    authorisation = λ is r called.
        kept_put 1 is refl r (with_purchase m l) _ (with_purchase_part (λ x. x.answers) m l refl) (put_row_first l m kept is passed.none) refl (no_doubt l m passed.none 1 is refl) refl;
    authorisation_reversal = λ is r called.
        let row = put_row_known l m kept (known l m passed.none 2 is refl) (nothing_captured l m passed.none 2 is refl) (λ one. absurd (omega (arith, is, one)))
        (λ two. omega (arith, lowers l m passed.none is)) in
        kept_put 2 is refl r l _ refl row refl (no_doubt l m passed.none 2 is refl) refl;
    capture = λ is same.
        let nothing = nothing_captured l m passed.none 3 is refl in
        kept_moved 3 is refl (with_captured m.amount m.batch) (λ p. refl) (λ p. refl) refl refl
        (omega (arith, kept.credited_within m.xid)) (captures_within l m passed.none is) _ refl refl;
    capture_reversal = λ is same.
        let nothing = nothing_credited l m passed.none is in
        kept_moved 4 is refl (λ p. with_captured 0 p.batch p) (λ p. refl) (λ p. refl) refl refl (omega arith) (omega arith) _ refl refl;
    credit = λ is same.
        kept_moved 5 is refl (λ p. with_credited (p.credited + m.amount) p) (λ p. refl) (λ p. refl) refl refl
        (omega (arith, credits_within l m passed.none is, kept.credited_within m.xid)) (kept.captured_within m.xid) _ refl refl;
    credit_reversal = λ is same.
        kept_moved 6 is refl (λ p. with_credited (p.credited - m.amount) p) (λ p. refl) (λ p. refl) refl refl
        (omega (arith, kept.credited_within m.xid)) (kept.captured_within m.xid) _ refl refl;
    batch_open = λ is same. kept_batch 7 is refl _ refl refl;
    batch_close = λ is same. kept_batch 8 is refl _ refl refl;
    inquiry = λ is same reply. kept_inquiry (on_read reply) is;
  }

-- every message keeps them so
pub kept_step : (l : Ledger) (m : Fields) (reply : Reply) (held held' : Holdings) → is_kind m.kind ≡ true → Kept l → Replies (call_of l m) reply held held' → Kept (books_after l m reply)
kept_step l m reply held held' kind kept = by_ways l m held held' (λ a books. Kept books) (record {
  repeated = λ a known same. kept;
  put_again = λ was r called. kept_retried l m r was.answer kept was.is was.silent;
  refused = λ o check why same. refused o check why;
  passed = λ passed. by_move l m held held' _ (kept_through l m held held' kept passed) kind;
}) kind reply
  where
    refused : (o : Outcome) → is_check o ≡ true → Refused l m o → Kept (remembered m (refused_with m o) l)
    refused o check (used_number is otherwise) = kept_forgotten l m o kept (ap is_forgotten is)
    refused o check (full_memory is new most) = kept_forgotten l m o kept (ap is_forgotten is)
    refused o check (other_check not_forgotten absent free) =
        kept_refused l m o kept absent (check_apart o HostSilent check refl) (λ e. (free (not-true _ (and_parts (not (eqb m.kind 9)) _ e).0)).0)
