-- The split of a message by the way that it goes, and, past all checks, by its kind.
use Rattle.std.proofs.Common.{◌≡◌, ℕ, ◌+◌, ◌-◌, ◌<◌, true, false, eqb, length, Some, None, sym, refl, subst}
use Rattle.fields.specs.Kind.{is_kind, kind_from}
use Rattle.host.specs.Parts.{Holdings, SameHeld}
use Rattle.host.specs.declared.PutReply.{PutReply}
use Rattle.host.specs.declared.ReadReply.{ReadReply}
use Rattle.wire.specs.declared.message.Fields.{Fields}
use Rattle.rules.specs.Ledger.{Ledger, most_answers, purchase_of, remembered_of}
use Rattle.rules.specs.Rules.{Call, Reply, add_batch, answer_of, answered, books_after, books_by, call_of, close, kind_moves, minus, moved, on_batch, on_purchase, on_put, on_read, plus, put_answered, put_of, refused_with, remembered, settled, uncalled, with_captured, with_credited, with_purchase}
use Rattle.rules.specs.declared.outcome.Outcome.{Outcome}
use Rattle.rules.specs.declared.outcome.Performed.{Performed}
use Rattle.rules.specs.Way.{Again, Retry, Stopped, Through}
use Rattle.rules.proofs.Outcomes.{is_check}
use Rattle.rules.proofs.Ways.{Refused, Went, again, book_refusal, by_kind, by_way, call_at, recalled, retried, stopped, through, went}
use Rattle.law.specs.Reached.{Replies}
use Rattle.law.proofs.Invariants.{Silent}

-- what is known of a message that is past all checks
pub record Passed (l : Ledger) (m : Fields) : Type 0 where
  pub absent : recalled l m ≡ None
  pub none : book_refusal l m ≡ None
  pub free : eqb m.kind 9 ≡ false → (remembered_of l m ≡ None) × (length l.answers < most_answers)

module _ (l : Ledger) (m : Fields) (held held' : Holdings) where
  -- past all checks: what is to show of the reply to each kind's call, and of the books as the kind
  -- moves them
  pub record EachMove (Q : Reply → Ledger → Type 0) : Type 0 where
    pub authorisation : m.kind ≡ 1 → (r : PutReply) → Replies (put_of l m) (on_put r) held held' → Q (on_put r) (on_purchase m (settled (on_put r) m.amount) (with_purchase m l))
    pub authorisation_reversal : m.kind ≡ 2 → (r : PutReply) → Replies (put_of l m) (on_put r) held held' → Q (on_put r) (on_purchase m (settled (on_put r) m.amount) l)
    pub capture : m.kind ≡ 3 → SameHeld held' held → Q uncalled (on_batch m (plus m.amount) (on_purchase m (with_captured m.amount m.batch) l))
    pub capture_reversal : m.kind ≡ 4 → SameHeld held' held
        → Q uncalled (on_batch m (minus (purchase_of l m).captured) (on_purchase m (λ p. with_captured 0 p.batch p) l))
    pub credit : m.kind ≡ 5 → SameHeld held' held
        → Q uncalled (on_batch m (minus m.amount) (on_purchase m (λ p. with_credited (p.credited + m.amount) p) l))
    pub credit_reversal : m.kind ≡ 6 → SameHeld held' held
        → Q uncalled (on_batch m (plus m.amount) (on_purchase m (λ p. with_credited (p.credited - m.amount) p) l))
    pub batch_open : m.kind ≡ 7 → SameHeld held' held → Q uncalled (add_batch m l)
    pub batch_close : m.kind ≡ 8 → SameHeld held' held → Q uncalled (on_batch m close l)
    pub inquiry : m.kind ≡ 9 → SameHeld held' held → (r : ReadReply) → Q (on_read r) l

  -- holds of what is moved
  pub by_move : (Q : Reply → Ledger → Type 0) → EachMove Q → is_kind m.kind ≡ true → (reply : Reply) → Replies (call_at l m m.kind) reply held held' → Q reply (moved l m reply)
  by_move Q each kind reply called = by_kind (λ k. m.kind ≡ k → Replies (call_at l m k) reply held held' → Q reply (by_number k reply)) (record {
    authorisation = λ is called. replied 1 called.3 (each.authorisation is called.0 (called.0, called.1, called.2, refl, called.4));
    authorisation_reversal = λ is called. replied 2 called.3 (each.authorisation_reversal is called.0 (called.0, called.1, called.2, refl, called.4));
    capture = λ is called. replied 3 called.0 (each.capture is called.1);
    capture_reversal = λ is called. replied 4 called.0 (each.capture_reversal is called.1);
    credit = λ is called. replied 5 called.0 (each.credit is called.1);
    credit_reversal = λ is called. replied 6 called.0 (each.credit_reversal is called.1);
    batch_open = λ is called. replied 7 called.0 (each.batch_open is called.1);
    batch_close = λ is called. replied 8 called.0 (each.batch_close is called.1);
    inquiry = λ is called. replied 9 called.2 (each.inquiry is called.3.holds called.0);
  }) m.kind kind refl called
    where
      by_number : ℕ → Reply → Ledger
      by_number k x = kind_moves (kind_from k) m x l

      replied : (k : ℕ) {x : Reply} → reply ≡ x → Q x (by_number k x) → Q reply (by_number k reply)
      replied k e = subst (λ x. Q x (by_number k x)) (sym e)

  -- what is to show of the answer and of the books after, for each way
  pub record EachWay (P : Performed → Ledger → Type 0) : Type 0 where
    pub repeated : (a : Performed) → recalled l m ≡ Some a → SameHeld held' held → P a l
    pub put_again : (s : Silent l m) (r : PutReply) → Replies (put_of l m) (on_put r) held held' → P (put_answered m (on_put r)) (books_by Retry l m (on_put r))
    pub refused : (o : Outcome) → is_check o ≡ true → Refused l m o → SameHeld held' held → P (refused_with m o) (remembered m (refused_with m o) l)
    pub passed : Passed l m → (reply : Reply) → Replies (call_at l m m.kind) reply held held' → P (answered l m reply) (remembered m (answered l m reply) (moved l m reply))

  -- holds of the message's own
  pub by_ways : (P : Performed → Ledger → Type 0) → EachWay P → is_kind m.kind ≡ true → (reply : Reply) → Replies (call_of l m) reply held held' → P (answer_of l m reply) (books_after l m reply)
  by_ways P each kind reply = at (went l m kind)
    where
      Goes : Call → Performed → Ledger → Type 0
      Goes call a books = Replies call reply held held' → P a books

      at : Went l m → Goes (call_of l m) (answer_of l m reply) (books_after l m reply)
      at (again a w known not_silent) = by_way l m reply Goes (Again a) w (λ called. each.repeated a known called.1)
      at (retried a w known silent) =
          by_way l m reply Goes Retry w (λ called. subst (λ x. P (put_answered m x) (books_by Retry l m x)) (sym called.3)
          (each.put_again (record { answer = a; is = known; silent = silent }) called.0 (called.0, called.1, called.2, refl, called.4)))
      at (stopped o w check why) = by_way l m reply Goes (Stopped o) w (λ called. each.refused o check why called.1)
      at (through w absent none free) = by_way l m reply Goes Through w (each.passed (record { absent = absent; none = none; free = free }) reply)
