-- The law over runs: all that is kept from message to message, and what stands by it.
use Rattle.std.proofs.Common.{◌≡◌, ℕ, suc, true, false, cond, List, [], ◌∷◌, map, Some, Ok, Err, Result, sym, refl, ap, ◌∙◌, subst, inl, inr, ⊎_elim, arith}
use Rattle.std.specs.Option.{option_map}
use Rattle.std.proofs.lemmas.Bool.{eq-eqb, eqb-true}
use Rattle.host.specs.Parts.{Holdings}
use Rattle.host.specs.declared.Pair.{Pair}
use Rattle.rows.specs.First.{first_with, row_with}
use Rattle.wire.specs.RoundTrip.{Bytes}
use Rattle.wire.specs.declared.message.Fields.{Fields}
use Rattle.rules.specs.Ledger.{Ledger, of_xid}
use Rattle.rules.specs.Outcome.{outcome_code}
use Rattle.rules.specs.Rules.{books_after}
use Rattle.rules.specs.declared.purchase.Purchase.{Purchase}
use Rattle.rules.proofs.Ways.{puts_no_inquiry}
use Rattle.law.specs.Purchases.{InDoubt, IsPurchase, named, purchases}
use Rattle.law.specs.Booked.{Booked, booked_of, name_of}
use Rattle.law.specs.Repeats.{RepeatsOf, full}
use Rattle.law.specs.History.{Entry, Given, NoInquiry, entry, last_given, opened}
use Rattle.law.specs.Observed.{Observed, RepeatsAgree, ReversalsGranted}
use Rattle.law.specs.Reached.{HandledByRules, PerformedByRules, Reached, RefusedAtOpening}
use Rattle.law.specs.Stands.{LawOverRuns, LawStands}
use Rattle.law.proofs.Base.{kind_of}
use Rattle.law.proofs.Batches.{batched_refused, batched_start, batched_step}
use Rattle.law.proofs.Granted.{granted_refused, granted_step}
use Rattle.law.proofs.Holds.{holding_same, holding_start, holding_step, one_pair, one_purchase}
use Rattle.law.proofs.Invariants.{Batched, Holding, IsRow, Kept, Known, Recalls, Shows, Silent, Sums, known, known_full, known_used}
use Rattle.law.proofs.Keeps.{kept_start, kept_step}
use Rattle.law.proofs.Memory.{recalls_refused, recalls_start, recalls_step, repeats_from}
use Rattle.law.proofs.Rows.{mapped_some}
use Rattle.law.proofs.Shown.{shows_refused, shows_start, shows_step}
use Rattle.law.proofs.Summed.{sums_refused, sums_start, sums_step}
use Rattle.law.proofs.Told.{place_of_map}

-- all that is kept
pub record Everything (h : List Entry) (l : Ledger) (held : Holdings) : Type 0 where
  pub kept : Kept l
  pub holding : Holding l held
  pub recalls : Recalls h l
  pub shows : Shows h l
  pub sums : Sums h l
  pub batched : Batched h l
  pub granted : ReversalsGranted h
  pub agree : RepeatsAgree h

-- at the start
start : (l : Ledger) (held : Holdings) → Reached [] l held → Everything [] l held
start l held (empty, nothing) =
    subst (λ x. Everything [] x held) (sym empty)
    (record { kept = kept_start; holding = holding_start held nothing; recalls = recalls_start; shows = shows_start; sums = sums_start; batched = batched_start; granted = tt; agree = tt })

module _ (h : List Entry) (bytes : List ℕ) (given : Given) (l₀ l : Ledger) (held₀ held : Holdings) (before : Everything h l₀ held₀) where
  -- what these bytes were last answered they are answered again
  again : (o : Result Fields ℕ) → opened bytes ≡ o → NoInquiry bytes → (last : Given) → last_given h bytes ≡ Some last → (last.code ≡ 25 → ⊥) → RepeatsOf o last l₀
  again o is other last told not_silent = subst (λ x. RepeatsOf x last l₀) is (repeats_from h l₀ before.recalls bytes other last told not_silent)

  -- bytes that are not opened
  refused : (number : ℕ) → opened bytes ≡ Err number → Bytes bytes → RefusedAtOpening number given l₀ held₀ l held → Everything (entry bytes given ∷ h) l held
  refused number is are r =
      subst (λ x. Everything (entry bytes given ∷ h) x held) (sym r.books)
      (subst (λ g. Everything (entry bytes g ∷ h) l₀ held) (sym r.answer)
      (record {
        kept = before.kept;
        holding = holding_same l₀ held₀ held r.same before.holding;
        recalls = recalls_refused h l₀ bytes number are is before.recalls;
        shows = shows_refused h l₀ bytes number is before.shows;
        sums = sums_refused h l₀ bytes number is before.sums;
        batched = batched_refused h l₀ bytes number is before.batched;
        granted = granted_refused h bytes number is before.granted;
        agree = ((λ other last told not_silent. again (Err number) is other last told not_silent), before.agree);
      }))

  -- a message that is performed
  performed : (m : Fields) → opened bytes ≡ Ok m → Bytes bytes → PerformedByRules m given l₀ held₀ l held → Everything (entry bytes given ∷ h) l held
  performed m is are p =
      let kind = kind_of bytes m is in
      subst (λ x. Everything (entry bytes given ∷ h) x held) (sym p.books)
      (subst (λ g. Everything (entry bytes g ∷ h) (books_after l₀ m p.reply) held) (sym p.answer)
      (record {
        kept = kept_step l₀ m p.reply held₀ held kind before.kept p.called;
        holding = holding_step l₀ m p.reply held₀ held kind before.kept before.holding p.called;
        recalls = recalls_step h l₀ bytes m p.reply held₀ held are is before.recalls p.called;
        shows = shows_step h l₀ bytes m p.reply held₀ held are is before.kept before.recalls before.shows p.called;
        sums = sums_step h l₀ bytes m p.reply held₀ held are is before.kept before.recalls before.shows before.sums p.called;
        batched = batched_step h l₀ bytes m p.reply held₀ held are is before.kept before.recalls before.batched p.called;
        granted = granted_step h l₀ bytes m p.reply held₀ held are is before.kept before.holding before.recalls before.granted p.called;
        agree = ((λ other last told not_silent. (again (Ok m) is other last told not_silent).same_answer p.reply), before.agree);
      }))

  -- any bytes
  handled : (o : Result Fields ℕ) → opened bytes ≡ o → Bytes bytes → HandledByRules o given l₀ held₀ l held → Everything (entry bytes given ∷ h) l held
  handled (Ok m) is are step = performed m is are step
  handled (Err number) is are step = refused number is are step

-- and so from message to message
pub everything : (h : List Entry) (l : Ledger) (held : Holdings) → Reached h l held → Everything h l held
everything [] l held reached = start l held reached
everything (e ∷ h) l held (l₀, held₀, reached, are, handles) =
    handled h e.bytes e.given l₀ l held₀ held (everything h l₀ held₀ reached) (opened e.bytes) refl are handles

-- a purchase has the same card in the history as its row in the books
row_of_map : (xid : List ℕ) (rows : List Purchase) → option_map (λ p. p.card) (row_with (of_xid xid) rows) ≡ option_map (λ b. b.card) (row_with (named xid) (map name_of rows))
row_of_map xid [] = refl
row_of_map xid (p ∷ rows) =
    elim (of_xid xid p) as (λ t. option_map (λ q. q.card) (cond t (Some p) (row_with (of_xid xid) rows)) ≡ option_map (λ b. b.card) (cond t (Some (name_of p)) (row_with (named xid) (map name_of rows)))) [
      | true ↦ refl
      | false ↦ row_of_map xid rows
    ]

module _ (h : List Entry) (l : Ledger) (held : Holdings) (all : Everything h l held) where
  -- the purchases of the history are the rows of the books
  cards : (xid : List ℕ) → option_map (λ p. p.card) (row_with (of_xid xid) l.purchases) ≡ option_map (λ b. b.card) (row_with (named xid) (purchases h))
  cards xid = row_of_map xid l.purchases ∙ ap (λ rows. option_map (λ b. b.card) (row_with (named xid) rows)) all.shows.same_purchases

  places : (xid : List ℕ) → option_map suc (first_with (of_xid xid) l.purchases) ≡ option_map suc (first_with (named xid) (purchases h))
  places xid = ap (option_map suc) (place_of_map xid l.purchases ∙ ap (first_with (named xid)) all.shows.same_purchases)

  row_of : (xid : List ℕ) (pair : Pair) → IsPurchase h xid pair → IsRow l xid pair
  row_of xid pair is = record { by_card = cards xid ∙ is.by_card; by_place = places xid ∙ is.by_place }

  purchase_of_row : (xid : List ℕ) (pair : Pair) → IsRow l xid pair → IsPurchase h xid pair
  purchase_of_row xid pair is = record { by_card = sym (cards xid) ∙ is.by_card; by_place = sym (places xid) ∙ is.by_place }

  -- a doubt of the books is one of the history
  doubt_told : (xid : List ℕ) (amount : ℕ) → (booked_of l xid).doubt ≡ Some amount → InDoubt h xid amount
  doubt_told xid amount is =
      let found = all.kept.doubted xid amount is in
      let m = found.0 in
      let silent = found.1 in
      let spelled = all.recalls.spelled m silent.answer silent.is in
      let asks = all.kept.silent_kind m silent in
      let last = all.recalls.last spelled.0 m silent.answer spelled.1 spelled.2 (puts_no_inquiry m.kind asks) silent.is in
      record {
        bytes = spelled.0;
        message = m;
        is_message = spelled.2;
        is_put = asks;
        for_xid = found.2;
        for_amount = found.3;
        last_silent = ap (option_map (λ g. g.code)) last ∙ ap Some (eqb-true _ 25 silent.silent);
      }

  -- a message that was last answered 25 is remembered so
  silent_of : (m : Fields) (given : Given) → Known l m given → given.code ≡ 25 → Silent l m
  silent_of m given (known a is same) code =
      record { answer = a; is = is; silent = eq-eqb (outcome_code a.outcome) 25 (sym (ap (λ g. g.code) same) ∙ code) }
  silent_of m given (known_used u same) code = let z : ◌≡◌ {A = ℕ} 8 25 = sym (ap (λ g. g.code) same) ∙ code in absurd (omega arith)
  silent_of m given (known_full none full same) code = let z : ◌≡◌ {A = ℕ} 9 25 = sym (ap (λ g. g.code) same) ∙ code in absurd (omega arith)

  -- and a doubt of the history is one of the books
  doubt_booked : (xid : List ℕ) (amount : ℕ) → InDoubt h xid amount → (booked_of l xid).doubt ≡ Some amount
  doubt_booked xid amount is =
      let m = is.message in
      let last = mapped_some (λ g. g.code) (last_given h is.bytes) 25 is.last_silent in
      let knows = all.recalls.answers is.bytes m last.0 (all.recalls.only_bytes is.bytes last.0 last.1) is.is_message (puts_no_inquiry m.kind is.is_put) last.1 in
      ap (λ x. (booked_of l x).doubt) (sym is.for_xid)
      ∙ all.kept.silent_doubt m (silent_of m last.0 knows last.2)
      ∙ ap Some is.for_amount

  -- what can be observed stands
  observed : Observed h held
  observed = record {
    held_rightly = λ xid pair is.
        ⊎_elim (λ exact. inl (exact ∙ all.shows.same_authorised xid)) (λ doubt. inr (doubt_told xid (held pair) doubt))
        (all.holding.own xid pair (row_of xid pair is));
    nothing_else = λ pair none. all.holding.other pair (λ xid is. none xid (purchase_of_row xid pair is));
    one_pair = λ xid pair pair' is is'. one_pair l xid pair pair' (row_of xid pair is) (row_of xid pair' is');
    not_shared = λ xid xid' pair is is'. one_purchase l xid xid' pair.reference (row_of xid pair is).by_place (row_of xid' pair is').by_place;
    bounded = λ xid. record {
      credit = (booked_of l xid).credited;
      is_credited = sym (all.shows.same_credited xid);
      never_negative = omega (arith, all.kept.credited_within xid, all.shows.same_captured xid);
      never_above = omega (arith, all.kept.captured_within xid, all.shows.same_captured xid, all.shows.same_authorised xid);
      captured_within = omega (arith, all.kept.captured_within xid, all.shows.same_captured xid, all.shows.same_authorised xid);
    };
    reversals_granted = all.granted;
    closes = all.sums.closes;
    repeats_agree = all.agree;
  }

  -- and what the books show
  booked : Booked h l
  booked = record {
    same_purchases = all.shows.same_purchases;
    same_amounts = λ xid. record {
      same_authorised = all.shows.same_authorised xid;
      same_captured = all.shows.same_captured xid;
      same_credited = all.shows.same_credited xid;
      same_doubt = λ amount. (doubt_told xid amount, doubt_booked xid amount);
    };
    same_batches = all.batched.same_batches;
    same_closed = all.batched.same_closed;
    totals = all.sums.totals;
  }

  pub stands : LawStands h l held
  stands = record { observed = observed; booked = booked; repeats = repeats_from h l all.recalls }

-- the law over runs
pub law_over_runs : LawOverRuns
law_over_runs h l held reached = stands h l held (everything h l held reached)
