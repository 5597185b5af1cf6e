-- The amounts and the doubts of the books stay kept by a change of one purchase, and by one of
-- answers only.
use Rattle.std.proofs.Common.{◌≡◌, ℕ, ◌≤◌, Bool, true, false, cond, ◌||◌, eqb, ◌⊎◌, List, Some, None, sym, refl, ap, ◌∙◌, subst, inl, inr}
use Rattle.std.proofs.lemmas.Bool.{both_ways, cond-true, cond-false, true≢false}
use Rattle.wire.specs.declared.message.Fields.{Fields}
use Rattle.rules.specs.Ledger.{Ledger}
use Rattle.rules.specs.MessageCard.{message_card}
use Rattle.rules.specs.Rules.{is_silent}
use Rattle.wire.specs.Bytes.{same_bytes}
use Rattle.rules.specs.Same.{same_fields}
use Rattle.rules.specs.declared.outcome.Performed.{Performed}
use Rattle.rules.specs.declared.purchase.Purchase.{Purchase}
use Rattle.rules.proofs.Ways.{recalled}
use Rattle.law.specs.Booked.{booked_of}
use Rattle.rules.proofs.Sames.{fields_equal, fields_refl, same_from, sames_equal}
use Rattle.law.proofs.Base.{unless}
use Rattle.law.proofs.Invariants.{Kept, Silent}
use Rattle.law.proofs.Rows.{booked_same}

-- the purchases stay, and the same messages are remembered with 25
pub kept_aside : (l l' : Ledger) → Kept l → l'.purchases ≡ l.purchases → ((n : Fields) → Silent l' n → Silent l n) → ((n : Fields) → Silent l n → Silent l' n) → Kept l'
kept_aside l l' kept same old new =
    let booked = booked_same l l' same in
    record {
      credited_within = λ xid. subst (λ p. p.credited ≤ p.captured) (sym (booked xid)) (kept.credited_within xid);
      captured_within = λ xid. subst (λ p. p.captured ≤ p.authorised) (sym (booked xid)) (kept.captured_within xid);
      nothing_captured = λ xid amount e. ap (λ p. p.captured) (booked xid) ∙ kept.nothing_captured xid amount (ap (λ p. p.doubt) (sym (booked xid)) ∙ e);
      silent_kind = λ n s. kept.silent_kind n (old n s);
      silent_doubt = λ n s. ap (λ p. p.doubt) (booked n.xid) ∙ kept.silent_doubt n (old n s);
      silent_card = λ n s is. ap (λ p. p.card) (booked n.xid) ∙ kept.silent_card n (old n s) is;
      doubted = λ xid amount e. let d = kept.doubted xid amount (ap (λ p. p.doubt) (sym (booked xid)) ∙ e) in (d.0, new d.0 d.1, d.2, d.3);
      silent_below = λ n s is. subst (λ p. n.amount ≤ p.authorised) (sym (booked n.xid)) (kept.silent_below n (old n s) is);
      one_doubt = λ n o s t e. kept.one_doubt n o (old n s) (old o t) e;
    }

-- after the message m was remembered with the answer a, a message that is remembered with 25 is m
-- itself, or was before
abbrev SilentAfter : Ledger → Fields → Performed → Fields → Type 0
SilentAfter l m a n = ((m ≡ n) × (is_silent a ≡ true)) ⊎ ((same_fields m n ≡ false) × Silent l n)

module _ (l l' : Ledger) (m : Fields) (a : Performed) (recalls : (n : Fields) → recalled l' n ≡ cond (same_fields m n) (Some a) (recalled l n)) where
  -- each message remembered with 25 is one of the two
  silent_after : (n : Fields) → Silent l' n → SilentAfter l m a n
  silent_after n s = by (same_fields m n) refl (sym (recalls n) ∙ s.is)
    where
      by : (t : Bool) → same_fields m n ≡ t → cond t (Some a) (recalled l n) ≡ Some s.answer → SilentAfter l m a n
      by true e is = let same : a ≡ s.answer = cc in inl (fields_equal m n e, ap is_silent same ∙ s.silent)
      by false e is = inr (e, record { answer = s.answer; is = is; silent = s.silent })

  -- a message answered 25 is remembered so
  silent_here : is_silent a ≡ true → Silent l' m
  silent_here silent = record { answer = a; is = recalls m ∙ cond-true (same_fields m m) (Some a) (recalled l m) (fields_refl m); silent = silent }

  -- and so is each other message that was
  silent_still : (n : Fields) → same_fields m n ≡ false → Silent l n → Silent l' n
  silent_still n apart s = record { answer = s.answer; is = recalls n ∙ cond-false (same_fields m n) (Some a) (recalled l n) apart ∙ s.is; silent = s.silent }

  -- nothing becomes silent, if the message is new and its answer not 25
  pub kept_noted : Kept l → l'.purchases ≡ l.purchases → recalled l m ≡ None → is_silent a ≡ false → Kept l'
  kept_noted kept same new heard = kept_aside l l' kept same (λ n s. old n (silent_after n s)) (λ n s. still n s (same_fields m n) refl)
    where
      old : (n : Fields) → SilentAfter l m a n → Silent l n
      old n (inl here) = absurd (both_ways (is_silent a) heard here.1)
      old n (inr there) = there.1

      still : (n : Fields) → Silent l n → (t : Bool) → same_fields m n ≡ t → Silent l' n
      still n s true e =
          let same = fields_equal m n e in
          let lost : recalled l n ≡ None = ap (recalled l) (sym same) ∙ new in
          let is = s.is in
          absurd (true≢false cc)
      still n s false e = silent_still n e s

-- a message changes its own purchase, and its answer is remembered: the purchase is in doubt after
-- it just if the answer is 25
pub record Change (l l' : Ledger) (m : Fields) (a : Performed) : Type 0 where
  pub recalls : (n : Fields) → recalled l' n ≡ cond (same_fields m n) (Some a) (recalled l n)
  pub elsewhere : (xid : List ℕ) → same_bytes m.xid xid ≡ false → booked_of l' xid ≡ booked_of l xid
  -- no other message of this XID was remembered with 25
  pub alone : (n : Fields) → Silent l n → m.xid ≡ n.xid → m ≡ n
  pub credits : (booked_of l' m.xid).credited ≤ (booked_of l' m.xid).captured
  pub captures : (booked_of l' m.xid).captured ≤ (booked_of l' m.xid).authorised
  pub doubts : (booked_of l' m.xid).doubt ≡ cond (is_silent a) (Some m.amount) None
  pub only_puts : is_silent a ≡ true → (eqb m.kind 1 || eqb m.kind 2) ≡ true
  pub uncaptured : is_silent a ≡ true → (booked_of l' m.xid).captured ≡ 0
  pub card_the_same : is_silent a ≡ true → m.kind ≡ 1 → (booked_of l' m.xid).card ≡ message_card m
  pub below : is_silent a ≡ true → m.kind ≡ 2 → m.amount ≤ (booked_of l' m.xid).authorised

-- an XID is that of the message, or has its purchase as before
abbrev Where : Ledger → Ledger → Fields → List ℕ → Type 0
Where l l' m xid = (m.xid ≡ xid) ⊎ ((same_bytes m.xid xid ≡ false) × (booked_of l' xid ≡ booked_of l xid))

module _ (l l' : Ledger) (m : Fields) (a : Performed) (kept : Kept l) (c : Change l l' m a) where
  here_or_there : (xid : List ℕ) → Where l l' m xid
  here_or_there xid = by (same_bytes m.xid xid) refl
    where
      by : (t : Bool) → same_bytes m.xid xid ≡ t → Where l l' m xid
      by true e = inl (sames_equal m.xid xid e)
      by false e = inr (e, c.elsewhere xid e)

  -- the answer was 25 if there is a doubt, and the doubt has the amount asked
  asked : (amount : ℕ) → (booked_of l' m.xid).doubt ≡ Some amount → (is_silent a ≡ true) × (m.amount ≡ amount)
  asked amount e = by (is_silent a) refl (sym c.doubts ∙ e)
    where
      by : (t : Bool) → is_silent a ≡ t → cond t (Some m.amount) None ≡ Some amount → (is_silent a ≡ true) × (m.amount ≡ amount)
      by true s is = (s, cc)
      by false s is = absurd (true≢false cc)

  -- answered 25, its purchase is in doubt over the amount asked
  doubt_here : is_silent a ≡ true → (booked_of l' m.xid).doubt ≡ Some m.amount
  doubt_here s = c.doubts ∙ cond-true (is_silent a) (Some m.amount) None s

  after : (n : Fields) → Silent l' n → SilentAfter l m a n
  after = silent_after l l' m a c.recalls

  -- another message that was remembered with 25 has another XID
  other_xid : (n : Fields) → same_fields m n ≡ false → Silent l n → m.xid ≡ n.xid → ⊥
  other_xid n apart s e = both_ways (same_fields m n) apart (subst (λ o. same_fields m o ≡ true) (c.alone n s e) (fields_refl m))

  -- so its purchase is as before
  booked_still : (n : Fields) → same_fields m n ≡ false → Silent l n → booked_of l' n.xid ≡ booked_of l n.xid
  booked_still n apart s = by (here_or_there n.xid)
    where
      by : Where l l' m n.xid → booked_of l' n.xid ≡ booked_of l n.xid
      by (inl e) = absurd (other_xid n apart s e)
      by (inr there) = there.1

  -- what holds of this purchase and held of all holds of all
  of_all : (P : Purchase → Type 0) → P (booked_of l' m.xid) → ((xid : List ℕ) → P (booked_of l xid)) → (xid : List ℕ) → P (booked_of l' xid)
  of_all P here before xid = by (here_or_there xid)
    where
      by : Where l l' m xid → P (booked_of l' xid)
      by (inl e) = subst (λ x. P (booked_of l' x)) e here
      by (inr there) = subst P (sym there.1) (before xid)

  -- after the change: what is remembered with 25 is an authorisation or its reversal, puts its
  -- purchase in doubt, and has its card; a reversal asks no more than is authorised
  kind_after : (n : Fields) → SilentAfter l m a n → (eqb n.kind 1 || eqb n.kind 2) ≡ true
  kind_after n (inl here) = subst (λ o. (eqb o.kind 1 || eqb o.kind 2) ≡ true) here.0 (c.only_puts here.1)
  kind_after n (inr there) = kept.silent_kind n there.1

  doubt_after : (n : Fields) → SilentAfter l m a n → (booked_of l' n.xid).doubt ≡ Some n.amount
  doubt_after n (inl here) = subst (λ o. (booked_of l' o.xid).doubt ≡ Some o.amount) here.0 (doubt_here here.1)
  doubt_after n (inr there) = ap (λ p. p.doubt) (booked_still n there.0 there.1) ∙ kept.silent_doubt n there.1

  card_after : (n : Fields) → SilentAfter l m a n → n.kind ≡ 1 → (booked_of l' n.xid).card ≡ message_card n
  card_after n (inl here) is = subst (λ o. o.kind ≡ 1 → (booked_of l' o.xid).card ≡ message_card o) here.0 (c.card_the_same here.1) is
  card_after n (inr there) is = ap (λ p. p.card) (booked_still n there.0 there.1) ∙ kept.silent_card n there.1 is

  below_after : (n : Fields) → SilentAfter l m a n → n.kind ≡ 2 → n.amount ≤ (booked_of l' n.xid).authorised
  below_after n (inl here) is = subst (λ o. o.kind ≡ 2 → o.amount ≤ (booked_of l' o.xid).authorised) here.0 (c.below here.1) is
  below_after n (inr there) is = subst (λ p. n.amount ≤ p.authorised) (sym (booked_still n there.0 there.1)) (kept.silent_below n there.1 is)

  -- each doubt comes from one such message, and from no other
  doubted_after : (xid : List ℕ) (amount : ℕ) → (booked_of l' xid).doubt ≡ Some amount → (n : Fields) × Silent l' n × (n.xid ≡ xid) × (n.amount ≡ amount)
  doubted_after xid amount e = by (here_or_there xid)
    where
      by : Where l l' m xid → (n : Fields) × Silent l' n × (n.xid ≡ xid) × (n.amount ≡ amount)
      by (inl same) =
          let was = asked amount (ap (λ x. (booked_of l' x).doubt) same ∙ e) in
          (m, silent_here l l' m a c.recalls was.0, same, was.1)
      by (inr there) =
          let d = kept.doubted xid amount (ap (λ p. p.doubt) (sym there.1) ∙ e) in
          (d.0, silent_still l l' m a c.recalls d.0 (apart d.0 d.2) d.1, d.2, d.3)
        where
          apart : (n : Fields) → n.xid ≡ xid → same_fields m n ≡ false
          apart n is =
              unless (same_fields m n) (λ same. both_ways (same_bytes m.xid xid) there.0 (same_from m.xid xid (ap (λ o. o.xid) (fields_equal m n same) ∙ is)))

  one_after : (n o : Fields) → SilentAfter l m a n → SilentAfter l m a o → n.xid ≡ o.xid → n ≡ o
  one_after n o (inl here) (inl too) e = sym here.0 ∙ too.0
  one_after n o (inl here) (inr there) e = absurd (other_xid o there.0 there.1 (ap (λ x. x.xid) here.0 ∙ e))
  one_after n o (inr there) (inl here) e = absurd (other_xid n there.0 there.1 (ap (λ x. x.xid) here.0 ∙ sym e))
  one_after n o (inr there) (inr too) e = kept.one_doubt n o there.1 too.1 e

  -- all is kept
  pub kept_changed : Kept l'
  kept_changed = record {
    credited_within = of_all (λ p. p.credited ≤ p.captured) c.credits kept.credited_within;
    captured_within = of_all (λ p. p.captured ≤ p.authorised) c.captures kept.captured_within;
    nothing_captured = λ xid amount. of_all (λ p. p.doubt ≡ Some amount → p.captured ≡ 0) (λ e. c.uncaptured (asked amount e).0) (λ x. kept.nothing_captured x amount) xid;
    silent_kind = λ n s. kind_after n (after n s);
    silent_doubt = λ n s. doubt_after n (after n s);
    silent_card = λ n s. card_after n (after n s);
    doubted = doubted_after;
    silent_below = λ n s. below_after n (after n s);
    one_doubt = λ n o s t. one_after n o (after n s) (after o t);
  }
