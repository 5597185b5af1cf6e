-- The ways that a message can go, each with what the books know of it, and the kinds that it can have.
use Rattle.std.proofs.Common.{◌≡◌, ℕ, zero, suc, ◌<◌, ◌≤◌, Bool, true, false, cond, not, ◌&&◌, ◌||◌, eqb, leb, List, [], ◌∷◌, length, Some, None, Option, sym, refl, ap, ◌∙◌, subst, arith}
use Rattle.std.proofs.lemmas.Bool.{and_parts, and_from, cond-true, cond-false, true≢false, both_ways, leb-true, leb-false, le-leb, ne_eqb, not-true}
use Rattle.std.specs.List.{list_all}
use Rattle.fields.specs.Kind.{is_kind, kind_from}
use Rattle.wire.specs.declared.message.Fields.{Fields}
use Rattle.rules.specs.Checks.{Check, among, book_checks, refusal, refuses, used_otherwise}
use Rattle.rules.specs.Ledger.{Ledger, facts_of, most_answers, remembered_of}
use Rattle.rules.specs.Outcome.{outcome_code}
use Rattle.rules.specs.Rules.{Call, Reply, answer_by, answer_of, books_after, books_by, call_by, call_of, choose, is_forgotten, is_silent, kind_call, put_of, remembers, repeat_in, way}
use Rattle.rules.specs.Same.{same_fields}
use Rattle.rules.specs.declared.outcome.Outcome.{Outcome}
use Rattle.rules.specs.declared.outcome.Outcome.TheVariants.{HostSilent, MemoryFull, RequestNumberUsed}
use Rattle.rules.specs.declared.outcome.Performed.{Performed}
use Rattle.rules.specs.declared.remembered.Remembered.{Remembered}
use Rattle.rules.specs.Way.{Way, Again, Retry, Stopped, Through}
use Rattle.rules.proofs.Outcomes.{check_apart, is_check}

-- the answer that is remembered for just this message
abbrev pub recalled : Ledger → Fields → Option Performed
recalled l m = repeat_in (remembered_of l m) m

-- the first check from 9 on that refuses it
abbrev pub book_refusal : Ledger → Fields → Option Outcome
book_refusal l m = refusal m.kind (book_checks (facts_of l m) m)

-- why a check refuses it
pub data Refused (l : Ledger) (m : Fields) (o : Outcome) : Type 0 where
  -- its request number is used
  used_number : o ≡ RequestNumberUsed → used_otherwise (remembered_of l m) m ≡ true → Refused l m o
  -- the memory is full
  full_memory : o ≡ MemoryFull → remembered_of l m ≡ None → most_answers ≤ length l.answers → Refused l m o
  -- by another check, whose refusal is remembered
  other_check : is_forgotten o ≡ false → recalled l m ≡ None → (eqb m.kind 9 ≡ false → (remembered_of l m ≡ None) × (length l.answers < most_answers)) → Refused l m o

-- the way that a message went
pub data Went (l : Ledger) (m : Fields) : Type 0 where
  -- a repeat, answered from memory
  again : (a : Performed) → way l m ≡ Again a → recalled l m ≡ Some a → is_silent a ≡ false → Went l m
  -- a repeat of what was answered 25
  retried : (a : Performed) → way l m ≡ Retry → recalled l m ≡ Some a → is_silent a ≡ true → Went l m
  -- a check refuses it
  stopped : (o : Outcome) → way l m ≡ Stopped o → is_check o ≡ true → Refused l m o → Went l m
  -- past all checks
  through : way l m ≡ Through → recalled l m ≡ None → book_refusal l m ≡ None
      → (eqb m.kind 9 ≡ false → (remembered_of l m ≡ None) × (length l.answers < most_answers)) → Went l m

-- what holds of each kind
pub record EachKind (P : ℕ → Type 0) : Type 0 where
  pub authorisation : P 1
  pub authorisation_reversal : P 2
  pub capture : P 3
  pub capture_reversal : P 4
  pub credit : P 5
  pub credit_reversal : P 6
  pub batch_open : P 7
  pub batch_close : P 8
  pub inquiry : P 9

-- holds of the kind of any message
pub by_kind : (P : ℕ → Type 0) → EachKind P → (k : ℕ) → is_kind k ≡ true → P k
by_kind P each zero is = absurd (true≢false (sym is))
by_kind P each (suc zero) is = each.authorisation
by_kind P each (suc (suc zero)) is = each.authorisation_reversal
by_kind P each (suc (suc (suc zero))) is = each.capture
by_kind P each (suc (suc (suc (suc zero)))) is = each.capture_reversal
by_kind P each (suc (suc (suc (suc (suc zero))))) is = each.credit
by_kind P each (suc (suc (suc (suc (suc (suc zero)))))) is = each.credit_reversal
by_kind P each (suc (suc (suc (suc (suc (suc (suc zero))))))) is = each.batch_open
by_kind P each (suc (suc (suc (suc (suc (suc (suc (suc zero)))))))) is = each.batch_close
by_kind P each (suc (suc (suc (suc (suc (suc (suc (suc (suc zero))))))))) is = each.inquiry
by_kind P each (suc (suc (suc (suc (suc (suc (suc (suc (suc (suc n)))))))))) is =
    let k = (suc (suc (suc (suc (suc (suc (suc (suc (suc (suc n)))))))))) in
    absurd (omega (arith, leb-true k 9 (and_parts (leb 1 k) (leb k 9) is).1))

-- every kind but the inquiry is among 1 to 8
abbrev kinds_but_inquiry : List ℕ
kinds_but_inquiry = 1 ∷ 2 ∷ 3 ∷ 4 ∷ 5 ∷ 6 ∷ 7 ∷ 8 ∷ []

kinds_but_inquiry_are : (k : ℕ) → is_kind k ≡ true → among k kinds_but_inquiry ≡ not (eqb k 9)
kinds_but_inquiry_are = by_kind (λ k. among k kinds_but_inquiry ≡ not (eqb k 9)) (record {
  authorisation = refl;
  authorisation_reversal = refl;
  capture = refl;
  capture_reversal = refl;
  credit = refl;
  credit_reversal = refl;
  batch_open = refl;
  batch_close = refl;
  inquiry = refl;
})

-- an authorisation or its reversal is no inquiry
pub puts_no_inquiry : (k : ℕ) → (eqb k 1 || eqb k 2) ≡ true → eqb k 9 ≡ false
puts_no_inquiry k puts = ne_eqb k 9 (λ nine. true≢false (sym puts ∙ ap (λ n. eqb n 1 || eqb n 2) nine))

-- the call of a message of this kind that is past all checks
abbrev pub call_at : Ledger → Fields → ℕ → Call
call_at l m k = kind_call (kind_from k) l m

-- what holds of the call, the answer and the books of the way that a message goes holds of its own
pub by_way : (l : Ledger) (m : Fields) (reply : Reply) (P : Call → Performed → Ledger → Type 0) (x : Way) → way l m ≡ x
    → P (call_by x (put_of l m) (call_at l m m.kind)) (answer_by x l m reply) (books_by x l m reply) → P (call_of l m) (answer_of l m reply) (books_after l m reply)
by_way l m reply P x is = subst (λ y. P (call_by y (put_of l m) (call_at l m m.kind)) (answer_by y l m reply) (books_by y l m reply)) (sym is)

-- what holds of the outcome of every row holds of the one that is refused with
refused_all : (holds : Outcome → Bool) (k : ℕ) (rows : List Check) → list_all (λ row. holds row.outcome) rows ≡ true → (o : Outcome) → refusal k rows ≡ Some o → holds o ≡ true
refused_all holds k [] all o is = cc
refused_all holds k (row ∷ rows) all o is =
    let both = and_parts (holds row.outcome) (list_all (λ x. holds x.outcome) rows) all in
    elim (refuses k row) as (λ t. cond t (Some row.outcome) (refusal k rows) ≡ Some o → holds o ≡ true) [
      | true ↦ λ here. let same : row.outcome ≡ o = cc in ap holds (sym same) ∙ both.0
      | false ↦ refused_all holds k rows both.1 o
    ] is

-- the checks after the first, which is that of a full memory
abbrev after_first : List Check → List Check
after_first [] = []
after_first (row ∷ rows) = rows

module _ (l : Ledger) (m : Fields) (kind : is_kind m.kind ≡ true) where
  -- a full memory refuses all but inquiries
  pub full_refuses : eqb m.kind 9 ≡ false → most_answers ≤ length l.answers → book_refusal l m ≡ Some MemoryFull
  full_refuses other most =
      ap (λ t. cond t (Some MemoryFull) (refusal m.kind (after_first (book_checks (facts_of l m) m))))
      (and_from (among m.kind kinds_but_inquiry) (leb most_answers (length l.answers)) (kinds_but_inquiry_are m.kind kind ∙ ap not other) (le-leb most_answers (length l.answers) most))

  -- a message that is no repeat, and whose request number is not used
  went_checked : way l m ≡ choose None None (book_refusal l m) → recalled l m ≡ None → (eqb m.kind 9 ≡ false → remembered_of l m ≡ None) → Went l m
  went_checked is none free = at_first (not (eqb m.kind 9) && leb most_answers (length l.answers)) refl
    where
      later : List Check
      later = after_first (book_checks (facts_of l m) m)

      book : (not (eqb m.kind 9) && leb most_answers (length l.answers)) ≡ false → book_refusal l m ≡ refusal m.kind later
      book e = cond-false _ (Some MemoryFull) (refusal m.kind later) (ap (λ u. u && leb most_answers (length l.answers)) (kinds_but_inquiry_are m.kind kind) ∙ e)

      roomy : (not (eqb m.kind 9) && leb most_answers (length l.answers)) ≡ false → eqb m.kind 9 ≡ false → (remembered_of l m ≡ None) × (length l.answers < most_answers)
      roomy e other = (free other, leb-false most_answers (length l.answers) (ap (λ u. not u && leb most_answers (length l.answers)) (sym other) ∙ e))

      at_later : (not (eqb m.kind 9) && leb most_answers (length l.answers)) ≡ false → (o : Option Outcome) → refusal m.kind later ≡ o → Went l m
      at_later e None r = let b = book e ∙ r in through (is ∙ ap (choose None None) b) none b (roomy e)
      at_later e (Some o) r =
          let b = book e ∙ r in
          let both = and_parts (is_check o) (not (is_forgotten o)) (refused_all (λ x. is_check x && not (is_forgotten x)) m.kind later refl o r) in
          stopped o (is ∙ ap (choose None None) b) both.0 (other_check (not-true _ both.1) none (roomy e))

      at_first : (t : Bool) → (not (eqb m.kind 9) && leb most_answers (length l.answers)) ≡ t → Went l m
      at_first true e =
          let both = and_parts (not (eqb m.kind 9)) (leb most_answers (length l.answers)) e in
          let other = not-true (eqb m.kind 9) both.0 in
          let most = leb-true most_answers (length l.answers) both.1 in
          stopped MemoryFull (is ∙ ap (choose None None) (full_refuses other most)) refl (full_memory refl (free other) most)
      at_first false e = at_later e (refusal m.kind later) refl

  -- the way, by what is remembered under its request number
  pub way_by : (nine : Bool) → eqb m.kind 9 ≡ nine → (r : Option Remembered) → remembered_of l m ≡ r
      → way l m ≡ choose (cond (not nine && used_otherwise r m) (Some RequestNumberUsed) None) (repeat_in r m) (book_refusal l m)
  way_by nine e r is =
      ap (λ t. choose (cond (t && used_otherwise (remembered_of l m) m) (Some RequestNumberUsed) None) (recalled l m) (book_refusal l m)) (kinds_but_inquiry_are m.kind kind ∙ ap not e)
      ∙ ap (λ x. choose (cond (not nine && used_otherwise x m) (Some RequestNumberUsed) None) (repeat_in x m) (book_refusal l m)) is

  -- a repeat
  went_repeated : (a : Performed) → way l m ≡ cond (is_silent a) Retry (Again a) → recalled l m ≡ Some a → Went l m
  went_repeated a is same = by_silence (is_silent a) refl
    where
      by_silence : (s : Bool) → is_silent a ≡ s → Went l m
      by_silence true e = retried a (is ∙ cond-true _ _ _ e) same e
      by_silence false e = again a (is ∙ cond-false _ _ _ e) same e

  -- something is remembered there, for this message or for another
  went_noted : (r : Remembered) → remembered_of l m ≡ Some r → Went l m
  went_noted r is = by_same (eqb m.kind 9) refl (same_fields r.fields m) refl
    where
      by : Bool → Bool → Way
      by nine t = choose (cond (not nine && not t) (Some RequestNumberUsed) None) (cond t (Some r.answer) None) (book_refusal l m)

      goes : (nine : Bool) → eqb m.kind 9 ≡ nine → (t : Bool) → same_fields r.fields m ≡ t → way l m ≡ by nine t
      goes nine e t same = way_by nine e (Some r) is ∙ ap (by nine) same

      recall : (t : Bool) → same_fields r.fields m ≡ t → recalled l m ≡ cond t (Some r.answer) None
      recall t same = ap (λ x. repeat_in x m) is ∙ ap (λ u. cond u (Some r.answer) None) same

      by_same : (nine : Bool) → eqb m.kind 9 ≡ nine → (t : Bool) → same_fields r.fields m ≡ t → Went l m
      by_same true e true same = went_repeated r.answer (goes true e true same) (recall true same)
      by_same false e true same = went_repeated r.answer (goes false e true same) (recall true same)
      by_same true e false same = went_checked (goes true e false same) (recall false same) (λ other. absurd (both_ways (eqb m.kind 9) other e))
      by_same false e false same = stopped RequestNumberUsed (goes false e false same) refl (used_number refl (ap (λ x. used_otherwise x m) is ∙ ap not same))

  -- nothing is remembered there
  went_new : remembered_of l m ≡ None → Went l m
  went_new is = by_nine (eqb m.kind 9) refl
    where
      by_nine : (nine : Bool) → eqb m.kind 9 ≡ nine → Went l m
      by_nine true e = went_checked (way_by true e None is) (ap (λ x. repeat_in x m) is) (λ other. is)
      by_nine false e = went_checked (way_by false e None is) (ap (λ x. repeat_in x m) is) (λ other. is)

-- every message goes one of the ways
pub went : (l : Ledger) (m : Fields) → is_kind m.kind ≡ true → Went l m
went l m kind = by_memory (remembered_of l m) refl
  where
    by_memory : (r : Option Remembered) → remembered_of l m ≡ r → Went l m
    by_memory None is = went_new l m kind is
    by_memory (Some r) is = went_noted l m kind r is

-- what is past all checks is refused by none
pub through_passes : (l : Ledger) (m : Fields) → is_kind m.kind ≡ true → way l m ≡ Through → book_refusal l m ≡ None
through_passes l m kind is = by (went l m kind)
  where
    by : Went l m → book_refusal l m ≡ None
    by (again a w known not_silent) = cc
    by (retried a w known silent) = cc
    by (stopped o w check why) = cc
    by (through w none passed free) = passed

-- a refusal that is remembered finds memory
pub stopped_room : (l : Ledger) (m : Fields) → is_kind m.kind ≡ true → (o : Outcome) → way l m ≡ Stopped o → remembers m o ≡ true → length l.answers < most_answers
stopped_room l m kind o is kept = by (went l m kind)
  where
    parts : (not (eqb m.kind 9) ≡ true) × (not (is_forgotten o) ≡ true)
    parts = and_parts (not (eqb m.kind 9)) (not (is_forgotten o)) kept

    refused : Refused l m o → length l.answers < most_answers
    refused (used_number is taken) = absurd (both_ways _ (ap (λ x. not (is_forgotten x)) is) parts.1)
    refused (full_memory is new most) = absurd (both_ways _ (ap (λ x. not (is_forgotten x)) is) parts.1)
    refused (other_check not_forgotten none free) = (free (not-true _ parts.0)).1

    by : Went l m → length l.answers < most_answers
    by (again a w known not_silent) = absurd (true≢false cc)
    by (retried a w known silent) = absurd (true≢false cc)
    by (stopped x w check why) = let same : x ≡ o = cc in refused (subst (Refused l m) same why)
    by (through w none passed free) = absurd (true≢false cc)

-- a refusal is not the host's silence
pub stopped_heard : (l : Ledger) (m : Fields) → is_kind m.kind ≡ true → (o : Outcome) → way l m ≡ Stopped o → eqb (outcome_code o) 25 ≡ false
stopped_heard l m kind o is = by (went l m kind)
  where
    by : Went l m → eqb (outcome_code o) 25 ≡ false
    by (again a w known not_silent) = absurd (true≢false cc)
    by (retried a w known silent) = absurd (true≢false cc)
    by (stopped x w check why) = let same : x ≡ o = cc in check_apart o HostSilent (ap is_check (sym same) ∙ check) refl
    by (through w none passed free) = absurd (true≢false cc)
