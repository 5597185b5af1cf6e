-- What a message and its answer leave in the memory.
use Rattle.std.proofs.Common.{◌≡◌, ◌<◌, ◌≤◌, Bool, true, false, cond, not, ◌||◌, eqb, length, is_some, Some, None, Option, sym, refl, ap, ◌∙◌, subst, arith}
use Rattle.std.specs.Option.{option_map}
use Rattle.std.proofs.lemmas.Bool.{both_ways, cond-true, cond-false, eqb-true, not-true}
use Rattle.fields.specs.Kind.{is_kind}
use Rattle.host.specs.Parts.{Holdings}
use Rattle.wire.specs.declared.message.Fields.{Fields}
use Rattle.rules.specs.Checks.{used_otherwise}
use Rattle.rules.specs.Ledger.{Ledger, most_answers, of_request, remembered_of}
use Rattle.rules.specs.Outcome.{outcome_code}
use Rattle.rules.specs.Rules.{Reply, answer_of, answered, books_after, call_of, is_forgotten, is_silent, moved, noted, on_put, put_answered, refused_with, remembered, repeat_in, replaced}
use Rattle.rules.specs.Same.{same_fields}
use Rattle.rules.specs.declared.outcome.Outcome.{Outcome}
use Rattle.rules.specs.declared.outcome.Outcome.TheVariants.{Success}
use Rattle.rules.specs.declared.outcome.Performed.{Performed}
use Rattle.rules.specs.declared.remembered.Remembered.{Remembered}
use Rattle.rules.proofs.Outcomes.{check_apart, is_check}
use Rattle.rules.proofs.Answering.{forgets, forgets_inquiry, keeps_answer, moved_answers, remembered_answers, replied_kept}
use Rattle.rules.proofs.Passed.{nothing_there}
use Rattle.rules.proofs.Ways.{Refused, full_memory, other_check, recalled, used_number}
use Rattle.law.specs.Repeats.{full}
use Rattle.rules.proofs.Sames.{fields_refl}
use Rattle.law.specs.Reached.{Replies}
use Rattle.law.proofs.Cases.{by_ways}
use Rattle.law.proofs.Invariants.{Known, is_done, known, known_full, known_used}
use Rattle.law.proofs.Recall.{recalled_noted, recalled_replaced, row_of}
use Rattle.law.proofs.Rows.{length_update, part_stays, row_push, some_mapped}

-- of the message itself: where its answer comes from, and whether it was done
pub record Here (l l' : Ledger) (m : Fields) (x : Performed) : Type 0 where
  pub is_known : Known l' m (full x)
  pub only : (a : Performed) → recalled l' m ≡ Some a → a ≡ x
  pub done_kept : (eqb (outcome_code x.outcome) 0 || is_done (recalled l m)) ≡ is_done (recalled l' m)

-- of every message: what is recalled of others stays, and so do used request numbers and a full
-- memory
pub record After (l l' : Ledger) (m : Fields) (x : Performed) : Type 0 where
  pub elsewhere : (n : Fields) → same_fields m n ≡ false → recalled l' n ≡ recalled l n
  pub still_used : (n : Fields) → used_otherwise (remembered_of l n) n ≡ true → used_otherwise (remembered_of l' n) n ≡ true
  pub still_full : (n : Fields) → remembered_of l n ≡ None → most_answers ≤ length l.answers → (remembered_of l' n ≡ None) × (most_answers ≤ length l'.answers)
  pub here : eqb m.kind 9 ≡ false → Here l l' m x

-- a message whose request number is used otherwise is not recalled
used_not_recalled : (o : Option Remembered) (m : Fields) → used_otherwise o m ≡ true → repeat_in o m ≡ None
used_not_recalled None m is = refl
used_not_recalled (Some r) m is = cond-false _ _ _ (not-true (same_fields r.fields m) is)

-- whether a request number is used goes by the fields alone
abbrev used_by : Option Fields → Fields → Bool
used_by None n = false
used_by (Some m) n = not (same_fields m n)

used_by_fields : (o : Option Remembered) (n : Fields) → used_otherwise o n ≡ used_by (option_map (λ r. r.fields) o) n
used_by_fields None n = refl
used_by_fields (Some r) n = refl

module _ (l l' : Ledger) (m : Fields) (x : Performed) where
  -- the same rows
  after_same : l'.answers ≡ l.answers → (eqb m.kind 9 ≡ false → Here l l' m x) → After l l' m x
  after_same same here = record {
    elsewhere = λ n apart. ap (λ rows. repeat_in (row_of n rows) n) same;
    still_used = λ n is. ap (λ rows. used_otherwise (row_of n rows) n) same ∙ is;
    still_full = λ n none most. (ap (row_of n) same ∙ none, subst (λ rows. most_answers ≤ length rows) (sym same) most);
    here = here;
  }

  -- the answer is remembered, new or in the place of another
  module _ (recalls : (n : Fields) → recalled l' n ≡ cond (same_fields m n) (Some x) (recalled l n)) where
    recalls_other : (n : Fields) → same_fields m n ≡ false → recalled l' n ≡ recalled l n
    recalls_other n apart = recalls n ∙ cond-false _ _ _ apart

    recalls_here : is_done (recalled l m) ≡ false → Here l l' m x
    recalls_here undone =
        let new : recalled l' m ≡ Some x = recalls m ∙ cond-true _ _ _ (fields_refl m) in
        record {
          is_known = known x new refl;
          only = λ a is. cc;
          done_kept = ap (λ t. eqb (outcome_code x.outcome) 0 || t) undone ∙ or_false (eqb (outcome_code x.outcome) 0) ∙ ap is_done (sym new);
        }
      where
        or_false : (t : Bool) → (t || false) ≡ t
        or_false true = refl
        or_false false = refl

  -- one row more
  after_noted : l'.answers ≡ (noted m x l).answers → remembered_of l m ≡ None → length l.answers < most_answers → After l l' m x
  after_noted more new room = record {
    elsewhere = recalls_other recalls;
    still_used = λ n is. ap (λ o. used_otherwise o n) (stays n (there (remembered_of l n) n is)) ∙ is;
    still_full = λ n none most. absurd (omega arith);
    here = λ no_inquiry. recalls_here recalls (ap (λ o. is_done (repeat_in o m)) new);
  }
    where
      recalls : (n : Fields) → recalled l' n ≡ cond (same_fields m n) (Some x) (recalled l n)
      recalls n = recalled_noted l l' m n x more new

      stays : (n : Fields) → is_some (remembered_of l n) ≡ true → remembered_of l' n ≡ remembered_of l n
      stays n some = ap (row_of n) more ∙ row_push (of_request n.course n.request) l.answers _ ∙ cond-true _ _ _ some

      there : (o : Option Remembered) (n : Fields) → used_otherwise o n ≡ true → is_some o ≡ true
      there None n is = is
      there (Some r) n is = refl

  -- a new answer in the place of silence
  after_replaced : l'.answers ≡ (replaced m x l).answers → (b : Performed) → recalled l m ≡ Some b → is_silent b ≡ true → After l l' m x
  after_replaced other b was silent = record {
    elsewhere = recalls_other recalls;
    still_used = λ n is. used_by_fields (remembered_of l' n) n ∙ ap (λ o. used_by o n) (stays n) ∙ sym (used_by_fields (remembered_of l n) n) ∙ is;
    still_full = λ n none most. (none_still n none, subst (λ k. most_answers ≤ k) (sym long) most);
    here = λ no_inquiry. recalls_here recalls (ap is_done was ∙ ap (λ k. eqb k 0) (eqb-true (outcome_code b.outcome) 25 silent));
  }
    where
      recalls : (n : Fields) → recalled l' n ≡ cond (same_fields m n) (Some x) (recalled l n)
      recalls n = recalled_replaced l l' m n x b other was

      answer : Remembered → Remembered
      answer r = record { fields = r.fields; answer = x }

      stays : (n : Fields) → option_map (λ r. r.fields) (remembered_of l' n) ≡ option_map (λ r. r.fields) (remembered_of l n)
      stays n =
          ap (λ rows. option_map (λ r. r.fields) (row_of n rows)) other
          ∙ part_stays (of_request n.course n.request) (of_request m.course m.request) answer (λ r. refl) (λ r. r.fields) (λ r. refl) l.answers

      none_still : (n : Fields) → remembered_of l n ≡ None → remembered_of l' n ≡ None
      none_still n none =
          nothing_there (remembered_of l' n) (sym (some_mapped (λ r. r.fields) (remembered_of l' n)) ∙ ap is_some (stays n ∙ ap (option_map (λ r. r.fields)) none))

      long : length l'.answers ≡ length l.answers
      long = ap length other ∙ length_update (of_request m.course m.request) answer l.answers

module _ (l : Ledger) (m : Fields) where
  -- an answer that is remembered unless it is an inquiry's
  after_remembered : (x : Performed) (moved_books : Ledger) → moved_books.answers ≡ l.answers → is_forgotten x.outcome ≡ false
      → (eqb m.kind 9 ≡ false → (remembered_of l m ≡ None) × (length l.answers < most_answers)) → After l (remembered m x moved_books) m x
  after_remembered x books same not_forgotten free = by_nine (eqb m.kind 9) refl
    where
      by_nine : (nine : Bool) → eqb m.kind 9 ≡ nine → After l (remembered m x books) m x
      by_nine true e =
          after_same l _ m x (ap (λ t. (cond t (noted m x books) books).answers) (forgets_inquiry m x.outcome e) ∙ same) (λ other. absurd (both_ways _ other e))
      by_nine false e = after_noted l _ m x (remembered_answers m x l books (keeps_answer m x.outcome e not_forgotten) same) (free e).0 (free e).1

  -- a refusal that is not remembered
  after_forgotten : (o : Outcome) → is_forgotten o ≡ true → is_check o ≡ true → recalled l m ≡ None → Known l m (full (refused_with m o))
      → After l (remembered m (refused_with m o) l) m (refused_with m o)
  after_forgotten o quiet check none is =
      subst (λ l'. After l l' m (refused_with m o)) (sym (cond-false _ (noted m (refused_with m o) l) l (forgets m o quiet)))
      (after_same l l m (refused_with m o) refl (λ other. record {
        is_known = is;
        only = λ a some. cc;
        done_kept = ap (λ t. t || is_done (recalled l m)) (check_apart o Success check refl);
      }))

  -- a repeat
  after_again : (a : Performed) → recalled l m ≡ Some a → After l l m a
  after_again a is = after_same l l m a refl (λ other. record {
    is_known = known a is refl;
    only = λ b also. cc;
    done_kept = ap (λ o. eqb (outcome_code a.outcome) 0 || is_done o) is ∙ twice (eqb (outcome_code a.outcome) 0) ∙ ap is_done (sym is);
  })
    where
      twice : (t : Bool) → (t || t) ≡ t
      twice true = refl
      twice false = refl

-- every message leaves the memory so
pub after_step : (l : Ledger) (m : Fields) (reply : Reply) (held held' : Holdings) → is_kind m.kind ≡ true → Replies (call_of l m) reply held held'
    → After l (books_after l m reply) m (answer_of l m reply)
after_step l m reply held held' kind called =
    by_ways l m held held' (λ a books. After l books m a) (record {
      repeated = λ a known same. after_again l m a known;
      put_again = λ was r called. after_replaced l _ m (put_answered m (on_put r)) refl was.answer was.is was.silent;
      refused = λ o check why same. refused o check why;
      passed = λ passed reply called. after_remembered l m (answered l m reply) (moved l m reply) (moved_answers l m reply kind) (replied_kept reply) passed.free;
    }) kind reply called
  where
    refused : (o : Outcome) → is_check o ≡ true → Refused l m o → After l (remembered m (refused_with m o) l) m (refused_with m o)
    refused o check (used_number is otherwise) =
        after_forgotten l m o (ap is_forgotten is) check (used_not_recalled (remembered_of l m) m otherwise) (known_used otherwise (ap (λ x. full (refused_with m x)) is))
    refused o check (full_memory is new most) =
        after_forgotten l m o (ap is_forgotten is) check (ap (λ r. repeat_in r m) new) (known_full new most (ap (λ x. full (refused_with m x)) is))
    refused o check (other_check not_forgotten none free) = after_remembered l m (refused_with m o) l refl not_forgotten free
