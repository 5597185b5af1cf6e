-- What is remembered is what was answered last, from message to message.
use Rattle.std.proofs.Common.{◌≡◌, ℕ, Bool, true, false, cond, not, ◌&&◌, ◌||◌, eqb, List, [], ◌∷◌, Some, None, Ok, Err, Option, Result, sym, refl, ap, ◌∙◌, subst}
use Rattle.std.proofs.lemmas.Bool.{both_ways, cond-false, ne_eqb, true≢false}
use Rattle.fields.specs.Kind.{is_kind}
use Rattle.host.specs.Parts.{Holdings}
use Rattle.wire.specs.RoundTrip.{Bytes}
use Rattle.wire.specs.declared.message.Fields.{Fields}
use Rattle.rules.specs.Checks.{used_otherwise}
use Rattle.rules.specs.Ledger.{Ledger, no_ledger, remembered_of}
use Rattle.rules.specs.Outcome.{outcome_code}
use Rattle.rules.specs.Rules.{Call, Reply, answer_by, answer_of, books_after, books_by, call_by, call_of, choose, is_forgotten, noted, refused_with, repeat_in, way}
use Rattle.wire.specs.Bytes.{same_bytes}
use Rattle.rules.specs.Same.{same_fields}
use Rattle.rules.specs.declared.outcome.Outcome.{Outcome}
use Rattle.rules.specs.declared.outcome.Outcome.TheVariants.{MemoryFull, RequestNumberUsed}
use Rattle.rules.specs.declared.outcome.Performed.{Performed}
use Rattle.rules.specs.declared.remembered.Remembered.{Remembered}
use Rattle.rules.specs.Way.{Way, Again, Stopped}
use Rattle.rules.proofs.Answering.{forgets}
use Rattle.rules.proofs.Ways.{book_refusal, full_refuses, recalled, way_by}
use Rattle.law.specs.Repeats.{Repeats, RepeatsOf, full}
use Rattle.law.specs.History.{Entry, Given, NoInquiry, entry, last_given, opened, short, succeeded_before}
use Rattle.rules.proofs.Sames.{fields_equal, fields_refl, same_from, sames_equal}
use Rattle.law.specs.Reached.{Replies}
use Rattle.law.proofs.Base.{kind_of, one_spelling, unless}
use Rattle.law.proofs.Invariants.{Known, Recalls, is_done, known, known_full, known_used}
use Rattle.law.proofs.Noting.{After, Here, after_step}

-- empty books recall nothing
pub recalls_start : Recalls [] no_ledger
recalls_start = record {
  last = λ bytes m a are is other some. cc;
  answers = λ bytes m given are is other some. absurd (true≢false cc);
  done = λ bytes m are is other. refl;
  spelled = λ m a some. absurd (true≢false cc);
  only_bytes = λ bytes given some. absurd (true≢false cc);
  shorts = λ bytes given number is some. cc;
}

-- the history goes on holding bytes only
only_bytes_more : (h : List Entry) (bytes : List ℕ) (answer : Given) → Bytes bytes → ((b : List ℕ) (given : Given) → last_given h b ≡ Some given → Bytes b)
    → (b : List ℕ) (given : Given) → last_given (entry bytes answer ∷ h) b ≡ Some given → Bytes b
only_bytes_more h bytes answer are before b given some = by_same (same_bytes bytes b) refl some
  where
    by_same : (t : Bool) → same_bytes bytes b ≡ t → cond t (Some answer) (last_given h b) ≡ Some given → Bytes b
    by_same true e here = subst Bytes (sames_equal bytes b e) are
    by_same false e rest = before b given rest

-- bytes that are not opened are not remembered
pub recalls_refused : (h : List Entry) (l : Ledger) (bytes : List ℕ) (number : ℕ) → Bytes bytes → opened bytes ≡ Err number → Recalls h l → Recalls (entry bytes (short number) ∷ h) l
recalls_refused h l bytes number are is r = record {
  last = λ b m a bs ok other some. earlier b m ok ∙ r.last b m a bs ok other some;
  answers = λ b m given bs ok other some. r.answers b m given bs ok other (sym (earlier b m ok) ∙ some);
  done = λ b m bs ok other. ap (λ t. (t && eqb number 0) || succeeded_before h b) (differs b m ok) ∙ r.done b m bs ok other;
  spelled = r.spelled;
  only_bytes = only_bytes_more h bytes (short number) are r.only_bytes;
  shorts = λ b given k err some. short_by b given k err (same_bytes bytes b) refl some;
}
  where
    -- no message was spelled so
    differs : (b : List ℕ) (m : Fields) → opened b ≡ Ok m → same_bytes bytes b ≡ false
    differs b m ok = unless (same_bytes bytes b) (λ same. let one = sames_equal bytes b same in true≢false cc)

    earlier : (b : List ℕ) (m : Fields) → opened b ≡ Ok m → cond (same_bytes bytes b) (Some (short number)) (last_given h b) ≡ last_given h b
    earlier b m ok = cond-false _ _ _ (differs b m ok)

    short_by : (b : List ℕ) (given : Given) (k : ℕ) → opened b ≡ Err k → (t : Bool) → same_bytes bytes b ≡ t → cond t (Some (short number)) (last_given h b) ≡ Some given → given ≡ short k
    short_by b given k err true e some = let one = sames_equal bytes b e in let same : number ≡ k = cc in cc
    short_by b given k err false e some = r.shorts b given k err some

-- an opened message, its answer, and what they leave in the memory
module _ (h : List Entry) (l l' : Ledger) (bytes : List ℕ) (m : Fields) (x : Performed) (are : Bytes bytes) (is : opened bytes ≡ Ok m) (r : Recalls h l) (after : After l l' m x) where
  -- some message, and bytes that spell it
  module _ (b : List ℕ) (n : Fields) (bs : Bytes b) (ok : opened b ≡ Ok n) where
    -- the two messages are the same if and only if their bytes are
    same_spelling : same_bytes bytes b ≡ same_fields m n
    same_spelling = by_both (same_bytes bytes b) refl (same_fields m n) refl
      where
        by_both : (t : Bool) → same_bytes bytes b ≡ t → (u : Bool) → same_fields m n ≡ u → t ≡ u
        by_both true e true f = refl
        by_both false e false f = refl
        by_both true e false f =
            let one = sames_equal bytes b e in
            let same : m ≡ n = cc in
            absurd (both_ways (same_fields m n) f (ap (same_fields m) (sym same) ∙ fields_refl m))
        by_both false e true f =
            let same = fields_equal m n f in
            let one = one_spelling bytes b m are bs is (ok ∙ ap (λ k. Ok k) (sym same)) in
            absurd (both_ways (same_bytes bytes b) e (same_from bytes b one))

    answered_last : (t : Bool) → same_fields m n ≡ t → last_given (entry bytes (full x) ∷ h) b ≡ cond t (Some (full x)) (last_given h b)
    answered_last t e = ap (λ u. cond u (Some (full x)) (last_given h b)) (same_spelling ∙ e)

    module _ (other : eqb n.kind 9 ≡ false) where
      -- it is the message itself
      itself : same_fields m n ≡ true → Here l l' n x
      itself e = subst (λ k. eqb k.kind 9 ≡ false → Here l l' k x) (fields_equal m n e) after.here other

      last_after : (a : Performed) → recalled l' n ≡ Some a → (t : Bool) → same_fields m n ≡ t → last_given (entry bytes (full x) ∷ h) b ≡ Some (full a)
      last_after a some true e = answered_last true e ∙ ap (λ y. Some (full y)) (sym ((itself e).only a some))
      last_after a some false e = answered_last false e ∙ r.last b n a bs ok other (sym (after.elsewhere n e) ∙ some)

      answer_after : (given : Given) → last_given (entry bytes (full x) ∷ h) b ≡ Some given → (t : Bool) → same_fields m n ≡ t → Known l' n given
      answer_after given some true e =
          let here = answered_last true e in
          let gives : full x ≡ given = cc in
          subst (Known l' n) gives (itself e).is_known
      answer_after given some false e = still (r.answers b n given bs ok other (sym (answered_last false e) ∙ some))
        where
          still : Known l n given → Known l' n given
          still (known a was gives) = known a (after.elsewhere n e ∙ was) gives
          still (known_used otherwise gives) = known_used (after.still_used n otherwise) gives
          still (known_full new most gives) = let both = after.still_full n new most in known_full both.0 both.1 gives

      done_after : (t : Bool) → same_fields m n ≡ t → succeeded_before (entry bytes (full x) ∷ h) b ≡ is_done (recalled l' n)
      done_after true e =
          ap (λ t. (t && eqb (outcome_code x.outcome) 0) || succeeded_before h b) (same_spelling ∙ e)
          ∙ ap (λ t. eqb (outcome_code x.outcome) 0 || t) (r.done b n bs ok other)
          ∙ (itself e).done_kept
      done_after false e =
          ap (λ t. (t && eqb (outcome_code x.outcome) 0) || succeeded_before h b) (same_spelling ∙ e)
          ∙ r.done b n bs ok other
          ∙ ap is_done (sym (after.elsewhere n e))

  -- what is remembered is again what was answered last
  recalls_after : Recalls (entry bytes (full x) ∷ h) l'
  recalls_after = record {
    last = λ b n a bs ok other some. last_after b n bs ok other a some (same_fields m n) refl;
    answers = λ b n given bs ok other some. answer_after b n bs ok other given some (same_fields m n) refl;
    done = λ b n bs ok other. done_after b n bs ok other (same_fields m n) refl;
    spelled = λ n a some. spelled_by n a some (same_fields m n) refl;
    only_bytes = only_bytes_more h bytes (full x) are r.only_bytes;
    shorts = λ b given number err some. shorts_by b given number err (same_bytes bytes b) refl some;
  }
    where
      spelled_by : (n : Fields) (a : Performed) → recalled l' n ≡ Some a → (t : Bool) → same_fields m n ≡ t → (b : List ℕ) × Bytes b × (opened b ≡ Ok n)
      spelled_by n a some true e = (bytes, are, is ∙ ap (λ k. Ok k) (fields_equal m n e))
      spelled_by n a some false e = r.spelled n a (sym (after.elsewhere n e) ∙ some)

      shorts_by : (b : List ℕ) (given : Given) (number : ℕ) → opened b ≡ Err number → (t : Bool) → same_bytes bytes b ≡ t
          → cond t (Some (full x)) (last_given h b) ≡ Some given → given ≡ short number
      shorts_by b given number err true e some = let one = sames_equal bytes b e in cc
      shorts_by b given number err false e some = r.shorts b given number err some

-- every message is recalled as it was answered
pub recalls_step : (h : List Entry) (l : Ledger) (bytes : List ℕ) (m : Fields) (reply : Reply) (held held' : Holdings) → Bytes bytes → opened bytes ≡ Ok m
    → Recalls h l → Replies (call_of l m) reply held held' → Recalls (entry bytes (full (answer_of l m reply)) ∷ h) (books_after l m reply)
recalls_step h l bytes m reply held held' are is r called =
    recalls_after h l (books_after l m reply) bytes m (answer_of l m reply) are is r (after_step l m reply held held' (kind_of bytes m is) called)

-- what is recalled has its own request number
recalled_not_used : (o : Option Remembered) (m : Fields) (a : Performed) → repeat_in o m ≡ Some a → used_otherwise o m ≡ false
recalled_not_used None m a is = refl
recalled_not_used (Some r) m a is = by_same (same_fields r.fields m) is
  where
    by_same : (t : Bool) → cond t (Some r.answer) None ≡ Some a → not t ≡ false
    by_same true here = refl
    by_same false none = cc

-- an answer that the books know comes again
module _ (l : Ledger) (m : Fields) (kind : is_kind m.kind ≡ true) (given : Given) where
  calls : {w : Way} → way l m ≡ w → (on_put on_through : Call) → call_by (way l m) on_put on_through ≡ call_by w on_put on_through
  calls is on_put on_through = ap (λ v. call_by v on_put on_through) is

  -- from memory
  repeats_again : (a : Performed) → way l m ≡ Again a → given ≡ full a → Repeats m given l
  repeats_again a is gives = record {
    makes_no_call = calls is _ _;
    same_answer = λ reply. ap (λ w. full (answer_by w l m reply)) is ∙ sym gives;
    same_books = λ reply. ap (λ w. books_by w l m reply) is;
  }

  -- or by the same refusal, which is not remembered
  repeats_refused : (o : Outcome) → is_forgotten o ≡ true → way l m ≡ Stopped o → given ≡ full (refused_with m o) → Repeats m given l
  repeats_refused o quiet is gives = record {
    makes_no_call = calls is _ _;
    same_answer = λ reply. ap (λ w. full (answer_by w l m reply)) is ∙ sym gives;
    same_books = λ reply. ap (λ w. books_by w l m reply) is ∙ cond-false _ (noted m (refused_with m o) l) l (forgets m o quiet);
  }

  -- the way of a message that is no inquiry
  goes : eqb m.kind 9 ≡ false → (u : Bool) → used_otherwise (remembered_of l m) m ≡ u → (o : Option Performed) → recalled l m ≡ o
      → (b : Option Outcome) → book_refusal l m ≡ b → way l m ≡ choose (cond u (Some RequestNumberUsed) None) o b
  goes other u is-used o is-recalled b is-refused =
      way_by l m kind false other (remembered_of l m) refl
      ∙ ap (λ t. choose (cond t (Some RequestNumberUsed) None) (recalled l m) (book_refusal l m)) is-used
      ∙ ap (λ t. choose (cond u (Some RequestNumberUsed) None) t (book_refusal l m)) is-recalled
      ∙ ap (λ t. choose (cond u (Some RequestNumberUsed) None) o t) is-refused

  -- one of the two, unless it was 25
  repeats_known : eqb m.kind 9 ≡ false → (given.code ≡ 25 → ⊥) → Known l m given → Repeats m given l
  repeats_known other not_silent (known a same gives) =
      repeats_again a (goes other false (recalled_not_used (remembered_of l m) m a same) (Some a) same _ refl
      ∙ cond-false _ _ _ (ne_eqb _ 25 (λ silent. not_silent (ap (λ g. g.code) gives ∙ silent)))) gives
  repeats_known other not_silent (known_used otherwise gives) = repeats_refused RequestNumberUsed refl (goes other true otherwise _ refl _ refl) gives
  repeats_known other not_silent (known_full new most gives) =
      repeats_refused MemoryFull refl (goes other false (ap (λ o. used_otherwise o m) new) None (ap (λ o. repeat_in o m) new) (Some MemoryFull) (full_refuses l m kind other most)) gives

-- so what was answered otherwise than by 25 is answered again
pub repeats_from : (h : List Entry) (l : Ledger) → Recalls h l → (bytes : List ℕ) → NoInquiry bytes → (given : Given)
    → last_given h bytes ≡ Some given → (given.code ≡ 25 → ⊥) → RepeatsOf (opened bytes) given l
repeats_from h l r bytes other given last not_silent = by_opening (opened bytes) refl
  where
    by_opening : (o : Result Fields ℕ) → opened bytes ≡ o → RepeatsOf o given l
    by_opening (Err number) e = sym (r.shorts bytes given number e last)
    by_opening (Ok m) e =
        let no_inquiry = ne_eqb m.kind 9 (other m e) in
        repeats_known l m (kind_of bytes m e) given no_inquiry not_silent (r.answers bytes m given (r.only_bytes bytes given last) e no_inquiry last)
