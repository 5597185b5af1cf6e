-- Why what is recalled of a message says its way.
use Rattle.std.proofs.Common.{◌≡◌, ℕ, Bool, true, false, cond, not, ◌||◌, eqb, is_some, Some, None, Option, sym, refl, ap, ◌∙◌}
use Rattle.std.proofs.lemmas.Bool.{and_parts, not-true, both_ways}
use Rattle.fields.specs.Kind.{is_kind}
use Rattle.rows.specs.First.{row_with}
use Rattle.wire.specs.declared.message.Fields.{Fields}
use Rattle.rules.specs.Found.{place_in}
use Rattle.rules.specs.Ledger.{Ledger, of_request, of_xid, purchase_row, remembered_of}
use Rattle.rules.specs.Recalled.{Recalls, recalled_in}
use Rattle.rules.specs.Rules.{choose, is_silent, way}
use Rattle.rules.specs.Same.{same_fields}
use Rattle.rules.specs.Sound.{all_answers_sound, sound_answer}
use Rattle.rules.specs.Way.{Again, Retry}
use Rattle.rules.specs.declared.outcome.Outcome.TheVariants.{RequestNumberUsed}
use Rattle.rules.specs.declared.remembered.Recalled.TheVariants.{Answered, Used, Open}
use Rattle.rules.specs.declared.remembered.Remembered.{Remembered}
use Rattle.rules.proofs.Every.{every_row}
use Rattle.rules.proofs.Sames.{fields_equal}
use Rattle.rules.proofs.Ways.{book_refusal, way_by}

module _ (l : Ledger) (m : Fields) (kind : is_kind m.kind ≡ true) where
  -- nothing stands under its request number
  pub recalls_none : remembered_of l m ≡ None → Recalls (Open None) l m
  recalls_none is = by (eqb m.kind 9) refl
    where
      by : (nine : Bool) → eqb m.kind 9 ≡ nine → Recalls (Open None) l m
      by true e = way_by l m kind true e None is
      by false e = way_by l m kind false e None is

  module _ (sound : all_answers_sound l.purchases l.answers ≡ true) where
    row_sound : (r : Remembered) → remembered_of l m ≡ Some r → sound_answer l.purchases r ≡ true
    row_sound r is = every_row (sound_answer l.purchases) (of_request m.course m.request) l.answers r sound is

    -- an inquiry is never a repeat
    pub recalls_inquiry : eqb m.kind 9 ≡ true → Recalls (Open None) l m
    recalls_inquiry nine = by (remembered_of l m) refl
      where
        by : (o : Option Remembered) → remembered_of l m ≡ o → Recalls (Open None) l m
        by None is = recalls_none is
        by (Some r) is =
            let other : eqb r.fields.kind 9 ≡ false = not-true _ (and_parts _ _ (row_sound r is)).0 in
            way_by l m kind true nine (Some r) is ∙ ap (λ t. choose None (cond t (Some r.answer) None) (book_refusal l m)) (apart r other (same_fields r.fields m) refl)
          where
            apart : (r : Remembered) → eqb r.fields.kind 9 ≡ false → (t : Bool) → same_fields r.fields m ≡ t → same_fields r.fields m ≡ false
            apart r other false same = same
            apart r other true same = absurd (both_ways _ other (ap (λ (f : Fields). eqb f.kind 9) (fields_equal r.fields m same) ∙ nine))

    -- a row stands there
    pub recalls_row : eqb m.kind 9 ≡ false → (r : Remembered) → remembered_of l m ≡ Some r → Recalls (recalled_in r (place_in (of_request m.course m.request) l.answers) m) l m
    recalls_row other r is = by (same_fields r.fields m) refl (is_silent r.answer) refl
      where
        place : ℕ
        place = place_in (of_request m.course m.request) l.answers

        goes : (t : Bool) → same_fields r.fields m ≡ t → way l m ≡ choose (cond (not t) (Some RequestNumberUsed) None) (cond t (Some r.answer) None) (book_refusal l m)
        goes t same = way_by l m kind false other (Some r) is ∙ ap (λ u. choose (cond (not u) (Some RequestNumberUsed) None) (cond u (Some r.answer) None) (book_refusal l m)) same

        known : same_fields r.fields m ≡ true → is_silent r.answer ≡ true → is_some (purchase_row l m) ≡ true
        known same silent =
            ap (λ (f : Fields). is_some (row_with (of_xid f.xid) l.purchases)) (sym (fields_equal r.fields m same))
            ∙ sym (ap (λ s. not s || is_some (row_with (of_xid r.fields.xid) l.purchases)) silent)
            ∙ (and_parts (not (eqb r.fields.kind 9)) (not (is_silent r.answer) || is_some (row_with (of_xid r.fields.xid) l.purchases)) (row_sound r is)).1

        by : (t : Bool) → same_fields r.fields m ≡ t → (s : Bool) → is_silent r.answer ≡ s
            → Recalls (cond t (cond s (Open (Some place)) (Answered r.answer)) Used) l m
        by true same true silent = (goes true same ∙ ap (λ s. cond s Retry (Again r.answer)) silent, refl, known same silent, other)
        by true same false heard = goes true same ∙ ap (λ s. cond s Retry (Again r.answer)) heard
        by false same s silence = goes false same
