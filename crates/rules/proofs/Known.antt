-- Purchases that have a row keep one, and so what is remembered of a silent host keeps its purchase.
use Rattle.std.proofs.Common.{◌≡◌, ℕ, Bool, true, false, cond, not, ◌||◌, eqb, List, [], ◌∷◌, ◌++◌, is_some, Some, Option, set, sym, refl, ap, ◌∙◌}
use Rattle.std.proofs.lemmas.Bool.{and_from, and_parts, not_from_false, or_left, or_right, true≢false}
use Rattle.host.specs.declared.PutReply.{PutReply}
use Rattle.rows.specs.First.{row_with, update_first}
use Rattle.wire.specs.Bytes.{same_bytes}
use Rattle.wire.specs.declared.message.Fields.{Fields}
use Rattle.rules.specs.Change.{KeepsKnown}
use Rattle.rules.specs.Found.{place_in}
use Rattle.rules.specs.Ledger.{answer_row, of_xid}
use Rattle.rules.specs.Rules.{is_silent, on_put, put_answered}
use Rattle.rules.specs.Sound.{all_answers_sound, sound_answer}
use Rattle.rules.specs.declared.outcome.Performed.{Performed}
use Rattle.rules.specs.declared.purchase.Purchase.{Purchase}
use Rattle.rules.specs.declared.remembered.Remembered.{Remembered}
use Rattle.rules.proofs.Every.{every_weaker}
use Rattle.rules.proofs.Writes.{set_first}

either : (t : Bool) (x y : Purchase) (a b : Option Purchase) → is_some a ≡ is_some b → is_some (cond t (Some x) a) ≡ is_some (cond t (Some y) b)
either true x y a b same = refl
either false x y a b same = same

-- a row is rewritten under its own XID
known_update : (sought : Purchase → Bool) (old new : Purchase) → new.xid ≡ old.xid → (rows : List Purchase) → row_with sought rows ≡ Some old
    → (xid : List ℕ) → is_some (row_with (of_xid xid) (update_first sought (λ _. new) rows)) ≡ is_some (row_with (of_xid xid) rows)
known_update sought old new own [] found xid = refl
known_update sought old new own (x ∷ rows) found xid =
    let others = row_with (of_xid xid) rows in
    elim (sought x) as (λ t. cond t (Some x) (row_with sought rows) ≡ Some old
    → is_some (row_with (of_xid xid) (cond t (new ∷ rows) (x ∷ update_first sought (λ _. new) rows))) ≡ is_some (cond (of_xid xid x) (Some x) others)) [
      | true ↦ λ here.
          let same : x ≡ old = cc in
          ap (λ id. is_some (cond (same_bytes id xid) (Some new) others)) (own ∙ ap (λ p. p.xid) (sym same)) ∙ either (of_xid xid x) new x others others refl
      | false ↦ λ later. either (of_xid xid x) x x _ others (known_update sought old new own rows later xid)
    ] found

pub known_set : (own : List ℕ) (rows : List Purchase) (old new : Purchase) → row_with (of_xid own) rows ≡ Some old → new.xid ≡ old.xid
    → KeepsKnown rows (set rows (place_in (of_xid own) rows) new)
known_set own rows old new found same xid known =
    ap (λ r. is_some (row_with (of_xid xid) r)) (set_first (of_xid own) rows old new found) ∙ known_update (of_xid own) old new same rows found xid ∙ known

-- a row goes behind the others, and is found there
pub known_append : (rows : List Purchase) (new : Purchase) → KeepsKnown rows (rows ++ new ∷ [])
known_append [] new xid known = absurd (true≢false (sym known))
known_append (x ∷ rows) new xid known =
    elim (of_xid xid x) as (λ t. is_some (cond t (Some x) (row_with (of_xid xid) rows)) ≡ true → is_some (cond t (Some x) (row_with (of_xid xid) (rows ++ new ∷ []))) ≡ true) [
      | true ↦ λ here. refl
      | false ↦ λ later. known_append rows new xid later
    ] known

pub known_last : (rows : List Purchase) (new : Purchase) (xid : List ℕ) → of_xid xid new ≡ true → is_some (row_with (of_xid xid) (rows ++ new ∷ [])) ≡ true
known_last [] new xid passes = rw passes refl
known_last (x ∷ rows) new xid passes =
    elim (of_xid xid x) as (λ t. is_some (cond t (Some x) (row_with (of_xid xid) (rows ++ new ∷ []))) ≡ true) [
      | true ↦ refl
      | false ↦ known_last rows new xid passes
    ]

-- what is remembered stays sound where no purchase loses its row
pub answers_stay : (before after : List Purchase) → KeepsKnown before after → (answers : List Remembered) → all_answers_sound before answers ≡ true → all_answers_sound after answers ≡ true
answers_stay before after keeps =
    every_weaker (sound_answer before) (sound_answer after) (λ r ok. let both = and_parts _ _ ok in and_from _ _ both.0 (stays r both.1))
  where
    stays : (r : Remembered) → (not (is_silent r.answer) || is_some (row_with (of_xid r.fields.xid) before)) ≡ true → (not (is_silent r.answer) || is_some (row_with (of_xid r.fields.xid) after)) ≡ true
    stays r = elim (is_silent r.answer) as (λ s. (not s || is_some (row_with (of_xid r.fields.xid) before)) ≡ true → (not s || is_some (row_with (of_xid r.fields.xid) after)) ≡ true) [
      | true ↦ keeps r.fields.xid
      | false ↦ λ _. refl
    ]

-- a new answer is sound: a put's where its purchase has a row, and any other that is not the host's silence
module _ (purchases : List Purchase) (m : Fields) (other : eqb m.kind 9 ≡ false) where
  pub sound_put : (reply : PutReply) → is_some (row_with (of_xid m.xid) purchases) ≡ true → sound_answer purchases (answer_row m (put_answered m (on_put reply))) ≡ true
  sound_put reply known = and_from _ _ (not_from_false _ other) (or_right _ _ known)

  pub sound_heard : (a : Performed) → is_silent a ≡ false → sound_answer purchases (answer_row m a) ≡ true
  sound_heard a heard = and_from _ _ (not_from_false _ other) (or_left _ _ (not_from_false _ heard))
