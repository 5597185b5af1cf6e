-- What a capture, a credit or a reversal answers and leaves: the purchase and the batch that it finds, each rewritten.
use Rattle.std.proofs.Common.{◌≡◌, ℕ, true, not, ◌&&◌, eqb, List, Some, unwrap_or, sym, ap, ◌∙◌}
use Rattle.std.specs.Option.{option_map}
use Rattle.rows.specs.First.{update_first}
use Rattle.rows.proofs.First.{row_update}
use Rattle.wire.specs.declared.message.Fields.{Fields}
use Rattle.fields.specs.Kind.{kind_from}
use Rattle.rules.specs.Ledger.{Ledger, batch_row, no_purchase, of_batch, of_xid, purchase_of, purchase_row, uncredited}
use Rattle.wire.specs.Bytes.{same_bytes}
use Rattle.rules.specs.Rules.{answered, kind_amount, kind_moves, moved, noted, on_batch, on_purchase, remembered, success, uncalled}
use Rattle.rules.specs.declared.batch.Batch.{Batch}
use Rattle.rules.specs.declared.purchase.Purchase.{Purchase}
use Rattle.rules.proofs.Answering.{answered_at, moved_at, remembered_at}
use Rattle.rules.proofs.Every.{update_const}

module _ (l : Ledger) (m : Fields) (k : ℕ) (kind : m.kind ≡ k) (f : Purchase → Purchase) (g : Batch → Batch) (p : Purchase) (b : Batch)
    (purchase : purchase_row l m ≡ Some p) (batch : batch_row l m ≡ Some b) (keeps : (q : Purchase) → (f q).xid ≡ q.xid)
    (move : kind_moves (kind_from k) m uncalled l ≡ on_batch m g (on_purchase m f l))
    (amount : (x : Ledger) → kind_amount (kind_from k) x m uncalled ≡ uncredited (purchase_of x m))
    (kept : (not (eqb k 9) && true) ≡ true) where
  -- what is moved
  here : moved l m uncalled ≡ on_batch m g (on_purchase m f l)
  here = moved_at l m k kind uncalled ∙ move

  -- by the rows themselves
  rewritten : on_batch m (λ _. g b) (on_purchase m (λ _. f p) l) ≡ moved l m uncalled
  rewritten =
      let at : List Purchase → List Batch → Ledger = λ purchases batches. record l { purchases = purchases; batches = batches } in
      let batches = update_first (of_batch m.course m.batch) (λ _. g b) l.batches in
      ap (λ rows. at rows batches) (update_const (of_xid m.xid) f l.purchases p purchase)
      ∙ ap (at (update_first (of_xid m.xid) f l.purchases)) (update_const (of_batch m.course m.batch) g l.batches b batch)
      ∙ sym here

  -- the purchase after it
  after : purchase_of (moved l m uncalled) m ≡ f p
  after =
      ap (λ x. purchase_of x m) here
      ∙ ap (λ found. unwrap_or found no_purchase) (row_update (of_xid m.xid) f (λ q is. ap (λ xid. same_bytes xid m.xid) (keeps q) ∙ is) l.purchases ∙ ap (option_map f) purchase)

  -- the answer, and the books with it
  pub booked_value : success (uncredited (f p)) ≡ answered l m uncalled
  booked_value =
      ap (λ p. success (uncredited p)) (sym after) ∙ ap success (sym (amount (moved l m uncalled))) ∙ sym (answered_at l m k kind uncalled)

  pub booked_rows : noted m (success (uncredited (f p))) (on_batch m (λ _. g b) (on_purchase m (λ _. f p) l)) ≡ remembered m (answered l m uncalled) (moved l m uncalled)
  booked_rows =
      ap (noted m (success (uncredited (f p)))) rewritten
      ∙ ap (λ a. noted m a (moved l m uncalled)) booked_value
      ∙ sym (remembered_at l m k kind uncalled (answered l m uncalled) (moved l m uncalled) kept)
