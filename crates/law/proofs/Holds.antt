-- What is held is what the books say, from message to message.
use Rattle.std.proofs.Common.{◌≡◌, ℕ, suc, ◌+◌, ◌-◌, ◌<◌, Bool, true, false, cond, eqb, ◌⊎◌, List, length, is_some, Some, None, Option, unwrap_or, sym, refl, ap, ◌∙◌, subst, inl, inr, ⊎_elim, add-one, arith}
use Rattle.std.specs.Option.{option_map}
use Rattle.std.proofs.lemmas.Bool.{both_ways, cond_both, eqb-true, true≢false}
use Rattle.fields.specs.Kind.{is_kind}
use Rattle.host.specs.Meaning.{PutMeans}
use Rattle.host.specs.Parts.{Assents, Holdings, HoldsNothing, PutFates, SameHeld, same_pair}
use Rattle.host.specs.declared.Card.{Card}
use Rattle.host.specs.declared.Pair.{Pair}
use Rattle.host.specs.declared.PutReply.{PutReply}
use Rattle.host.specs.declared.PutReply.TheVariants.{Done, Refused, Silent}
use Rattle.host.proofs.Meaning.{same_pair-true, done_holds, put_elsewhere, refused_is_raise, refused_keeps, silent_either}
use Rattle.rows.specs.First.{first_with, row_with}
use Rattle.rows.proofs.First.{found_of_first}
use Rattle.wire.specs.declared.message.Fields.{Fields}
use Rattle.rules.specs.Ledger.{Ledger, no_ledger, no_purchase, of_xid, purchase_at, purchase_of, purchase_row}
use Rattle.rules.specs.MessageCard.{message_card}
use Rattle.rules.specs.Rules.{Reply, add_purchase, answered, books_after, call_of, moved, new_purchase, on_purchase, on_put, pair_of, put, put_of, reference_of, refused_with, remembered, settled, with_captured, with_credited, with_purchase}
use Rattle.wire.specs.Bytes.{same_bytes}
use Rattle.rules.specs.declared.outcome.Performed.{Performed}
use Rattle.rules.specs.declared.purchase.Purchase.{Purchase}
use Rattle.rules.proofs.Answering.{remembered_part}
use Rattle.rules.proofs.Passed.{card_the_same, known, no_doubt, nothing_there}
use Rattle.rules.proofs.Settles.{settled_card, settled_xid}
use Rattle.rules.proofs.Ways.{book_refusal}
use Rattle.law.specs.Booked.{booked_of}
use Rattle.law.specs.Reached.{Replies}
use Rattle.rules.proofs.Sames.{sames_equal, sames_refl}
use Rattle.law.proofs.Base.{unless}
use Rattle.law.proofs.Cases.{EachMove, by_move, by_ways}
use Rattle.law.proofs.Invariants.{Holding, IsRow, Kept, Silent as Unanswered}
use Rattle.law.proofs.Rows.{booked_elsewhere, booked_here, booked_same, doubt_known, mapped_some, place_known, place_new, place_stays, placed, row_known, row_new, row_push_other, some_is, some_mapped, told_stays}

-- over empty books nothing is held
pub holding_start : (held : Holdings) → HoldsNothing held → Holding no_ledger held
holding_start held nothing = record {
  own = λ xid pair is. inl (nothing pair);
  other = λ pair none. nothing pair;
}

-- two books with the same cards in the same places, and the same authorised amounts and doubts
record SameRows (l l' : Ledger) : Type 0 where
  cards : (xid : List ℕ) → option_map (λ p. p.card) (row_with (of_xid xid) l.purchases) ≡ option_map (λ p. p.card) (row_with (of_xid xid) l'.purchases)
  places : (xid : List ℕ) → first_with (of_xid xid) l.purchases ≡ first_with (of_xid xid) l'.purchases
  amounts : (xid : List ℕ) → (booked_of l xid).authorised ≡ (booked_of l' xid).authorised
  doubts : (xid : List ℕ) → (booked_of l xid).doubt ≡ (booked_of l' xid).doubt

-- a row with the same card and place in other books
row_along : (l l' : Ledger) (xid : List ℕ) (pair : Pair) → option_map (λ p. p.card) (row_with (of_xid xid) l.purchases) ≡ option_map (λ p. p.card) (row_with (of_xid xid) l'.purchases)
    → first_with (of_xid xid) l.purchases ≡ first_with (of_xid xid) l'.purchases → IsRow l xid pair → IsRow l' xid pair
row_along l l' xid pair cards places is = record { by_card = sym cards ∙ is.by_card; by_place = ap (option_map suc) (sym places) ∙ is.by_place }

-- where books have the same rows, and the same is held, it is held rightly
holding_like : (l l' : Ledger) (held held' : Holdings) → SameRows l l' → SameHeld held' held → Holding l held → Holding l' held'
holding_like l l' held held' like same h = record {
  own = λ xid pair is.
      let here = same pair in
      ⊎_elim (λ e. inl (here ∙ e ∙ like.amounts xid)) (λ e. inr (sym (like.doubts xid) ∙ e ∙ ap Some (sym here)))
      (h.own xid pair (row_along l' l xid pair (sym (like.cards xid)) (sym (like.places xid)) is));
  other = λ pair none. same pair ∙ h.other pair (λ xid is. none xid (row_along l l' xid pair (like.cards xid) (like.places xid) is));
}

-- the same purchases have the same rows
rows_of : (l l' : Ledger) → l.purchases ≡ l'.purchases → SameRows l l'
rows_of l l' e = record {
  cards = λ xid. ap (λ rows. option_map (λ p. p.card) (row_with (of_xid xid) rows)) e;
  places = λ xid. ap (first_with (of_xid xid)) e;
  amounts = λ xid. ap (λ p. p.authorised) (booked_same l' l e xid);
  doubts = λ xid. ap (λ p. p.doubt) (booked_same l' l e xid);
}

-- a host that holds the same holds rightly
pub holding_same : (l : Ledger) (held held' : Holdings) → SameHeld held' held → Holding l held → Holding l held'
holding_same l held held' same h = holding_like l l held held' (rows_of l l refl) same h

-- a part of what the books show of an XID, by its row
told_value : {A : Type 0} (tell : Purchase → A) (o : Option Purchase) → tell (unwrap_or o no_purchase) ≡ unwrap_or (option_map tell o) (tell no_purchase)
told_value tell None = refl
told_value tell (Some p) = refl

-- a rewriting of a purchase that leaves its card, its authorised amount and its doubt
record Leaves (f : Purchase → Purchase) : Type 0 where
  same_xid : (p : Purchase) → (f p).xid ≡ p.xid
  card_the_same : (p : Purchase) → (f p).card ≡ p.card
  same_amount : (p : Purchase) → (f p).authorised ≡ p.authorised
  same_doubt : (p : Purchase) → (f p).doubt ≡ p.doubt

-- leaves what is held
rows_left : (l : Ledger) (m : Fields) (f : Purchase → Purchase) → Leaves f → SameRows l (on_purchase m f l)
rows_left l m f leaves = record {
  cards = λ xid. sym (told_stays l m f leaves.same_xid (λ p. p.card) leaves.card_the_same xid);
  places = λ xid. sym (place_stays l m f leaves.same_xid xid);
  amounts = λ xid. sym (told (λ p. p.authorised) leaves.same_amount xid);
  doubts = λ xid. sym (told (λ p. p.doubt) leaves.same_doubt xid);
}
  where
    told : {A : Type 0} (tell : Purchase → A) → ((p : Purchase) → tell (f p) ≡ tell p) → (xid : List ℕ) → tell (booked_of (on_purchase m f l) xid) ≡ tell (booked_of l xid)
    told tell same xid =
        told_value tell _ ∙ ap (λ o. unwrap_or o (tell no_purchase)) (told_stays l m f leaves.same_xid tell same xid) ∙ sym (told_value tell _)

-- two purchases do not share a place
one_place : (rows : List Purchase) (x y : List ℕ) (place : ℕ) → first_with (of_xid x) rows ≡ Some place → first_with (of_xid y) rows ≡ Some place → x ≡ y
one_place rows x y place is_x is_y =
    let at_x = sames_equal _ x ((found_of_first (of_xid x) rows place is_x).passes no_purchase) in
    let at_y = sames_equal _ y ((found_of_first (of_xid y) rows place is_y).passes no_purchase) in
    sym at_x ∙ at_y

-- nor a reference
pub one_purchase : (l : Ledger) (x y : List ℕ) (reference : ℕ) → option_map suc (first_with (of_xid x) l.purchases) ≡ Some reference
    → option_map suc (first_with (of_xid y) l.purchases) ≡ Some reference → x ≡ y
one_purchase l x y reference of-x of-y =
    let at_x = mapped_some suc (first_with (of_xid x) l.purchases) reference of-x in
    let at_y = mapped_some suc (first_with (of_xid y) l.purchases) reference of-y in
    let same : at_y.0 ≡ at_x.0 = omega (arith, at_x.2, at_y.2) in
    one_place l.purchases x y at_x.0 at_x.1 (at_y.1 ∙ ap Some same)

-- and one purchase has one card and one reference
pub one_pair : (l : Ledger) (xid : List ℕ) (pair pair' : Pair) → IsRow l xid pair → IsRow l xid pair' → pair ≡ pair'
one_pair l xid pair pair' is is' =
    let same_card : pair.card ≡ pair'.card = cc (is.by_card, is'.by_card) in
    let same_reference : pair.reference ≡ pair'.reference = cc (is.by_place, is'.by_place) in
    ap (λ c. record pair { card = c }) same_card ∙ ap (λ n. record pair' { reference = n }) same_reference

-- what is held for a purchase is its authorised amount or the amount in doubt
abbrev Rightly : ℕ → Purchase → Type 0
Rightly amount p = (amount ≡ p.authorised) ⊎ (p.doubt ≡ Some amount)

-- a put leaves that so, if no other amount than the one asked is in doubt
settled_rightly : (r : PutReply) {fates : PutFates} {held : Holdings} {assents : Assents} {held' : Holdings} {pair : Pair} {amount : ℕ} (p : Purchase)
    → PutMeans fates held assents held' pair amount r → ((n : ℕ) → p.doubt ≡ Some n → n ≡ amount)
    → Rightly (held pair) p → Rightly (held' pair) (settled (on_put r) amount p)
settled_rightly Done p means asked before = inl (done_holds means refl)
settled_rightly Refused {held = held} {pair = pair} p means asked before =
    ⊎_elim (λ e. inl (refused_keeps means refl ∙ e))
    (λ e. let same = asked (held pair) e in let raise = refused_is_raise means refl in absurd (omega arith)) before
settled_rightly Silent {held = held} {pair = pair} p means asked before =
    ⊎_elim (λ kept. ⊎_elim (λ e. inl (kept ∙ e)) (λ e. inr (ap Some (sym (kept ∙ asked (held pair) e)))) before) (λ new. inr (ap Some (sym new)))
    (silent_either means refl)

-- a row that has a card is there
card_there : (o : Option Purchase) (card : Card) → option_map (λ p. p.card) o ≡ Some card → is_some o ≡ true
card_there o card is = sym (some_mapped (λ p. p.card) o) ∙ ap is_some is

-- a put under the card and reference of its purchase's row, with the purchase settled by the reply
module _ (l : Ledger) (m : Fields) (r : PutReply) {fates : PutFates} {held : Holdings} {assents : Assents} {held' : Holdings} {pair : Pair}
    (row : IsRow l m.xid pair) (means : PutMeans fates held assents held' pair m.amount r) (h : Holding l held) where
  abbrev settle : Purchase → Purchase
  settle = settled (on_put r) m.amount

  -- it leaves every card and place
  same_cards : (xid : List ℕ) → option_map (λ p. p.card) (row_with (of_xid xid) (on_purchase m settle l).purchases) ≡ option_map (λ p. p.card) (row_with (of_xid xid) l.purchases)
  same_cards xid = told_stays l m settle (settled_xid r m.amount) (λ p. p.card) (settled_card r m.amount) xid

  same_places : (xid : List ℕ) → first_with (of_xid xid) (on_purchase m settle l).purchases ≡ first_with (of_xid xid) l.purchases
  same_places xid = place_stays l m settle (settled_xid r m.amount) xid

  -- so the same rows are there before and after
  row_before : (xid : List ℕ) (pair' : Pair) → IsRow (on_purchase m settle l) xid pair' → IsRow l xid pair'
  row_before xid pair' is = row_along (on_purchase m settle l) l xid pair' (same_cards xid) (same_places xid) is

  row_after : (xid : List ℕ) (pair' : Pair) → IsRow l xid pair' → IsRow (on_purchase m settle l) xid pair'
  row_after xid pair' is = row_along l (on_purchase m settle l) xid pair' (sym (same_cards xid)) (sym (same_places xid)) is

  -- elsewhere the same is held
  elsewhere : (pair' : Pair) → (pair ≡ pair' → ⊥) → held' pair' ≡ held pair'
  elsewhere pair' apart = put_elsewhere means pair' (unless (same_pair pair' pair) (λ same. apart (sym (same_pair-true pair' pair same))))

  -- and under its own card and reference what is right of the purchase so settled
  put_holding : ((n : ℕ) → (booked_of l m.xid).doubt ≡ Some n → n ≡ m.amount) → Holding (on_purchase m settle l) held'
  put_holding asked = record {
    own = λ xid pair' is. by_xid xid pair' (row_before xid pair' is) (same_bytes m.xid xid) refl;
    other = λ pair' none.
        elsewhere pair' (λ same. none m.xid (row_after m.xid pair' (subst (IsRow l m.xid) same row)))
        ∙ h.other pair' (λ xid is. none xid (row_after xid pair' is));
  }
    where
      here : Rightly (held' pair) (booked_of (on_purchase m settle l) m.xid)
      here =
          subst (Rightly (held' pair)) (sym (booked_here l m settle (settled_xid r m.amount) (card_there (purchase_row l m) pair.card row.by_card)))
          (settled_rightly r (booked_of l m.xid) means asked (h.own m.xid pair row))

      by_xid : (xid : List ℕ) (pair' : Pair) → IsRow l xid pair' → (t : Bool) → same_bytes m.xid xid ≡ t → Rightly (held' pair') (booked_of (on_purchase m settle l) xid)
      by_xid xid pair' is true e =
          let same = sames_equal m.xid xid e in
          subst (λ x. Rightly (held' pair') (booked_of (on_purchase m settle l) x)) same
          (subst (λ x. Rightly (held' x) (booked_of (on_purchase m settle l) m.xid)) (one_pair l m.xid pair pair' row (subst (λ x. IsRow l x pair') (sym same) is)) here)
      by_xid xid pair' is false e =
          let kept = elsewhere pair' (λ one.
          let same = one_purchase l m.xid xid pair.reference row.by_place (subst (IsRow l xid) (sym one) is).by_place in
          true≢false (sym (sames_refl m.xid) ∙ ap (same_bytes m.xid) same ∙ e)) in
          subst (λ n. Rightly n (booked_of (on_purchase m settle l) xid)) (sym kept)
          (subst (Rightly (held pair')) (sym (booked_elsewhere l m settle (settled_xid r m.amount) xid e)) (h.own xid pair' is))

-- a reference of a row counts no more than the rows
place_within : (rows : List Purchase) (xid : List ℕ) (reference : ℕ) → option_map suc (first_with (of_xid xid) rows) ≡ Some reference → reference < suc (length rows)
place_within rows xid reference is =
    let at = mapped_some suc (first_with (of_xid xid) rows) reference is in
    omega (arith, at.2, (found_of_first (of_xid xid) rows at.0 at.1).within)

-- for the new purchase nothing is authorised, and nothing is held
add_holding : (l : Ledger) (m : Fields) (held : Holdings) → Holding l held → Holding (add_purchase m l) held
add_holding l m held h = record {
  own = λ xid pair is. by_known xid pair is (is_some (row_with (of_xid xid) l.purchases)) refl;
  other = λ pair none. h.other pair
      (λ xid is. let known = card_there (row_with (of_xid xid) l.purchases) pair.card is.by_card in
      none xid (row_along l (add_purchase m l) xid pair (ap (option_map (λ p. p.card)) (sym (row_known l m xid known))) (sym (place_known l m xid known)) is));
}
  where
    -- under the next reference nothing was held
    nothing_yet : (pair : Pair) → Some (suc (length l.purchases)) ≡ Some pair.reference → held pair ≡ 0
    nothing_yet pair e =
        let next : suc (length l.purchases) ≡ pair.reference = cc in
        h.other pair (λ z is. let within = place_within l.purchases z pair.reference is.by_place in omega arith)

    by_xid : (xid : List ℕ) (pair : Pair) → IsRow (add_purchase m l) xid pair → is_some (row_with (of_xid xid) l.purchases) ≡ false
        → (t : Bool) → same_bytes m.xid xid ≡ t → Rightly (held pair) (booked_of (add_purchase m l) xid)
    by_xid xid pair is new true e =
        inl (nothing_yet pair (ap (option_map suc) (sym (place_new l m xid new e)) ∙ is.by_place)
        ∙ ap (λ o. (unwrap_or o no_purchase).authorised) (sym (row_new l m xid new e)))
    by_xid xid pair is new false e =
        let row = row_push_other (of_xid xid) l.purchases (new_purchase m) e in
        absurd (both_ways _ new (card_there (row_with (of_xid xid) l.purchases) pair.card (ap (option_map (λ p. p.card)) (sym row) ∙ is.by_card)))

    by_known : (xid : List ℕ) (pair : Pair) → IsRow (add_purchase m l) xid pair
        → (t : Bool) → is_some (row_with (of_xid xid) l.purchases) ≡ t → Rightly (held pair) (booked_of (add_purchase m l) xid)
    by_known xid pair is true known =
        let row = row_known l m xid known in
        subst (λ o. Rightly (held pair) (unwrap_or o no_purchase)) (sym row)
        (h.own xid pair (row_along (add_purchase m l) l xid pair (ap (option_map (λ p. p.card)) row) (place_known l m xid known) is))
    by_known xid pair is false new = by_xid xid pair is new (same_bytes m.xid xid) refl

-- all that a put wants of the books: its purchase has a row with this card and reference, and no
-- other amount is in doubt
pub record Ready (l : Ledger) (m : Fields) (held : Holdings) (pair : Pair) : Type 0 where
  pub row : IsRow l m.xid pair
  pub asked : (n : ℕ) → (booked_of l m.xid).doubt ≡ Some n → n ≡ m.amount
  pub holding : Holding l held

-- a put so made, whatever the reply
put_replied : (l : Ledger) (m : Fields) (reply : Reply) (held held' : Holdings) (pair : Pair) → Ready l m held pair
    → Replies (put pair m.amount) reply held held' → Holding (on_purchase m (settled reply m.amount) l) held'
put_replied l m reply held held' pair ready (r, fates, assents, is, means) =
    subst (λ q. Holding (on_purchase m (settled q m.amount) l) held') (sym is) (put_holding l m r ready.row means ready.holding ready.asked)

-- a card under the reference of a message's purchase
abbrev under : Ledger → Fields → Card → Pair
under l m card = record { card = card; reference = reference_of l m }

-- the row of a purchase that is known
row_of_known : (l : Ledger) (m : Fields) → is_some (purchase_row l m) ≡ true → IsRow l m.xid (under l m (purchase_of l m).card)
row_of_known l m known = record {
  by_card = ap (option_map (λ p. p.card)) (some_is (purchase_row l m) no_purchase known);
  by_place =
      ap (option_map suc) (some_is (purchase_at l m) (length l.purchases) (placed (of_xid m.xid) l.purchases ∙ known))
      ∙ ap Some (sym (add-one (unwrap_or (purchase_at l m) (length l.purchases))));
}

-- a purchase that is known and in no other doubt
ready_known : (l : Ledger) (m : Fields) (held : Holdings) (card : Card) → is_some (purchase_row l m) ≡ true → (purchase_of l m).card ≡ card
    → ((n : ℕ) → (booked_of l m.xid).doubt ≡ Some n → n ≡ m.amount) → Holding l held → Ready l m held (under l m card)
ready_known l m held card known same asked h = record { row = subst (λ c. IsRow l m.xid (under l m c)) same (row_of_known l m known); asked = asked; holding = h }

-- no doubt is no other doubt
no_other_doubt : (o : Option ℕ) (amount : ℕ) → o ≡ None → (n : ℕ) → o ≡ Some n → n ≡ amount
no_other_doubt o amount none n some = cc

-- the purchase of a reversal that is past all checks
pub ready_lowered : (l : Ledger) (m : Fields) (held : Holdings) → m.kind ≡ 2 → book_refusal l m ≡ None → Holding l held → Ready l m held (pair_of l m)
ready_lowered l m held is none h =
    ready_known l m held (pair_of l m).card (known l m none 2 is refl) (ap (λ k. cond (eqb k 1) (message_card m) (purchase_of l m).card) (sym is))
    (no_other_doubt (purchase_of l m).doubt m.amount (no_doubt l m none 2 is refl)) h

-- a purchase that is known, or a new one in its row
ready_first : (l : Ledger) (m : Fields) (held : Holdings) → m.kind ≡ 1 → book_refusal l m ≡ None → Holding l held → Ready (with_purchase m l) m held (under l m (message_card m))
ready_first l m held is none h = cond_both (is_some (purchase_row l m)) l (add_purchase m l) (λ x. Ready x m held (under l m (message_card m)))
    (λ known. ready_known l m held (message_card m) known (card_the_same l m none is known) (no_other_doubt (purchase_of l m).doubt m.amount (no_doubt l m none 1 is refl)) h)
    (λ new.
    let row = row_new l m m.xid new (sames_refl m.xid) in
    let place = place_new l m m.xid new (sames_refl m.xid) in
    let next : purchase_at l m ≡ None = nothing_there (purchase_at l m) (placed (of_xid m.xid) l.purchases ∙ new) in
    record {
      row = record {
        by_card = ap (option_map (λ p. p.card)) row;
        by_place = ap (option_map suc) place ∙ ap Some (sym (add-one (length l.purchases)) ∙ ap (λ o. unwrap_or o (length l.purchases) + 1) (sym next));
      };
      asked = no_other_doubt (booked_of (add_purchase m l) m.xid).doubt m.amount (ap (λ o. (unwrap_or o no_purchase).doubt) row);
      holding = add_holding l m held h;
    })

-- steps that make no put
module _ (l : Ledger) (held held' : Holdings) (same : SameHeld held' held) (h : Holding l held) where
  -- the purchases stay
  holding_stays : (l' : Ledger) → l.purchases ≡ l'.purchases → Holding l' held'
  holding_stays l' e = holding_like l l' held held' (rows_of l l' e) same h

  -- or one is rewritten in what no host holds
  holding_left : (m : Fields) (f : Purchase → Purchase) → Leaves f → (l' : Ledger) → (on_purchase m f l).purchases ≡ l'.purchases → Holding l' held'
  holding_left m f leaves l' e =
      holding_like (on_purchase m f l) l' held held' (rows_of (on_purchase m f l) l' e) same
      (holding_like l (on_purchase m f l) held held (rows_left l m f leaves) (λ pair. refl) h)

-- what is remembered is not held
remembered_holding : (m : Fields) (a : Performed) (l : Ledger) (held : Holdings) → Holding l held → Holding (remembered m a l) held
remembered_holding m a l held h = holding_stays l held held (λ pair. refl) h (remembered m a l) (sym (remembered_part (λ x. x.purchases) m a l refl))

-- captures and credits are not held
leaves_captured : (amount : ℕ) (batch : Purchase → ℕ) → Leaves (λ p. with_captured amount (batch p) p)
leaves_captured amount batch = record { same_xid = λ p. refl; card_the_same = λ p. refl; same_amount = λ p. refl; same_doubt = λ p. refl }

leaves_credited : (amount : Purchase → ℕ) → Leaves (λ p. with_credited (amount p) p)
leaves_credited amount = record { same_xid = λ p. refl; card_the_same = λ p. refl; same_amount = λ p. refl; same_doubt = λ p. refl }

-- a put that is made again, for the purchase that its silence left in doubt
pub ready_again : (l : Ledger) (m : Fields) (held : Holdings) → Kept l → Holding l held → Unanswered l m → Ready l m held (pair_of l m)
ready_again l m held kept h silent =
    let doubt = kept.silent_doubt m silent in
    ready_known l m held (pair_of l m).card (doubt_known (purchase_row l m) m.amount doubt) (own_card (eqb m.kind 1) refl) (λ n is. cc) h
  where
    own_card : (t : Bool) → eqb m.kind 1 ≡ t → (purchase_of l m).card ≡ cond t (message_card m) (purchase_of l m).card
    own_card true e = kept.silent_card m silent (eqb-true m.kind 1 e)
    own_card false e = refl

-- past all checks
module _ (l : Ledger) (m : Fields) (held held' : Holdings) (h : Holding l held) (none : book_refusal l m ≡ None) where
  -- the put of an authorisation goes under the message's card
  under_own : m.kind ≡ 1 → (reply : Reply) → Replies (put_of l m) reply held held' → Replies (put (under l m (message_card m)) m.amount) reply held held'
  under_own is reply = subst (λ k. Replies (put (under l m (cond (eqb k 1) (message_card m) (purchase_of l m).card)) m.amount) reply held held') is

  through_holding : EachMove l m held held' (λ reply l'. Holding l' held')
  through_holding = record {
    authorisation = λ is r called.
        put_replied (with_purchase m l) m (on_put r) held held' (under l m (message_card m)) (ready_first l m held is none h) (under_own is (on_put r) called);
    authorisation_reversal = λ is r called.
        put_replied l m (on_put r) held held' (pair_of l m) (ready_lowered l m held is none h) called;
    capture = λ is same. holding_left l held held' same h m (with_captured m.amount m.batch) (leaves_captured m.amount (λ p. m.batch)) _ refl;
    capture_reversal = λ is same. holding_left l held held' same h m _ (leaves_captured 0 (λ p. p.batch)) _ refl;
    credit = λ is same. holding_left l held held' same h m _ (leaves_credited (λ p. p.credited + m.amount)) _ refl;
    credit_reversal = λ is same. holding_left l held held' same h m _ (leaves_credited (λ p. p.credited - m.amount)) _ refl;
    batch_open = λ is same. holding_stays l held held' same h _ refl;
    batch_close = λ is same. holding_stays l held held' same h _ refl;
    inquiry = λ is same r. holding_stays l held held' same h _ refl;
  }

-- every message leaves what is held rightly so
pub holding_step : (l : Ledger) (m : Fields) (reply : Reply) (held held' : Holdings) → is_kind m.kind ≡ true → Kept l → Holding l held → Replies (call_of l m) reply held held'
    → Holding (books_after l m reply) held'
holding_step l m reply held held' kind kept h = by_ways l m held held' (λ a books. Holding books held') (record {
  repeated = λ a known same. holding_same l held held' same h;
  put_again = λ was r called.
      holding_stays (on_purchase m (settled (on_put r) m.amount) l) held' held' (λ pair. refl)
      (put_replied l m (on_put r) held held' (pair_of l m) (ready_again l m held kept h was) called) _ refl;
  refused = λ o check why same. remembered_holding m (refused_with m o) l held' (holding_same l held held' same h);
  passed = λ passed reply called.
      remembered_holding m (answered l m reply) (moved l m reply) held' (by_move l m held held' _ (through_holding l m held held' h passed.none) kind reply called);
}) kind reply
