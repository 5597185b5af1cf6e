-- Rows of the books that are looked up after one was rewritten or added: of any table, then of the
-- purchases and the batches.
use Rattle.std.proofs.Common.{◌≡◌, ℕ, suc, Bool, true, false, cond, ◌&&◌, eqb, List, [], ◌∷◌, ◌++◌, map, length, is_some, Some, None, Option, unwrap_or, sym, refl, ap, ◌∙◌}
use Rattle.std.specs.Option.{option_map}
use Rattle.std.proofs.lemmas.Bool.{and_parts, cond-false, cond-true, eqb-true, true≢false}
use Rattle.rows.specs.First.{first_with, row_with, update_first}
use Rattle.rows.proofs.First.{row_update, row_update_other}
use Rattle.wire.specs.declared.message.Fields.{Fields}
use Rattle.rules.specs.Ledger.{Ledger, batch_row, no_batch, no_purchase, of_batch, of_xid, purchase_row}
use Rattle.rules.specs.Rules.{add_purchase, new_purchase, on_batch, on_purchase}
use Rattle.wire.specs.Bytes.{same_bytes}
use Rattle.rules.specs.declared.batch.Batch.{Batch}
use Rattle.rules.specs.declared.purchase.Purchase.{Purchase}
use Rattle.law.specs.Batches.{is_under}
use Rattle.law.specs.Booked.{batch_under, booked_of}
use Rattle.rules.proofs.Sames.{sames_equal}

-- what is there has a value
pub some_is : {A : Type 0} (o : Option A) (d : A) → is_some o ≡ true → o ≡ Some (unwrap_or o d)
some_is None d is = absurd (true≢false (sym is))
some_is (Some x) d is = refl

-- something was made of it just if it is there
pub some_mapped : {A B : Type 0} (f : A → B) (o : Option A) → is_some (option_map f o) ≡ is_some o
some_mapped f None = refl
some_mapped f (Some x) = refl

-- and a value that was made of it comes from one
pub mapped_some : {A B : Type 0} (f : A → B) (o : Option A) (b : B) → option_map f o ≡ Some b → (a : A) × (o ≡ Some a) × (f a ≡ b)
mapped_some f None b is = absurd (true≢false cc)
mapped_some f (Some a) b is = (a, refl, cc)

pub some_value : {A : Type 0} (o : Option A) (f : A → A) (d : A) → is_some o ≡ true → unwrap_or (option_map f o) d ≡ f (unwrap_or o d)
some_value o f d is = ap (λ x. unwrap_or (option_map f x) d) (some_is o d is)

-- no row is lost where one is rewritten
pub length_update : {R : Type 0} (test : R → Bool) (f : R → R) (rows : List R) → length (update_first test f rows) ≡ length rows
length_update test f [] = refl
length_update test f (x ∷ rows) =
    elim (test x) as (λ t. length (cond t (f x ∷ rows) (x ∷ update_first test f rows)) ≡ suc (length rows)) [
      | true ↦ refl
      | false ↦ ap suc (length_update test f rows)
    ]

module _ {R S : Type 0} (name : R → S) where
  -- nor is any name, where each row keeps its own
  pub map_update : (test : R → Bool) (f : R → R) → ((x : R) → name (f x) ≡ name x) → (rows : List R) → map name (update_first test f rows) ≡ map name rows
  map_update test f keeps [] = refl
  map_update test f keeps (x ∷ rows) =
      elim (test x) as (λ t. map name (cond t (f x ∷ rows) (x ∷ update_first test f rows)) ≡ map name (x ∷ rows)) [
        | true ↦ ap (λ y. y ∷ map name rows) (keeps x)
        | false ↦ ap (λ names. name x ∷ names) (map_update test f keeps rows)
      ]

  -- a row is found by its name just if the name is
  pub found_by_name : (test : S → Bool) (rows : List R) → is_some (first_with test (map name rows)) ≡ is_some (row_with (λ x. test (name x)) rows)
  found_by_name test [] = refl
  found_by_name test (x ∷ rows) =
      elim (test (name x)) as (λ t. is_some (cond t (Some 0) (option_map suc (first_with test (map name rows)))) ≡ is_some (cond t (Some x) (row_with (λ y. test (name y)) rows))) [
        | true ↦ refl
        | false ↦ some_mapped suc (first_with test (map name rows)) ∙ found_by_name test rows
      ]

module _ {R : Type 0} (test other : R → Bool) (f : R → R) (keeps : (x : R) → test (f x) ≡ test x) where
  -- a rewriting that the test does not tell leaves every place
  pub first_update : (rows : List R) → first_with test (update_first other f rows) ≡ first_with test rows
  first_update [] = refl
  first_update (x ∷ rows) =
      elim (other x) as (λ t. first_with test (cond t (f x ∷ rows) (x ∷ update_first other f rows)) ≡ first_with test (x ∷ rows)) [
        | true ↦ ap (λ t. cond t (Some 0) (option_map suc (first_with test rows))) (keeps x)
        | false ↦ ap (λ place. cond (test x) (Some 0) (option_map suc place)) (first_update rows)
      ]

  -- and, of the row that is found, each part that it leaves of every row
  pub part_stays : {S : Type 0} (part : R → S) → ((x : R) → part (f x) ≡ part x) → (rows : List R) → option_map part (row_with test (update_first other f rows)) ≡ option_map part (row_with test rows)
  part_stays part same [] = refl
  part_stays part same (x ∷ rows) =
      elim (other x) as (λ t. option_map part (row_with test (cond t (f x ∷ rows) (x ∷ update_first other f rows))) ≡ option_map part (row_with test (x ∷ rows))) [
        | true ↦ ap (λ t. option_map part (cond t (Some (f x)) (row_with test rows))) (keeps x) ∙ at_head (test x)
        | false ↦ behind (test x) (part_stays part same rows)
      ]
    where
      at_head : (t : Bool) → option_map part (cond t (Some (f x)) (row_with test rows)) ≡ option_map part (cond t (Some x) (row_with test rows))
      at_head true = ap Some (same x)
      at_head false = refl

      behind : (t : Bool) → option_map part (row_with test (update_first other f rows)) ≡ option_map part (row_with test rows)
          → option_map part (cond t (Some x) (row_with test (update_first other f rows))) ≡ option_map part (cond t (Some x) (row_with test rows))
      behind true rest = refl
      behind false rest = rest

module _ {R : Type 0} (test : R → Bool) where
  -- a row that is found has a place, and the other way round
  pub placed : (rows : List R) → is_some (first_with test rows) ≡ is_some (row_with test rows)
  placed [] = refl
  placed (x ∷ rows) =
      elim (test x) as (λ t. is_some (cond t (Some 0) (option_map suc (first_with test rows))) ≡ is_some (cond t (Some x) (row_with test rows))) [
        | true ↦ refl
        | false ↦ some_mapped suc (first_with test rows) ∙ placed rows
      ]

  -- one more row behind the others
  pub row_push : (rows : List R) (y : R) → row_with test (rows ++ y ∷ []) ≡ cond (is_some (row_with test rows)) (row_with test rows) (cond (test y) (Some y) None)
  row_push [] y = refl
  row_push (x ∷ rows) y =
      elim (test x) as (λ t. cond t (Some x) (row_with test (rows ++ y ∷ []))
      ≡ cond (is_some (cond t (Some x) (row_with test rows))) (cond t (Some x) (row_with test rows)) (cond (test y) (Some y) None)) [
        | true ↦ refl
        | false ↦ row_push rows y
      ]

  pub first_push : (rows : List R) (y : R) → first_with test (rows ++ y ∷ []) ≡ cond (is_some (row_with test rows)) (first_with test rows) (cond (test y) (Some (length rows)) None)
  first_push [] y = refl
  first_push (x ∷ rows) y =
      elim (test x) as (λ t. cond t (Some 0) (option_map suc (first_with test (rows ++ y ∷ [])))
      ≡ cond (is_some (cond t (Some x) (row_with test rows))) (cond t (Some 0) (option_map suc (first_with test rows))) (cond (test y) (Some (suc (length rows))) None)) [
        | true ↦ refl
        | false ↦ ap (option_map suc) (first_push rows y) ∙ inside (is_some (row_with test rows)) (first_with test rows) (test y) (length rows)
      ]
    where
      inside : (t : Bool) (o : Option ℕ) (u : Bool) (n : ℕ) → option_map suc (cond t o (cond u (Some n) None)) ≡ cond t (option_map suc o) (cond u (Some (suc n)) None)
      inside true o u n = refl
      inside false o true n = refl
      inside false o false n = refl

  -- one that fails the test is not found
  pub row_push_other : (rows : List R) (y : R) → test y ≡ false → row_with test (rows ++ y ∷ []) ≡ row_with test rows
  row_push_other rows y apart =
      row_push rows y ∙ ap (λ t. cond (is_some (row_with test rows)) (row_with test rows) (cond t (Some y) None)) apart ∙ itself (row_with test rows)
    where
      itself : (o : Option R) → cond (is_some o) o None ≡ o
      itself None = refl
      itself (Some x) = refl

  -- one that shows what stands for a missing row changes nothing that is shown
  pub shown_push : {A : Type 0} (shown : R → A) (rows : List R) (y missing : R) → shown y ≡ shown missing
      → shown (unwrap_or (row_with test (rows ++ y ∷ [])) missing) ≡ shown (unwrap_or (row_with test rows) missing)
  shown_push shown rows y missing same = ap (λ o. shown (unwrap_or o missing)) (row_push rows y) ∙ either (row_with test rows) (test y)
    where
      either : (o : Option R) (t : Bool) → shown (unwrap_or (cond (is_some o) o (cond t (Some y) None)) missing) ≡ shown (unwrap_or o missing)
      either (Some x) t = refl
      either None true = same
      either None false = refl

-- books with the same purchases show the same of each XID
pub booked_same : (l l' : Ledger) → l'.purchases ≡ l.purchases → (xid : List ℕ) → booked_of l' xid ≡ booked_of l xid
booked_same l l' same xid = ap (λ rows. unwrap_or (row_with (of_xid xid) rows) no_purchase) same

-- a purchase in doubt has a row
pub doubt_known : (o : Option Purchase) (amount : ℕ) → (unwrap_or o no_purchase).doubt ≡ Some amount → is_some o ≡ true
doubt_known None amount is = cc
doubt_known (Some p) amount is = refl

-- the message's purchase rewritten
module _ (l : Ledger) (m : Fields) (f : Purchase → Purchase) (keeps : (p : Purchase) → (f p).xid ≡ p.xid) where
  -- it shows what was made of it
  pub booked_here : is_some (purchase_row l m) ≡ true → booked_of (on_purchase m f l) m.xid ≡ f (booked_of l m.xid)
  booked_here known =
      ap (λ o. unwrap_or o no_purchase) (row_update (of_xid m.xid) f (λ p is. ap (λ x. same_bytes x m.xid) (keeps p) ∙ is) l.purchases)
      ∙ some_value (purchase_row l m) f no_purchase known

  -- and any other what it did
  pub booked_elsewhere : (xid : List ℕ) → same_bytes m.xid xid ≡ false → booked_of (on_purchase m f l) xid ≡ booked_of l xid
  booked_elsewhere xid apart = ap (λ o. unwrap_or o no_purchase) (row_update_other (of_xid m.xid) (of_xid xid) f differs l.purchases)
    where
      differs : (p : Purchase) → of_xid m.xid p ≡ true → (of_xid xid p ≡ false) × (of_xid xid (f p) ≡ false)
      differs p is =
          let off : of_xid xid p ≡ false = ap (λ x. same_bytes x xid) (sames_equal p.xid m.xid is) ∙ apart in
          (off, ap (λ x. same_bytes x xid) (keeps p) ∙ off)

  -- every place stays, and each part of a row that is left
  pub place_stays : (xid : List ℕ) → first_with (of_xid xid) (on_purchase m f l).purchases ≡ first_with (of_xid xid) l.purchases
  place_stays xid = first_update (of_xid xid) (of_xid m.xid) f (λ p. ap (λ x. same_bytes x xid) (keeps p)) l.purchases

  pub told_stays : {A : Type 0} (tell : Purchase → A) → ((p : Purchase) → tell (f p) ≡ tell p) → (xid : List ℕ)
      → option_map tell (row_with (of_xid xid) (on_purchase m f l).purchases) ≡ option_map tell (row_with (of_xid xid) l.purchases)
  told_stays tell same xid = part_stays (of_xid xid) (of_xid m.xid) f (λ p. ap (λ x. same_bytes x xid) (keeps p)) tell same l.purchases

-- the row of an XID and its place, with a new purchase behind the others
module _ (l : Ledger) (m : Fields) (xid : List ℕ) where
  pub row_known : is_some (row_with (of_xid xid) l.purchases) ≡ true → row_with (of_xid xid) (add_purchase m l).purchases ≡ row_with (of_xid xid) l.purchases
  row_known known = row_push (of_xid xid) l.purchases (new_purchase m) ∙ cond-true _ _ _ known

  pub place_known : is_some (row_with (of_xid xid) l.purchases) ≡ true → first_with (of_xid xid) (add_purchase m l).purchases ≡ first_with (of_xid xid) l.purchases
  place_known known = first_push (of_xid xid) l.purchases (new_purchase m) ∙ cond-true _ _ _ known

  -- of an XID that was not known, if it is the new purchase's
  module _ (new : is_some (row_with (of_xid xid) l.purchases) ≡ false) (own : same_bytes m.xid xid ≡ true) where
    pub row_new : row_with (of_xid xid) (add_purchase m l).purchases ≡ Some (new_purchase m)
    row_new = row_push (of_xid xid) l.purchases (new_purchase m) ∙ cond-false _ _ _ new ∙ cond-true _ (Some (new_purchase m)) None own

    pub place_new : first_with (of_xid xid) (add_purchase m l).purchases ≡ Some (length l.purchases)
    place_new = first_push (of_xid xid) l.purchases (new_purchase m) ∙ cond-false _ _ _ new ∙ cond-true _ (Some (length l.purchases)) None own

-- the message's batch rewritten, its course and number kept
module _ (l : Ledger) (m : Fields) (f : Batch → Batch) (keeps : (course number : ℕ) (b : Batch) → of_batch course number (f b) ≡ of_batch course number b) where
  -- it shows what was made of it
  pub batch_here : is_some (batch_row l m) ≡ true → batch_under (on_batch m f l) m.course m.batch ≡ f (batch_under l m.course m.batch)
  batch_here known =
      ap (λ o. unwrap_or o no_batch) (row_update (of_batch m.course m.batch) f (λ b is. keeps m.course m.batch b ∙ is) l.batches)
      ∙ some_value (batch_row l m) f no_batch known

  -- and any other what it did
  pub batch_elsewhere : (course number : ℕ) → is_under course number m ≡ false → batch_under (on_batch m f l) course number ≡ batch_under l course number
  batch_elsewhere course number apart = ap (λ o. unwrap_or o no_batch) (row_update_other (of_batch m.course m.batch) (of_batch course number) f differs l.batches)
    where
      differs : (b : Batch) → of_batch m.course m.batch b ≡ true → (of_batch course number b ≡ false) × (of_batch course number (f b) ≡ false)
      differs b is =
          let both = and_parts (eqb b.course m.course) (eqb b.number m.batch) is in
          let off : of_batch course number b ≡ false =
          ap (λ x. eqb x course && eqb b.number number) (eqb-true _ _ both.0) ∙ ap (λ x. eqb m.course course && eqb x number) (eqb-true _ _ both.1) ∙ apart in
          (off, keeps course number b ∙ off)
