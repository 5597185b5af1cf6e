-- Why the rows of a voucher drawer hold what the host's meaning says once an amount is written.
use Rattle.std.proofs.Common.{◌≡◌, ℕ, Bool, true, false, eqb, List, [], ◌∷◌, map, Some, None, Option, sym, refl, ap, ◌∙◌, subst, arith}
use Rattle.std.specs.Option.{option_map}
use Rattle.std.proofs.lemmas.Bool.{cond_both}
use Rattle.std.proofs.lemmas.Bool.Decides.{nat_tests}
use Rattle.rows.specs.First.{row_with, Found, FirstOrNone}
use Rattle.rows.proofs.First.{row_found, row_none, row_update, row_update_other}
use Rattle.host.specs.Parts.{ReferenceNumber, Pence, HoldsNothing, SameHeld, same_card, same_pair}
use Rattle.host.specs.Meaning.{grants, held_after}
use Rattle.host.specs.declared.Card.{Card}
use Rattle.host.specs.declared.Pair.{Pair}
use Rattle.host.proofs.Meaning.{held_by_pair, same_card-true}
use Rattle.hosts.specs.Drawer.{is_voucher, FoundAt, unused, held_under, raisable, changed, drawer_holds, drawer_assents, vouchers_written}
use Rattle.hosts.specs.Keeper.{granted}
use Rattle.hosts.specs.declared.voucher_drawer.Voucher.{Voucher}

abbrev pub no_voucher : Voucher
no_voucher = record { card = record { number = 0 }; face = 0; reference = 0; held = 0 }

-- what a search for a card's voucher answers, for one that holds on to it
pub found_at : (vouchers : List Voucher) (card : Card) (answer : Option ℕ) → FirstOrNone (is_voucher card) vouchers answer → FoundAt vouchers card answer
found_at vouchers card None every =
    record { found = λ place is. absurd (cc); voucher = λ place d is. absurd (cc); none = λ is. row_none (is_voucher card) vouchers every; absent = λ is. every }
found_at vouchers card (Some at) found =
    record {
      found = λ place is. subst (Found (is_voucher card) vouchers) (same at place is) found;
      voucher = λ place d is. row_found (is_voucher card) vouchers place d (subst (Found (is_voucher card) vouchers) (same at place is) found);
      none = λ is. absurd (cc);
      absent = λ is. absurd (cc);
    }
  where
    same : (a b : ℕ) → Some a ≡ Some b → a ≡ b
    same a b is = cc

module _ (reference : ReferenceNumber) (amount : Pence) where
  changed_card : (voucher : Voucher) → (changed reference amount voucher).card ≡ voucher.card
  changed_card voucher = grind (arith, nat_tests)

  changed_here : (first : Option Voucher) → grants (held_under reference first) (raisable reference amount first) amount ≡ true → held_under reference (option_map (changed reference amount) first) ≡ amount
  changed_here None granted = grind (arith, nat_tests)
  changed_here (Some voucher) granted = grind (arith, nat_tests)

  changed_elsewhere : (reference' : ReferenceNumber) → eqb reference' reference ≡ false → (first : Option Voucher) → grants (held_under reference first) (raisable reference amount first) amount ≡ true → held_under reference' (option_map (changed reference amount) first) ≡ held_under reference' first
  changed_elsewhere reference' other None granted = refl
  changed_elsewhere reference' other (Some voucher) granted = grind (arith, nat_tests)

module _ (vouchers : List Voucher) (pair : Pair) (amount : Pence) where
  abbrev first : Option Voucher
  first = row_with (is_voucher pair.card) vouchers

  abbrev after : List Voucher
  after = vouchers_written vouchers pair amount

  first_after : row_with (is_voucher pair.card) after ≡ option_map (changed pair.reference amount) first
  first_after =
      row_update (is_voucher pair.card) (changed pair.reference amount) (λ voucher e. rw (changed_card pair.reference amount voucher) e) vouchers

  module _ (granted : grants (held_under pair.reference first) (raisable pair.reference amount first) amount ≡ true) where
    here : drawer_holds after pair ≡ amount
    here = ap (held_under pair.reference) first_after ∙ changed_here pair.reference amount first granted

    elsewhere : (pair' : Pair) → same_pair pair' pair ≡ false → drawer_holds after pair' ≡ drawer_holds vouchers pair'
    elsewhere pair' other = by_card (same_card pair'.card pair.card) refl
      where
        by_card : (same : Bool) → same_card pair'.card pair.card ≡ same → drawer_holds after pair' ≡ drawer_holds vouchers pair'
        by_card true e =
            let apart : eqb pair'.reference pair.reference ≡ false = grind (arith, nat_tests) in
            subst (λ (c : Card). held_under pair'.reference (row_with (is_voucher c) after) ≡ held_under pair'.reference (row_with (is_voucher c) vouchers)) (sym (same_card-true pair'.card pair.card e))
            (ap (held_under pair'.reference) first_after ∙ changed_elsewhere pair.reference amount pair'.reference apart first granted)
        by_card false e = ap (held_under pair'.reference) (row_update_other (is_voucher pair.card) (is_voucher pair'.card) (changed pair.reference amount) others vouchers)
          where
            others : (voucher : Voucher) → is_voucher pair.card voucher ≡ true → (is_voucher pair'.card voucher ≡ false) × (is_voucher pair'.card (changed pair.reference amount voucher) ≡ false)
            others voucher mine =
                let not_its : is_voucher pair'.card voucher ≡ false = grind (arith, nat_tests) in
                (not_its, rw (changed_card pair.reference amount voucher) not_its)

-- so the voucher written, if it was granted, holds the amount for the pair, and nothing else moves
pub written_holds : (vouchers after : List Voucher) (pair : Pair) (amount : Pence) → granted (drawer_holds vouchers) (drawer_assents vouchers) pair amount ≡ true → after ≡ vouchers_written vouchers pair amount → SameHeld (drawer_holds after) (held_after (drawer_holds vouchers) pair amount)
written_holds vouchers after pair amount may rows =
    rw rows
    (held_by_pair (drawer_holds vouchers) (drawer_holds (vouchers_written vouchers pair amount)) pair amount
    (here vouchers pair amount may) (elsewhere vouchers pair amount may))

-- vouchers that were never used hold nothing
pub unused_holds_nothing : (vouchers : List Voucher) → HoldsNothing (drawer_holds (map unused vouchers))
unused_holds_nothing [] pair = refl
unused_holds_nothing (voucher ∷ vouchers) pair =
    let none : held_under pair.reference (Some (unused voucher)) ≡ 0 = grind (arith, nat_tests) in
    cond_both (is_voucher pair.card voucher) (Some (unused voucher)) (row_with (is_voucher pair.card) (map unused vouchers)) (λ found. held_under pair.reference found ≡ 0)
    (λ _. none) (λ _. unused_holds_nothing vouchers pair)
