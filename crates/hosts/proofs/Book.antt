-- Why the rows of an account book hold what the host's meaning says once an amount is written.
use Rattle.std.proofs.Common.{◌≡◌, ℕ, zero, suc, Bool, true, false, cond, ◌||◌, eqb, leb, List, map, get_or, set, replicate, is_some, Some, None, Option, sym, refl, ap, ◌∙◌, inl, inr, arith}
use Rattle.std.proofs.lemmas.Bool.{and_parts, both_ways, cond-false, cond_both, eqb-true}
use Rattle.std.proofs.lemmas.Bool.Decides.{nat_tests}
use Rattle.rows.specs.Either.{set_at}
use Rattle.rows.specs.First.{first_with}
use Rattle.rows.proofs.Either.{Placed, placed, placed_elsewhere, placed_here, unplaced, within_placed}
use Rattle.rows.proofs.First.{none_of_first, row_found, row_none, row_map_other, row_map_none}
use Rattle.host.specs.Parts.{Pence, HoldsNothing, SameHeld, same_pair}
use Rattle.host.specs.Meaning.{grants, held_after}
use Rattle.host.specs.declared.Pair.{Pair}
use Rattle.host.proofs.Meaning.{held_by_pair}
use Rattle.hosts.specs.Book.{is_free, is_hold, free_hold, freed, amount_of, held_in, place_for, PlacedAt, book_assents, written}
use Rattle.hosts.specs.Keeper.{granted}
use Rattle.hosts.specs.declared.account_book.Account.{Account}
use Rattle.hosts.specs.declared.account_book.Hold.{Hold}

-- a row stands for one pair at most
one_pair : (pair pair' : Pair) (hold : Hold) → same_pair pair' pair ≡ false → is_hold pair hold ≡ true → is_hold pair' hold ≡ false
one_pair pair pair' hold other stands = grind (arith, nat_tests)

free_stands_not : (pair : Pair) (hold : Hold) → is_free hold ≡ true → is_hold pair hold ≡ false
free_stands_not pair hold free = grind (arith, nat_tests)

new_stands : (pair : Pair) (amount : Pence) → eqb amount 0 ≡ false → is_hold pair (record { pair = pair; amount = amount }) ≡ true
new_stands pair amount some = grind (arith, nat_tests)

module _ (holds : List Hold) (pair : Pair) where
  abbrev At : ℕ → Type 0
  At = Placed (is_hold pair) is_free holds

  -- what is held stands at the place for the pair
  in_placed : (place : ℕ) (d : Hold) → At place → held_in holds pair ≡ (get_or holds place d).amount
  in_placed place d (inl own) = ap amount_of (row_found (is_hold pair) holds place d own)
  in_placed place d (inr free) =
      ap amount_of (row_none (is_hold pair) holds free.0) ∙ sym (eqb-true (get_or holds place d).amount 0 (free.1.passes d))

  at : (place : ℕ) → place_for holds pair ≡ Some place → At place
  at = placed (is_hold pair) is_free holds

  pub placed_at : (answer : Option ℕ) → answer ≡ place_for holds pair → PlacedAt holds pair answer
  placed_at answer is = record {
    place = is;
    within = λ place here. within_placed (is_hold pair) is_free holds place (at place (sym is ∙ here));
    held = λ place d here. in_placed place d (at place (sym is ∙ here));
    nothing = λ none. ap amount_of (row_none (is_hold pair) holds (unplaced (is_hold pair) is_free holds (sym is ∙ none)));
  }

  -- a done put above 0 has a place
  has_place : (assent : Bool) (amount : Pence) → (assent ≡ true → is_some (place_for holds pair) ≡ true) → eqb amount 0 ≡ false → grants (held_in holds pair) assent amount ≡ true → is_some (place_for holds pair) ≡ true
  has_place assent amount room some granted = by_row (first_with (is_hold pair) holds) refl
    where
      by_row : (own : Option ℕ) → first_with (is_hold pair) holds ≡ own → is_some (place_for holds pair) ≡ true
      by_row (Some place) e = rw e refl
      by_row None e =
          let nothing : held_in holds pair ≡ 0 = ap amount_of (row_none (is_hold pair) holds (none_of_first (is_hold pair) holds e)) in
          let raised : leb amount 0 || assent ≡ true = rw nothing at granted in
          room (grind (arith, nat_tests))

  module _ (amount : Pence) where
    abbrev new : Hold
    new = record { pair = pair; amount = amount }

    set_here : (place : ℕ) → At place → eqb amount 0 ≡ false → held_in (set holds place new) pair ≡ amount
    set_here place stood some = ap amount_of (placed_here (is_hold pair) is_free holds place new stood (new_stands pair amount some))

    set_elsewhere : (place : ℕ) → At place → (pair' : Pair) → same_pair pair' pair ≡ false → held_in (set holds place new) pair' ≡ held_in holds pair'
    set_elsewhere place stood pair' other =
        ap amount_of
        (placed_elsewhere (is_hold pair) is_free holds (is_hold pair') (λ hold. one_pair pair pair' hold other) (free_stands_not pair') place new stood (grind (arith, nat_tests)))

  cleared : (hold : Hold) → is_hold pair (freed pair hold) ≡ false
  cleared hold = at (is_hold pair hold) refl
    where
      at : (stands : Bool) → is_hold pair hold ≡ stands → is_hold pair (cond stands free_hold hold) ≡ false
      at true e = refl
      at false e = e

  free_here : held_in (map (freed pair) holds) pair ≡ 0
  free_here = ap amount_of (row_map_none (is_hold pair) (freed pair) cleared holds)

  free_elsewhere : (pair' : Pair) → same_pair pair' pair ≡ false → held_in (map (freed pair) holds) pair' ≡ held_in holds pair'
  free_elsewhere pair' other =
      ap amount_of (row_map_other (is_hold pair') (freed pair) keeps fails holds)
    where
      keeps : (hold : Hold) → is_hold pair' hold ≡ true → freed pair hold ≡ hold
      keeps hold stands =
          let apart : is_hold pair hold ≡ false = grind (arith, nat_tests) in
          cond-false (is_hold pair hold) free_hold hold apart

      fails : (hold : Hold) → is_hold pair' hold ≡ false → is_hold pair' (freed pair hold) ≡ false
      fails hold e = cond_both (is_hold pair hold) free_hold hold (λ h. is_hold pair' h ≡ false) (λ _. refl) (λ _. e)

  -- a done put
  written_here : (amount : Pence) → (eqb amount 0 ≡ false → is_some (place_for holds pair) ≡ true) → held_in (written holds pair amount) pair ≡ amount
  written_here amount room = by_amount (eqb amount 0) refl
    where
      by_place : eqb amount 0 ≡ false → (place : Option ℕ) → place_for holds pair ≡ place → held_in (set_at place (new amount) holds) pair ≡ amount
      by_place some (Some place) e = set_here amount place (at place e) some
      by_place some None e = absurd (both_ways _ (ap is_some e) (room some))

      by_amount : (none : Bool) → eqb amount 0 ≡ none → held_in (cond none (map (freed pair) holds) (set_at (place_for holds pair) (new amount) holds)) pair ≡ amount
      by_amount true e = free_here ∙ sym (eqb-true amount 0 e)
      by_amount false e = by_place e (place_for holds pair) refl

  written_elsewhere : (amount : Pence) (pair' : Pair) → same_pair pair' pair ≡ false → held_in (written holds pair amount) pair' ≡ held_in holds pair'
  written_elsewhere amount pair' other = by_amount (eqb amount 0)
    where
      by_place : (place : Option ℕ) → place_for holds pair ≡ place → held_in (set_at place (new amount) holds) pair' ≡ held_in holds pair'
      by_place (Some place) e = set_elsewhere amount place (at place e) pair' other
      by_place None e = refl

      by_amount : (none : Bool) → held_in (cond none (map (freed pair) holds) (set_at (place_for holds pair) (new amount) holds)) pair' ≡ held_in holds pair'
      by_amount true = free_elsewhere pair' other
      by_amount false = by_place (place_for holds pair) refl

-- so what is written, if it was granted, holds the amount for the pair, and nothing else moves
pub written_holds : (accounts : List Account) (holds after : List Hold) (pair : Pair) (amount : Pence) → granted (held_in holds) (book_assents accounts holds) pair amount ≡ true → after ≡ written holds pair amount → SameHeld (held_in after) (held_after (held_in holds) pair amount)
written_holds accounts holds after pair amount may rows =
    rw rows
    (held_by_pair (held_in holds) (held_in (written holds pair amount)) pair amount
    (written_here holds pair amount (λ some. has_place holds pair (book_assents accounts holds pair amount) amount (λ assent. (and_parts _ _ assent).1) some may))
    (written_elsewhere holds pair amount))

-- rows that are all free hold nothing
pub free_holds_nothing : (n : ℕ) → HoldsNothing (held_in (replicate n free_hold))
free_holds_nothing zero pair = refl
free_holds_nothing (suc n) pair = free_holds_nothing n pair
