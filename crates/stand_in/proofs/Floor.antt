-- Why no row is ever above the floor.
use Rattle.std.proofs.Common.{suc-mul, ◌≡◌, ℕ, ◌+◌, ◌*◌, ◌≤◌, length, sum_by, zero, suc, Bool, true, false, cond, ◌||◌, leb, List, [], ◌∷◌, set, is_some, Some, None, Option, refl, ◌∙◌, sym, subst, arith}
use Rattle.std.proofs.lemmas.Bool.{leb-true, and_from, and_parts, cond_both}
use Rattle.std.proofs.lemmas.Bool.Decides.{nat_tests}
use Rattle.std.proofs.lemmas.List.Sums.{sum_by-cons}
use Rattle.rows.specs.Either.{set_at}
use Rattle.rows.specs.First.{first_with}
use Rattle.host.specs.Parts.{Pence, PutSteps, same_pair}
use Rattle.host.specs.declared.Pair.{Pair}
use Rattle.host.specs.declared.PutReply.{PutReply}
use Rattle.host.specs.declared.PutReply.TheVariants.{Done, Refused, Silent}
use Rattle.stand_in.specs.Floor.{FloorHolds, amount_at, row_within, rows_within}
use Rattle.stand_in.specs.Put.{covered, rows_after, taken}
use Rattle.stand_in.specs.Rows.{is_row, place_for, row_amount, written}
use Rattle.stand_in.specs.Sent.{RowSent, RowsSent, left_of}
use Rattle.stand_in.specs.declared.row.Row.{Row}
use Rattle.stand_in.specs.declared.row.Row.TheVariants.{Free, Stands}

module _ (floor : Pence) where
  set_within : (rows : List Row) (place : ℕ) (y : Row) → rows_within floor rows ≡ true → row_within floor y ≡ true → rows_within floor (set rows place y) ≡ true
  set_within [] place y all here = refl
  set_within (x ∷ xs) zero y all here = and_from _ _ here (and_parts (row_within floor x) (rows_within floor xs) all).1
  set_within (x ∷ xs) (suc place) y all here =
      let parts = and_parts (row_within floor x) (rows_within floor xs) all in
      and_from _ _ parts.0 (set_within xs place y parts.1 here)

  set_at_within : (rows : List Row) (place : Option ℕ) (y : Row) → rows_within floor rows ≡ true → row_within floor y ≡ true → rows_within floor (set_at place y rows) ≡ true
  set_at_within rows None y all here = all
  set_at_within rows (Some place) y all here = set_within rows place y all here

  by_pair : (pair pair' : Pair) (own : Pence) (xs : List Row) (amount : Pence) → leb own floor ≡ true → (covered (row_amount xs pair) amount ≡ true → leb amount floor ≡ true) → covered (row_amount (Stands pair' own ∷ xs) pair) amount ≡ true → leb amount floor ≡ true
  by_pair pair pair' own xs amount low later is = at (same_pair pair' pair) refl
    where
      at : (same : Bool) → same_pair pair' pair ≡ same → leb amount floor ≡ true
      at true e =
          let small : leb amount own ≡ true = rw e at is in
          grind (arith, nat_tests)
      at false e = later (rw e at is)

  -- what is at most the amount of the pair's row is at most the floor
  own_within : (rows : List Row) (pair : Pair) (amount : Pence) → rows_within floor rows ≡ true → covered (row_amount rows pair) amount ≡ true → leb amount floor ≡ true
  own_within [] pair amount all is = absurd (cc)
  own_within (Free ∷ xs) pair amount all is = own_within xs pair amount all is
  own_within (Stands pair' own ∷ xs) pair amount all is =
      let parts = and_parts (leb own floor) (rows_within floor xs) all in
      by_pair pair pair' own xs amount parts.0 (own_within xs pair amount parts.1) is

  taken_within : (rows : List Row) (pair : Pair) (amount : Pence) (below : PutReply) → rows_within floor rows ≡ true → taken rows floor pair amount below ≡ true → leb amount floor ≡ true
  taken_within rows pair amount Done all is = absurd (cc)
  taken_within rows pair amount Refused all is = own_within rows pair amount all is
  taken_within rows pair amount Silent all is = at (leb amount floor) refl
    where
      at : (low : Bool) → leb amount floor ≡ low → low ≡ true
      at true e = refl
      at false e =
          let covered : leb amount floor || covered (row_amount rows pair) amount ≡ true = (and_parts (leb amount floor || covered (row_amount rows pair) amount) (is_some (place_for rows pair)) is).0 in
          sym e ∙ own_within rows pair amount all (rw e at covered)

  written_within : (rows : List Row) (pair : Pair) (amount : Pence) (below : PutReply) → rows_within floor rows ≡ true
      → rows_within floor (cond (taken rows floor pair amount below) (written rows pair amount) rows) ≡ true
  written_within rows pair amount below all =
      cond_both (taken rows floor pair amount below) (written rows pair amount) rows (λ after. rows_within floor after ≡ true)
      (λ is. set_at_within rows (place_for rows pair) (Stands pair amount) all (taken_within rows pair amount below all is)) (λ _. all)

  put_within : (rows : List Row) (pair : Pair) (amount : Pence) (below : PutReply) → rows_within floor rows ≡ true → rows_within floor (rows_after rows floor pair amount below) ≡ true
  put_within rows pair amount Done all = set_at_within rows (first_with (is_row pair) rows) Free all refl
  put_within rows pair amount Refused all = written_within rows pair amount Refused all
  put_within rows pair amount Silent all = written_within rows pair amount Silent all

  left_within : {H : Type 0} (step : PutSteps H) (row : Row) (before : H) (left : Row) (after : H) → RowSent step row before left after → row_within floor row ≡ true → row_within floor left ≡ true
  left_within step Free before left after (same, host) low = rw same refl
  left_within step (Stands pair amount) before left after (reply, made, is) low = rw is (by_reply reply)
    where
      by_reply : (r : PutReply) → row_within floor (left_of r pair amount) ≡ true
      by_reply Done = refl
      by_reply Refused = low
      by_reply Silent = low

  sent_within : {H : Type 0} (step : PutSteps H) (rows : List Row) (before : H) (left : List Row) (after : H) → RowsSent step rows before left after → rows_within floor rows ≡ true → rows_within floor left ≡ true
  sent_within step [] before left after (none, host) all = rw none refl
  sent_within step (row ∷ rows) before left after (first, between, others, one, rest, are) all =
      let parts = and_parts (row_within floor row) (rows_within floor rows) all in
      rw are (and_from _ _ (left_within step row before first between one parts.0) (sent_within step rows between others after rest parts.1))

  low : (row : Row) → row_within floor row ≡ true → amount_at row ≤ floor
  low Free all = omega arith
  low (Stands pair amount) all = leb-true amount floor all

  in_all : (rows : List Row) → rows_within floor rows ≡ true → sum_by amount_at rows ≤ length rows * floor
  in_all [] all = omega arith
  in_all (row ∷ rows) all =
      let parts = and_parts (row_within floor row) (rows_within floor rows) all in
      let more : amount_at row + sum_by amount_at rows ≤ suc (length rows) * floor = omega (arith, low row parts.0, in_all rows parts.1, suc-mul (length rows) floor) in
      subst (λ sum. sum ≤ suc (length rows) * floor) (sym (sum_by-cons amount_at row rows)) more

pub floor_holds : {H : Type 0} (step : PutSteps H) → FloorHolds step
floor_holds step = record {
  at_first = λ floor. refl;
  after_put = λ rows floor pair amount below all. put_within floor rows pair amount below all;
  after_sending = λ floor rows before left after sent all. sent_within floor step rows before left after sent all;
  in_all = λ floor rows all. in_all floor rows all;
}
