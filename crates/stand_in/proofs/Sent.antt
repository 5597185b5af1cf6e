-- Why sending on moves no amount held, and what is sent after each turn of its loop.
use Rattle.std.proofs.Common.{◌≡◌, ℕ, ◌+◌, ◌<◌, ◌≤◌, Bool, true, false, List, [], ◌∷◌, ◌++◌, length, get_or, set, take, drop, Some, sym, refl, ap, ◌∙◌, subst, arith}
use Rattle.std.specs.Option.{unwrap_or}
use Rattle.std.proofs.lemmas.List.{drop_more, drop-set-lt, length-set, take_all, take_more, take_more_set}
use Rattle.host.specs.Meaning.{PutMeans}
use Rattle.host.specs.Parts.{Assents, Holdings, Pence, PutFates, PutSteps, SameHeld, same_pair}
use Rattle.host.specs.declared.Pair.{Pair}
use Rattle.host.specs.declared.PutReply.{PutReply}
use Rattle.host.specs.declared.PutReply.TheVariants.{Done}
use Rattle.host.proofs.Meaning.{done_holds, put_elsewhere, same_pair-true, same_pair_itself}
use Rattle.stand_in.specs.Parts.{stand_in_held}
use Rattle.stand_in.specs.Rows.{amount_in, one_each, row_amount}
use Rattle.stand_in.specs.Sent.{RowSent, RowsSent, SendsRow, SendsRows}
use Rattle.stand_in.specs.declared.row.Row.{Row}
use Rattle.stand_in.specs.declared.row.Row.TheVariants.{Free, Stands}
use Rattle.stand_in.specs.declared.stand_in.StandIn.{StandIn}
use Rattle.stand_in.proofs.Rows.{none_once_dropped, row_at, set_elsewhere}

-- what is held over a host that holds so
abbrev over : Holdings → List Row → Holdings
over held rows pair = unwrap_or (row_amount rows pair) (held pair)

-- the row at a place was put below
module _ {fate : PutFates} {held : Holdings} {assent : Assents} {held' : Holdings} {pair : Pair} {amount : Pence} {reply : PutReply} (means : PutMeans fate held assent held' pair amount reply)
    (rows : List Row) (place : ℕ) (one : one_each rows ≡ true) (within : place < length rows) (stands : get_or rows place Free ≡ Stands pair amount) where
  own : row_amount rows pair ≡ Some amount
  own = ap amount_in (row_at rows place pair amount one within stands)

  -- for its pair, and for any other
  by_pair : (held₁ held₂ : Holdings) → held₁ pair ≡ held₂ pair → ((p : Pair) → same_pair p pair ≡ false → held₁ p ≡ held₂ p) → SameHeld held₁ held₂
  by_pair held₁ held₂ here elsewhere p = at (same_pair p pair) refl
    where
      at : (same : Bool) → same_pair p pair ≡ same → held₁ p ≡ held₂ p
      at true e = subst (λ q. held₁ q ≡ held₂ q) (sym (same_pair-true p pair e)) here
      at false e = elsewhere p e

  -- it stays, and hides what is held below
  pub stays : SameHeld (over held' rows) (over held rows)
  stays = by_pair (over held' rows) (over held rows)
      (ap (λ o. unwrap_or o (held' pair)) own ∙ sym (ap (λ o. unwrap_or o (held pair)) own))
      (λ p other. ap (unwrap_or (row_amount rows p)) (put_elsewhere means p other))

  -- it is done and dropped, and its amount is held below
  pub goes : reply ≡ Done → SameHeld (over held' (set rows place Free)) (over held rows)
  goes done = by_pair (over held' (set rows place Free)) (over held rows)
      (ap (λ o. unwrap_or (amount_in o) (held' pair)) (none_once_dropped rows place pair amount one within stands) ∙ done_holds means done ∙ sym (ap (λ o. unwrap_or o (held pair)) own))
      (λ p other.
      ap (λ o. unwrap_or o (held' p)) (set_elsewhere rows pair place Free p other (rw stands (same_pair_itself pair)) refl)
      ∙ ap (unwrap_or (row_amount rows p)) (put_elsewhere means p other))

module _ {H : Type 0} (step : PutSteps H) where
  -- one more row, after the others
  pub sent_more : (rows : List Row) (before : H) (left : List Row) (between : H) (row : Row) (last : Row) (after : H) → RowsSent step rows before left between → RowSent step row between last after → RowsSent step (rows ++ row ∷ []) before (left ++ last ∷ []) after
  sent_more [] before left between row last after (none, same) sent =
      (last, after, [], subst (λ h. RowSent step row h last after) same sent, (refl, refl), ap (λ rows. rows ++ last ∷ []) none)
  sent_more (first ∷ rows) before left between row last after (kept, first_after, others, one, rest, are) sent =
      (kept, first_after, others ++ last ∷ [], one, sent_more rows first_after others between row last after rest sent, ap (λ rows. rows ++ last ∷ []) are)

  -- the rows before a place are sent, and those from it on are as they were
  pub record SentSoFar (held : H → Holdings) (place : ℕ) (before after : StandIn H) : Type 0 where
    pub sent : RowsSent step (take place before.rows) before.below (take place after.rows) after.below
    pub rest : drop place after.rows ≡ drop place before.rows
    pub long : length after.rows ≡ length before.rows
    pub floor : after.floor ≡ before.floor
    pub holds : SameHeld (stand_in_held held after) (stand_in_held held before)

  pub sent_turn : (held : H → Holdings) (place : ℕ) (before between after : StandIn H) → place < length between.rows → SentSoFar held place before between → SendsRow step place between after
      → SameHeld (stand_in_held held after) (stand_in_held held between) → SentSoFar held (place + 1) before after
  sent_turn held place before between after within s turn holds =
      let inside : place < length before.rows = omega (arith, within, s.long) in
      let tails : get_or between.rows place Free ∷ drop (place + 1) between.rows ≡ get_or before.rows place Free ∷ drop (place + 1) before.rows =
      sym (drop_more between.rows place Free within) ∙ s.rest ∙ drop_more before.rows place Free inside in
      let same : get_or between.rows place Free ≡ get_or before.rows place Free = cc in
      let more = sent_more (take place before.rows) before.below (take place between.rows) between.below (get_or between.rows place Free) turn.left after.below s.sent turn.sent in
      record {
        sent =
            subst (λ rows. RowsSent step rows before.below (take (place + 1) after.rows) after.below) (sym (take_more before.rows place Free inside ∙ ap (λ row. take place before.rows ++ row ∷ []) (sym same)))
            (subst (λ rows. RowsSent step (take place before.rows ++ get_or between.rows place Free ∷ []) before.below rows after.below) (sym (ap (take (place + 1)) turn.rows ∙ take_more_set between.rows place turn.left within)) more);
        rest = ap (drop (place + 1)) turn.rows ∙ drop-set-lt (place + 1) between.rows place turn.left (omega arith) ∙ cc;
        long = ap length turn.rows ∙ length-set between.rows place turn.left ∙ s.long;
        floor = turn.floor ∙ s.floor;
        holds = λ pair. holds pair ∙ s.holds pair;
      }

  -- and at the end all are
  pub sent_all : (held : H → Holdings) (place : ℕ) (before after : StandIn H) → length before.rows ≤ place → SentSoFar held place before after → SendsRows step before after
  sent_all held place before after end s = record {
    rows =
        subst (λ rows. RowsSent step rows before.below after.rows after.below) (take_all place before.rows end)
        (subst (λ rows. RowsSent step (take place before.rows) before.below rows after.below) (take_all place after.rows (omega (arith, s.long, end))) s.sent);
    floor = s.floor;
  }
