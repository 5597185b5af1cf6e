-- Why a stand-in's put has the meaning of a host, by what was answered below.
use Rattle.std.proofs.Common.{◌≡◌, Bool, true, false, ◌||◌, leb, List, Some, None, Option, sym, refl, ap, ◌∙◌, arith}
use Rattle.std.specs.Option.{unwrap_or}
use Rattle.std.proofs.lemmas.Bool.{and_parts, cond-true, cond_both, or_parts}
use Rattle.std.proofs.lemmas.Bool.Decides.{nat_tests}
use Rattle.host.specs.Meaning.{PutMeans, held_after, put_answer, put_held, put_reply}
use Rattle.host.specs.Parts.{Assents, Holdings, Pence, PutFates, same_pair}
use Rattle.host.specs.declared.Fate.{Fate}
use Rattle.host.specs.declared.Pair.{Pair}
use Rattle.host.specs.declared.PutReply.{PutReply}
use Rattle.host.specs.declared.PutReply.TheVariants.{Done, Refused, Silent}
use Rattle.host.proofs.Meaning.{done_holds, held_by_pair, put_elsewhere, put_here, put_means, refused_keeps, said_as}
use Rattle.stand_in.specs.Put.{answer_to, assent_to, fate_of, rows_after, taken}
use Rattle.stand_in.specs.Rows.{one_each, row_amount, written}
use Rattle.stand_in.specs.declared.row.Row.{Row}
use Rattle.stand_in.proofs.Rows.{dropped_elsewhere, dropped_here, own_place, written_elsewhere, written_here}

-- a put that is heard and has assent is done
raised : (held amount : Pence) → leb amount held || true ≡ true
raised held amount = grind (arith, nat_tests)

module _ {fate : PutFates} {held : Holdings} {assent : Assents} {held' : Holdings} {pair : Pair} {amount : Pence} {below : PutReply} (means : PutMeans fate held assent held' pair amount below) (rows : List Row) (floor : Pence) (one : one_each rows ≡ true) where
  -- what is held before and after, and what becomes of the put
  abbrev before : Holdings
  before pair' = unwrap_or (row_amount rows pair') (held pair')

  abbrev after : PutReply → Holdings
  after r pair' = unwrap_or (row_amount (rows_after rows floor pair amount r) pair') (held' pair')

  -- the answer and what is held for the pair, by the answer below
  record Right (r : PutReply) : Type 0 where
    answer : answer_to rows floor pair amount r ≡ put_reply (fate_of rows floor pair amount r (fate pair amount)) (before pair) (assent_to rows floor pair amount r (assent pair amount)) amount
    here : after r pair ≡ put_held (fate_of rows floor pair amount r (fate pair amount)) (before pair) (assent_to rows floor pair amount r (assent pair amount)) amount

  done : below ≡ Done → Right Done
  done is = record {
    answer = sym (cond-true _ Done Refused (raised (before pair) amount));
    here =
        ap (λ own. unwrap_or own (held' pair)) (dropped_here rows pair one) ∙ done_holds means is
        ∙ sym (cond-true _ amount (before pair) (raised (before pair) amount));
  }

  -- refused below: it is no raise of the row, or nothing moves
  refused : below ≡ Refused → Right Refused
  refused is = by_row (row_amount rows pair) refl
    where
      by_row : (own : Option Pence) → row_amount rows pair ≡ own → Right Refused
      by_row None none =
          let raise : leb amount (held pair) ≡ false = (or_parts (leb amount (held pair)) (assent pair amount) (said_as means Refused is).1).0 in
          record {
            answer = rw (none, raise) refl;
            here = rw (none, raise) (ap (λ own. unwrap_or own (held' pair)) none ∙ refused_keeps means is);
          }
      by_row (Some own) some = by_size (leb amount own) refl
        where
          by_size : (small : Bool) → leb amount own ≡ small → Right Refused
          by_size true e = record {
            answer = rw (some, e) refl;
            here = rw (some, e) (ap (λ own. unwrap_or own (held' pair)) (written_here rows pair amount (own_place rows pair own some)));
          }
          by_size false e = record {
            answer = rw (some, e) refl;
            here = rw (some, e) (ap (λ own. unwrap_or own (held' pair)) some);
          }

  -- silent below: it is covered, or else nothing moves where the pair has a row, and below what may
  silent : below ≡ Silent → Right Silent
  silent is = by_cover (taken rows floor pair amount Silent) refl
    where
      by_row : taken rows floor pair amount Silent ≡ false → (own : Option Pence) → row_amount rows pair ≡ own → Right Silent
      by_row bare (Some own) some = record {
        answer = rw (bare, some) refl;
        here = rw (bare, some) refl;
      }
      by_row bare None none = record {
        answer = rw (bare, none) (sym is ∙ means.reply);
        here = rw (bare, none) (put_here means);
      }

      by_cover : (covered : Bool) → taken rows floor pair amount Silent ≡ covered → Right Silent
      by_cover true e = record {
        answer = rw e (sym (cond-true _ Done Refused (raised (before pair) amount)));
        here = rw e
            (ap (λ own. unwrap_or own (held' pair)) (written_here rows pair amount (and_parts _ _ e).1)
            ∙ sym (cond-true _ amount (before pair) (raised (before pair) amount)));
      }
      by_cover false e = by_row e (row_amount rows pair) refl

  right : (r : PutReply) → below ≡ r → Right r
  right Done is = done is
  right Refused is = refused is
  right Silent is = silent is

  -- no other pair's row is touched
  rows_elsewhere : (r : PutReply) (pair' : Pair) → same_pair pair' pair ≡ false → row_amount (rows_after rows floor pair amount r) pair' ≡ row_amount rows pair'
  rows_elsewhere Done pair' other = dropped_elsewhere rows pair pair' other
  rows_elsewhere Refused pair' other =
      cond_both (taken rows floor pair amount Refused) (written rows pair amount) rows (λ after. row_amount after pair' ≡ row_amount rows pair')
      (λ _. written_elsewhere rows pair amount pair' other) (λ _. refl)
  rows_elsewhere Silent pair' other =
      cond_both (taken rows floor pair amount Silent) (written rows pair amount) rows (λ after. row_amount after pair' ≡ row_amount rows pair')
      (λ _. written_elsewhere rows pair amount pair' other) (λ _. refl)

  elsewhere : (pair' : Pair) → same_pair pair' pair ≡ false → after below pair' ≡ before pair'
  elsewhere pair' other =
      ap (λ own. unwrap_or own (held' pair')) (rows_elsewhere below pair' other)
      ∙ ap (unwrap_or (row_amount rows pair')) (put_elsewhere means pair' other)

  -- the parts that the stand-in goes by, by what the host below would answer
  abbrev fates : PutFates
  fates p a = fate_of rows floor p a (put_answer fate held assent p a) (fate p a)

  abbrev assents : Assents
  assents p a = assent_to rows floor p a (put_answer fate held assent p a) (assent p a)

  pub stand_in_put : (rows' : List Row) → rows' ≡ rows_after rows floor pair amount below → (r : PutReply) → r ≡ answer_to rows floor pair amount below
      → PutMeans fates before assents (λ p. unwrap_or (row_amount rows' p) (held' p)) pair amount r
  stand_in_put rows' are r is =
      let by : PutReply → Fate = λ q. fate_of rows floor pair amount q (fate pair amount) in
      let says : PutReply → Bool = λ q. assent_to rows floor pair amount q (assent pair amount) in
      let sound = right below refl in
      put_means fates before assents _ pair amount r
      (is ∙ sound.answer ∙ ap (λ q. put_reply (by q) (before pair) (says q) amount) means.reply)
      (λ p. ap (λ rows. unwrap_or (row_amount rows p) (held' p)) are
      ∙ held_by_pair before (after below) pair _ sound.here elsewhere p
      ∙ ap (λ q. held_after before pair (put_held (by q) (before pair) (says q) amount) p) means.reply)
