-- The round trip: opening and writing are each other's inverse.
use Rattle.std.proofs.Common.{◌≡◌, ℕ, zero, suc, ◌^◌, ◌<◌, ◌≤◌, Bool, true, false, cond, not, ◌&&◌, ltb, leb, List, [], ◌++◌, length, get_or, take, drop, replicate, Some, None, Ok, Err, Option, Result, sym, refl, ap, ◌∙◌, mod-eq_of_lt, arith}
use Rattle.std.specs.Int.Digits.{number_from_digits, digits_of, AllBelowBase}
use Rattle.std.proofs.ByRecursion.{All-take, All-drop}
use Rattle.std.proofs.lemmas.List.{get_or-take, get_or-drop, take_at}
use Rattle.std.proofs.lemmas.Bool.{and_parts, not-false, cond-true, leb-true, ltb-true, eq-eqb, not-true, false≢true, or_from, le-ltb}
use Rattle.wire.specs.Bytes.{bytes_of}
use Rattle.wire.specs.Card.{is_card, well_packed, card_number, packed}
use Rattle.wire.specs.Checks.{first_failing, unless}
use Rattle.fields.specs.Field.{width, stands, place, length_under}
use Rattle.fields.specs.Kind.{is_kind, map_of, length_of, amount_allowed, amount_bounds, kind_from}
use Rattle.fields.proofs.Bounds.{most_amount}
use Rattle.wire.specs.Layout.{pieces, laid, piece_in}
use Rattle.wire.specs.Opening.{map_in, kind_in, reserved, opening_checks, message_in, opening}
use Rattle.wire.specs.Buffer.{over_front, length_written}
use Rattle.wire.specs.RoundTrip.{Message, Iff, RoundTrip, OpeningInverts, WritingInverts}
use Rattle.wire.specs.Writing.{trimmed, writing_checks, parts_of, bytes_for, writing, writing_into}
use Rattle.wire.specs.declared.message.Fields.{Fields}
use Rattle.wire.proofs.Chains.{none_fails, passes, last_passes}
use Rattle.wire.proofs.Inverse.{laid_read, found_again, map_again}
use Rattle.wire.proofs.Laying.{Sized, length_laid}
use Rattle.wire.proofs.Numbers.{number_bytes_of, bytes_of_number}
use Rattle.wire.proofs.Opens.{Passed, passed, kind_read, accepted_is}
use Rattle.wire.proofs.Packing.{packed_number, packed_ten, packed_well, number_packed}
use Rattle.wire.proofs.Pieces.{piece_long, piece_there, piece_lacking, number_zeros}
use Rattle.fields.proofs.Places.{reserved_width}

-- what went through gives the value, and no check failed
pub went_through : {A : Type 0} (o : Option ℕ) (x y : A) → unless o x ≡ Ok y → (o ≡ None) × (x ≡ y)
went_through None x y is = (refl, cc)
went_through (Some n) x y is = let z : ◌≡◌ {A = ℕ} 0 1 = cc in absurd (omega arith)

-- what holds of the map of each kind, as one test that is computed at each
abbrev good_map : ℕ → Bool
good_map k =
    ltb (map_of k) 65536 && (stands (map_of k) 0 && (stands (map_of k) 1 && (stands (map_of k) 2 && (not (stands (map_of k) 7) && (not (reserved (map_of k)) && leb 3 (length_of k))))))

kind_has_good_map : (k : ℕ) → is_kind k ≡ true → good_map k ≡ true
kind_has_good_map zero is = absurd (false≢true is)
kind_has_good_map (suc zero) is = refl
kind_has_good_map (suc (suc zero)) is = refl
kind_has_good_map (suc (suc (suc zero))) is = refl
kind_has_good_map (suc (suc (suc (suc zero)))) is = refl
kind_has_good_map (suc (suc (suc (suc (suc zero))))) is = refl
kind_has_good_map (suc (suc (suc (suc (suc (suc zero)))))) is = refl
kind_has_good_map (suc (suc (suc (suc (suc (suc (suc zero))))))) is = refl
kind_has_good_map (suc (suc (suc (suc (suc (suc (suc (suc zero)))))))) is = refl
kind_has_good_map (suc (suc (suc (suc (suc (suc (suc (suc (suc zero))))))))) is = refl
kind_has_good_map (suc (suc (suc (suc (suc (suc (suc (suc (suc (suc n)))))))))) is =
    let k = suc (suc (suc (suc (suc (suc (suc (suc (suc (suc n))))))))) in
    absurd (omega (arith, leb-true k 9 (and_parts (leb 1 k) (leb k 9) is).1))

pub record KindMap (k : ℕ) : Type 0 where
  pub small : map_of k < 2 ^ 16
  pub kind : stands (map_of k) 0 ≡ true
  pub request : stands (map_of k) 1 ≡ true
  pub course : stands (map_of k) 2 ≡ true
  pub code : stands (map_of k) 7 ≡ false
  pub plain : reserved (map_of k) ≡ false
  pub long : 3 ≤ length_of k

kind_map : (k : ℕ) → is_kind k ≡ true → KindMap k
kind_map k is =
    let a = and_parts (ltb (map_of k) 65536) _ (kind_has_good_map k is) in
    let b = and_parts (stands (map_of k) 0) _ a.1 in
    let c = and_parts (stands (map_of k) 1) _ b.1 in
    let d = and_parts (stands (map_of k) 2) _ c.1 in
    let e = and_parts (not (stands (map_of k) 7)) (not (reserved (map_of k)) && leb 3 (length_of k)) d.1 in
    let f = and_parts (not (reserved (map_of k))) (leb 3 (length_of k)) e.1 in
    record {
      small = ltb-true (map_of k) 65536 a.0;
      kind = b.0;
      request = c.0;
      course = d.0;
      code = not-true _ e.0;
      plain = not-true _ f.0;
      long = leb-true 3 (length_of k) f.1;
    }

-- a message that was opened is written as the bytes that it was opened from
module _ (b : List ℕ) (bytes : AllBelowBase 256 b) (none : first_failing (opening_checks b) ≡ None) where
  ok : Passed b
  ok = passed b none

  own_map : map_of (message_in b).kind ≡ map_in b
  own_map = ap map_of (kind_read b ok) ∙ sym ok.mapped

  long : length b ≡ length_under (map_in b)
  long = ok.size ∙ ap length_under (sym ok.mapped)

  abbrev at : ℕ → List ℕ
  at n = take (width n) (drop (place (map_in b) n) b)

  number_again : (n : ℕ) → n < 16 → stands (map_in b) n ≡ true → bytes_of (width n) (number_from_digits 256 (piece_in (map_in b) b n)) ≡ at n
  number_again n within there =
      let under : AllBelowBase 256 (at n) = All-take (λ x. x < 256) (width n) (drop (place (map_in b) n) b) (All-drop (λ x. x < 256) (place (map_in b) n) b bytes) in
      bytes_of_number (width n) (piece_in (map_in b) b n) (piece_long (map_in b) b n within long) (rw (piece_there (map_in b) b n there) under)
      ∙ piece_there (map_in b) b n there

  card_again : stands (map_in b) 4 ≡ true → cond (stands (map_of (message_in b).kind) 4) (packed (message_in b).card) (replicate 10 0) ≡ at 4
  card_again there =
      let well : well_packed (piece_in (map_in b) b 4) ≡ true = not-false _ (sym (ap (λ s. s && not (well_packed (piece_in (map_in b) b 4))) there) ∙ ok.card) in
      cond-true (stands (map_of (message_in b).kind) 4) _ _ (ap (λ x. stands x 4) own_map ∙ there)
      ∙ packed_number (piece_in (map_in b) b 4) (piece_long (map_in b) b 4 (omega arith) long) well
      ∙ piece_there (map_in b) b 4 there

  agree : (n : ℕ) → stands (map_in b) n ≡ true → get_or (pieces (parts_of (message_in b))) n [] ≡ at n
  agree zero there = number_again 0 (omega arith) there
  agree (suc zero) there = number_again 1 (omega arith) there
  agree (suc (suc zero)) there = number_again 2 (omega arith) there
  agree (suc (suc (suc zero))) there = piece_there (map_in b) b 3 there
  agree (suc (suc (suc (suc zero)))) there = card_again there
  agree (suc (suc (suc (suc (suc zero))))) there = number_again 5 (omega arith) there
  agree (suc (suc (suc (suc (suc (suc zero)))))) there = number_again 6 (omega arith) there
  agree (suc (suc (suc (suc (suc (suc (suc zero))))))) there =
      absurd (false≢true (sym (kind_map (kind_in b) ok.kind).code ∙ ap (λ x. stands x 7) (sym ok.mapped) ∙ there))
  agree (suc (suc (suc (suc (suc (suc (suc (suc n)))))))) there =
      sym (ap (λ w. take w (drop (place (map_in b) (suc (suc (suc (suc (suc (suc (suc (suc n))))))))) b)) (reserved_width n))

  written_again : writing (message_in b) ≡ Ok b
  written_again =
      ap (λ o. unless o (bytes_for (message_in b))) (accepted_is b ok)
      ∙ ap Ok (ap (λ x. laid x (parts_of (message_in b))) own_map ∙ laid_read (map_in b) (parts_of (message_in b)) b agree refl long bytes)

-- a message that was written is opened from the bytes that it was written as
module _ (m : Fields) (msg : Message m) (none : first_failing (writing_checks m) ≡ None) where
  abbrev map : ℕ
  map = map_of m.kind

  abbrev b : List ℕ
  b = bytes_for m

  kind_known : is_kind m.kind ≡ true
  kind_known = not-false _ (none_fails (writing_checks m) none 0)

  own : KindMap m.kind
  own = kind_map m.kind kind_known

  card_known : stands map 4 ≡ true → is_card (digits_of 10 m.card) ≡ true
  card_known there = not-false _ (sym (ap (λ s. s && not (is_card (digits_of 10 m.card))) there) ∙ none_fails (writing_checks m) none 1)

  allowed : amount_allowed m.kind (cond (stands map 5) m.amount 0) ≡ true
  allowed = not-false _ (none_fails (writing_checks m) none 2)

  card_ten : (t : Bool) → stands map 4 ≡ t → length (cond t (packed m.card) (replicate 10 0)) ≡ 10
  card_ten true there = packed_ten m.card (card_known there)
  card_ten false lacks = refl

  sized : Sized (parts_of m)
  sized = record { xid = msg.xid; card = card_ten (stands map 4) refl }

  map_read : map_in b ≡ map
  map_read = map_again map (parts_of m) sized own.small

  -- a field that stands is read as it was laid out, one that is lacking as zeros
  piece_read : (bit : ℕ) → bit < 16 → piece_in (map_in b) b bit ≡ cond (stands map bit) (get_or (pieces (parts_of m)) bit []) (replicate (width bit) 0)
  piece_read bit within =
      ap (λ x. piece_in x b bit) map_read
      ∙ elim (stands map bit) as (λ t. stands map bit ≡ t → piece_in map b bit ≡ cond t (get_or (pieces (parts_of m)) bit []) (replicate (width bit) 0)) [
        | true ↦ λ there. found_again map (parts_of m) sized bit within there
        | false ↦ λ lacks. piece_lacking map b bit lacks
      ] refl

  value_read : {A : Type 0} (f : List ℕ → A) (bit : ℕ) (v d : A) → bit < 16 → (stands map bit ≡ true → f (get_or (pieces (parts_of m)) bit []) ≡ v) → f (replicate (width bit) 0) ≡ d →
      f (piece_in (map_in b) b bit) ≡ cond (stands map bit) v d
  value_read f bit v d within there lacks =
      ap f (piece_read bit within)
      ∙ elim (stands map bit) as (λ t. stands map bit ≡ t → f (cond t (get_or (pieces (parts_of m)) bit []) (replicate (width bit) 0)) ≡ cond t v d) [
        | true ↦ λ e. there e
        | false ↦ λ e. lacks
      ] refl

  small_kind : m.kind < 256
  small_kind = omega (arith, leb-true m.kind 9 (and_parts (leb 1 m.kind) (leb m.kind 9) kind_known).1)

  kind_first : (message_in b).kind ≡ m.kind
  kind_first = value_read (number_from_digits 256) 0 m.kind 0 (omega arith) (λ _. number_bytes_of 1 m.kind (omega (arith, small_kind))) (number_zeros 256 1) ∙ cond-true (stands map 0) m.kind 0 own.kind

  abbrev with : ℕ → ℕ → ℕ → List ℕ → ℕ → ℕ → ℕ → Fields
  with k r c x d a n = record { kind = k; request = r; course = c; xid = x; card = d; amount = a; batch = n }

  small_amount : stands map 5 ≡ true → m.amount < 256 ^ 8
  small_amount there =
      let amount = cond (stands map 5) m.amount 0 in
      let bounds = amount_bounds (kind_from m.kind) in
      let within = leb-true amount bounds.1 (and_parts (leb bounds.0 amount) (leb amount bounds.1) allowed).1 in
      omega (arith, within, most_amount (kind_from m.kind), cond-true (stands map 5) m.amount 0 there)

  amount_read : (message_in b).amount ≡ cond (stands map 5) m.amount 0
  amount_read = value_read (number_from_digits 256) 5 m.amount 0 (omega arith) (λ there. number_bytes_of 8 m.amount (small_amount there)) (number_zeros 256 8)

  card_read : (message_in b).card ≡ cond (stands map 4) m.card 0
  card_read =
      value_read card_number 4 m.card 0 (omega arith)
      (λ there. ap card_number (cond-true (stands map 4) (packed m.card) (replicate 10 0) there) ∙ number_packed m.card (card_known there)) refl

  message_read : message_in b ≡ m
  message_read =
      let t = trimmed m in
      let r = message_in b in
      let request = value_read (number_from_digits 256) 1 m.request 0 (omega arith) (λ _. number_bytes_of 8 m.request msg.request) (number_zeros 256 8) ∙ cond-true (stands map 1) m.request 0 own.request in
      let course = value_read (number_from_digits 256) 2 m.course 0 (omega arith) (λ _. number_bytes_of 4 m.course msg.course) (number_zeros 256 4) ∙ cond-true (stands map 2) m.course 0 own.course in
      let xid = value_read (λ x. x) 3 m.xid (replicate 20 0) (omega arith) (λ _. refl) refl in
      let batch = value_read (number_from_digits 256) 6 m.batch 0 (omega arith) (λ _. number_bytes_of 4 m.batch msg.batch) (number_zeros 256 4) in
      ap (λ k. with k r.request r.course r.xid r.card r.amount r.batch) kind_first
      ∙ ap (λ x. with m.kind x r.course r.xid r.card r.amount r.batch) request
      ∙ ap (λ x. with m.kind m.request x r.xid r.card r.amount r.batch) course
      ∙ ap (λ x. with m.kind m.request m.course x r.card r.amount r.batch) xid
      ∙ ap (λ x. with m.kind m.request m.course t.xid x r.amount r.batch) card_read
      ∙ ap (λ x. with m.kind m.request m.course t.xid t.card x r.batch) amount_read
      ∙ ap (λ x. with m.kind m.request m.course t.xid t.card t.amount x) batch
      ∙ msg.trim

  length_read : length b ≡ length_of m.kind
  length_read = length_laid map (parts_of m) sized

  -- the kind's byte comes right after the map
  kind_byte : kind_in b ≡ m.kind
  kind_byte =
      let there : take 1 (drop 2 b) ≡ bytes_of 1 m.kind = sym (piece_there map b 0 own.kind) ∙ found_again map (parts_of m) sized 0 (omega arith) own.kind in
      let first : get_or (take 1 (drop 2 b)) 0 0 ≡ get_or b 2 0 = get_or-take 1 (drop 2 b) 0 0 (omega arith) ∙ get_or-drop 2 b 0 0 in
      sym first ∙ ap (λ xs. get_or xs 0 0) there ∙ mod-eq_of_lt small_kind

  card_fits : (t : Bool) → stands map 4 ≡ t → (t && not (well_packed (cond t (cond t (packed m.card) (replicate 10 0)) (replicate 10 0)))) ≡ false
  card_fits true there = ap not (packed_well m.card (card_known there))
  card_fits false lacks = refl

  opened_again : opening b ≡ Ok m
  opened_again =
      let right =
      passes 2 _ (drop 1 (opening_checks b)) (or_from (ltb (length b) 3) _ (le-ltb (length b) 3 (omega (arith, length_read, own.long)))
      (or_from (not (stands (map_in b) 0)) (reserved (map_in b)) (ap (λ x. not (stands x 0)) map_read ∙ ap not own.kind) (ap reserved map_read ∙ own.plain)))
      ∙ passes 3 _ (drop 2 (opening_checks b)) (ap (λ k. not (is_kind k)) kind_byte ∙ ap not kind_known)
      ∙ passes 4 _ (drop 3 (opening_checks b)) (ap not (eq-eqb (map_in b) (map_of (kind_in b)) (map_read ∙ ap map_of (sym kind_byte))))
      ∙ passes 5 _ (drop 4 (opening_checks b)) (ap not (eq-eqb (length b) (length_of (kind_in b)) (length_read ∙ ap length_of (sym kind_byte))))
      ∙ passes 6 _ (drop 5 (opening_checks b)) (ap (λ x. stands x 4 && not (well_packed (piece_in (map_in b) b 4))) map_read ∙ ap (λ x. stands map 4 && not (well_packed x)) (piece_read 4 (omega arith)) ∙ card_fits (stands map 4) refl)
      ∙ passes 7 _ [] (ap (λ k. not (amount_allowed k (number_from_digits 256 (piece_in (map_in b) b 5)))) kind_byte ∙ ap (λ a. not (amount_allowed m.kind a)) amount_read ∙ ap not allowed) in
      ap (λ o. unless o (message_in b)) right ∙ ap Ok message_read

-- and its kind is one of the nine
pub opened_kind : (bytes : List ℕ) (m : Fields) → opening bytes ≡ Ok m → is_kind m.kind ≡ true
opened_kind bytes m opens =
    let went = went_through (first_failing (opening_checks bytes)) (message_in bytes) m opens in
    let ok = passed bytes went.0 in
    ap (λ x. is_kind x.kind) (sym went.1) ∙ ap is_kind (kind_read bytes ok) ∙ ok.kind

pub opened_writes : (bytes : List ℕ) → AllBelowBase 256 bytes → (m : Fields) → opening bytes ≡ Ok m → writing m ≡ Ok bytes
opened_writes bytes are m opens =
    let went = went_through (first_failing (opening_checks bytes)) (message_in bytes) m opens in
    ap writing (sym went.1) ∙ written_again bytes are went.0

-- so the bytes of an opened message are those that it was opened from
pub own_bytes : (bytes : List ℕ) → AllBelowBase 256 bytes → (m : Fields) → opening bytes ≡ Ok m → bytes_for m ≡ bytes
own_bytes bytes are m opens = (went_through (first_failing (writing_checks m)) (bytes_for m) bytes (opened_writes bytes are m opens)).1

pub round_trip : RoundTrip
round_trip bytes are m msg = (
  opened_writes bytes are m,
  (λ writes.
      let went = went_through (first_failing (writing_checks m)) (bytes_for m) bytes writes in
      ap opening (sym went.1) ∙ opened_again m msg went.0),
)

-- the same of a call of opening
pub opening_inverts : (strip : ℕ) (bytes : List ℕ) (answer : Result Fields ℕ) → AllBelowBase 256 bytes → answer ≡ opening bytes → OpeningInverts strip bytes answer
opening_inverts strip bytes answer are is enough m msg =
    let both = round_trip bytes are m msg in
    ((λ opens. both.0 (sym is ∙ opens)), (λ writes. is ∙ both.1 writes))

-- what was written is what is to be found in the buffer
found_written : (w : Result (List ℕ) ℕ) (bytes before : List ℕ) → Iff (w ≡ Ok bytes) ((length_written w ≡ Ok (length bytes)) × (take (length bytes) (over_front w before) ≡ bytes))
found_written (Ok x) bytes before = (
  (λ is. let same : x ≡ bytes = cc in
      (ap (λ y. Ok (length y)) same, ap (λ y. take (length bytes) (y ++ drop (length y) before)) same ∙ take_at bytes (drop (length bytes) before) (length bytes) refl)),
  (λ both. let long : length x ≡ length bytes = let e = both.0 in cc in
      ap Ok (sym (take_at x (drop (length x) before) (length bytes) long) ∙ both.1)),
)
found_written (Err n) bytes before =
    ((λ is. let z : ◌≡◌ {A = ℕ} 0 1 = cc in absurd (omega arith)), (λ both. let e = both.0 in let z : ◌≡◌ {A = ℕ} 0 1 = cc in absurd (omega arith)))

-- and of a call of writing
pub writing_inverts : (m : Fields) (before after : List ℕ) (answer : Result ℕ ℕ) → answer ≡ length_written (writing_into (length before) m) → after ≡ over_front (writing_into (length before) m) before → WritingInverts m before after answer
writing_inverts m before after answer is left room msg bytes are =
    let whole : writing_into (length before) m ≡ writing m =
    ap (λ o. unless o (bytes_for m)) (last_passes (writing_checks m) 1 (ltb (length before) (length_of m.kind)) (le-ltb (length before) (length_of m.kind) room)) in
    let both = round_trip bytes are m msg in
    let found = found_written (writing m) bytes before in (
      (λ opens. let f = found.0 (both.0 opens) in (is ∙ ap length_written whole ∙ f.0, ap (take (length bytes)) (left ∙ ap (λ w. over_front w before) whole) ∙ f.1)),
      (λ gives. both.1 (found.1 (sym (ap length_written whole) ∙ sym is ∙ gives.0, sym (ap (λ w. take (length bytes) (over_front w before)) whole) ∙ sym (ap (take (length bytes)) left) ∙ gives.1))),
    )
