-- What one message more makes of the purchases and their amounts, in the history and in the rows of
-- the books.
use Rattle.std.proofs.Common.{◌≡◌, ℕ, suc, ◌+◌, ◌-◌, ◌≤◌, Bool, true, false, cond, not, ◌&&◌, ◌||◌, eqb, List, [], ◌∷◌, ◌++◌, map, length, pos, ◌+ℤ◌, ◌-ℤ◌, is_some, Some, None, Ok, Option, sym, refl, ap, ◌∙◌, subst, arith}
use mathlib.Core.List.{map-append}
use Rattle.std.specs.Option.{option_map}
use Rattle.std.proofs.lemmas.Int.{ints}
use Rattle.std.proofs.lemmas.Bool.{and_from, and_right, cond_both, cond-false, cond-true, or_from, or_left, or_right}
use Rattle.host.specs.declared.PutReply.{PutReply}
use Rattle.host.specs.declared.PutReply.TheVariants.{Done, Refused, Silent}
use Rattle.rows.specs.First.{first_with, row_with}
use Rattle.wire.specs.declared.message.Fields.{Fields}
use Rattle.rules.specs.Ledger.{Ledger, no_purchase, of_xid, purchase_row}
use Rattle.rules.specs.Outcome.{outcome_code}
use Rattle.rules.specs.Rules.{add_purchase, new_purchase, on_purchase, on_put, outcome_of, settled, with_captured, with_credited, with_purchase}
use Rattle.wire.specs.Bytes.{same_bytes}
use Rattle.rules.specs.declared.purchase.Purchase.{Purchase}
use Rattle.rules.proofs.Sames.{sames_equal, sames_refl}
use Rattle.law.specs.Booked.{booked_of, name_of}
use Rattle.law.specs.History.{Entry, Given, code, last_given, message_of, opened, said, success_of}
use Rattle.law.specs.Purchases.{PurchaseName, authorised_after, captured_after, credited_after, makes_purchase, named, purchase_name, purchases, purchases_after}
use Rattle.law.proofs.Base.{at_number, at_put, when}
use Rattle.law.proofs.Invariants.{Shows}
use Rattle.law.proofs.Rows.{booked_elsewhere, booked_here, first_push, map_update, placed, row_new, shown_push}

-- a row of the books moves as the history says of a message that succeeds, or of none
pub record Moves (done : Option Fields) (xid : List ℕ) (p q : Purchase) : Type 0 where
  pub authorises : q.authorised ≡ authorised_after done xid p.authorised
  pub captures : q.captured ≡ captured_after done xid p.captured
  pub credits : pos q.credited ≡ credited_after done xid (pos p.credited)

-- the rows of the books after a message under this code, as the history after it
pub record Told (message : Option Fields) (c : ℕ) (done : Option Fields) (l l' : Ledger) : Type 0 where
  pub same_names : map name_of l'.purchases ≡ purchases_after message c (map name_of l.purchases)
  pub moves : (xid : List ℕ) → Moves done xid (booked_of l xid) (booked_of l' xid)

-- so the books show the history with the message
pub told_shows : (h : List Entry) (e : Entry) (l l' : Ledger) → Shows h l → Told (said e) (code e) (success_of e h) l l' → Shows (e ∷ h) l'
told_shows h e l l' s told = record {
  same_purchases = told.same_names ∙ ap (purchases_after (said e) (code e)) s.same_purchases;
  same_authorised = λ xid. (told.moves xid).authorises ∙ ap (authorised_after (success_of e h) xid) (s.same_authorised xid);
  same_captured = λ xid. (told.moves xid).captures ∙ ap (captured_after (success_of e h) xid) (s.same_captured xid);
  same_credited = λ xid. (told.moves xid).credits ∙ ap (credited_after (success_of e h) xid) (s.same_credited xid);
}

-- what does not succeed moves nothing
pub moves_not : (xid : List ℕ) (p : Purchase) → Moves None xid p p
moves_not xid p = record { authorises = refl; captures = refl; credits = refl }

-- nor does a message that, succeeding, moves nothing
pub moves_never : (t : Bool) (m : Fields) (xid : List ℕ) (p : Purchase) → Moves (Some m) xid p p → Moves (when t (Some m)) xid p p
moves_never true m xid p never = never
moves_never false m xid p never = moves_not xid p

-- a purchase that it is not for does not move
moves_other : (t : Bool) (m : Fields) (xid : List ℕ) (p : Purchase) → same_bytes m.xid xid ≡ false → Moves (when t (Some m)) xid p p
moves_other t m xid p apart = moves_never t m xid p (record {
  authorises = sym (cond-false _ m.amount p.authorised (or_from _ _ (and_right (eqb m.kind 1) _ apart) (and_right (eqb m.kind 2) _ apart)));
  captures = sym (cond-false _ m.amount _ (and_right (eqb m.kind 3) _ apart) ∙ cond-false _ 0 p.captured (and_right (eqb m.kind 4) _ apart));
  credits =
      sym (cond-false _ (pos p.credited +ℤ pos m.amount) _ (and_right (eqb m.kind 5) _ apart)
      ∙ cond-false _ (pos p.credited -ℤ pos m.amount) (pos p.credited) (and_right (eqb m.kind 6) _ apart));
})

-- every kind for the purchase it is for
pub moves_put : (m : Fields) (reply : PutReply) (p : Purchase) → (eqb m.kind 1 || eqb m.kind 2) ≡ true
    → Moves (when (eqb (outcome_code (outcome_of (on_put reply))) 0) (Some m)) m.xid p (settled (on_put reply) m.amount p)
moves_put m Done p puts =
    at_put (λ n. Moves (Some n) n.xid p (settled (on_put Done) n.amount p)) m puts
    (record { authorises = sym (cond-true _ _ _ (or_left _ false (sames_refl m.xid))); captures = refl; credits = refl })
    (record { authorises = sym (cond-true _ _ _ (sames_refl m.xid)); captures = refl; credits = refl })
moves_put m Refused p puts = record { authorises = refl; captures = refl; credits = refl }
moves_put m Silent p puts = record { authorises = refl; captures = refl; credits = refl }

pub moves_capture : (m : Fields) (batch : ℕ) (p : Purchase) → m.kind ≡ 3 → Moves (Some m) m.xid p (with_captured m.amount batch p)
moves_capture m batch p kind =
    at_number (λ n. Moves (Some n) n.xid p (with_captured n.amount batch p)) m 3 kind
    (record { authorises = refl; captures = sym (cond-true _ _ _ (sames_refl m.xid)); credits = refl })

pub moves_uncapture : (m : Fields) (batch : ℕ) (p : Purchase) → m.kind ≡ 4 → Moves (Some m) m.xid p (with_captured 0 batch p)
moves_uncapture m batch p kind =
    at_number (λ n. Moves (Some n) n.xid p (with_captured 0 batch p)) m 4 kind
    (record { authorises = refl; captures = sym (cond-true _ _ _ (sames_refl m.xid)); credits = refl })

pub moves_credit : (m : Fields) (p : Purchase) → m.kind ≡ 5 → Moves (Some m) m.xid p (with_credited (p.credited + m.amount) p)
moves_credit m p kind =
    at_number (λ n. Moves (Some n) n.xid p (with_credited (p.credited + n.amount) p)) m 5 kind
    (record { authorises = refl; captures = refl; credits = sym (cond-true _ (pos p.credited +ℤ pos m.amount) _ (sames_refl m.xid)) })

pub moves_uncredit : (m : Fields) (p : Purchase) → m.amount ≤ p.credited → m.kind ≡ 6 → Moves (Some m) m.xid p (with_credited (p.credited - m.amount) p)
moves_uncredit m p within kind =
    at_number (λ n. Moves (Some n) n.xid p (with_credited (p.credited - n.amount) p)) m 6 kind
    (record { authorises = refl; captures = refl; credits = less p.credited within ∙ sym (cond-true _ (pos p.credited -ℤ pos m.amount) _ (sames_refl m.xid)) })
  where
    less : (n : ℕ) → m.amount ≤ n → pos (n - m.amount) ≡ pos n -ℤ pos m.amount
    less n within = omega (arith, ints)

-- a purchase has the same place in the history as its row in the books
pub place_of_map : (xid : List ℕ) (rows : List Purchase) → first_with (of_xid xid) rows ≡ first_with (named xid) (map name_of rows)
place_of_map xid [] = refl
place_of_map xid (p ∷ rows) = ap (λ place. cond (of_xid xid p) (Some 0) (option_map suc place)) (place_of_map xid rows)

-- the books know an XID if it is among their purchases
known_name : (xid : List ℕ) (rows : List Purchase) → is_some (first_with (named xid) (map name_of rows)) ≡ is_some (row_with (of_xid xid) rows)
known_name xid rows = ap is_some (sym (place_of_map xid rows)) ∙ placed (of_xid xid) rows

-- whether a message under this code adds a purchase
abbrev pub adds : Fields → ℕ → List PurchaseName → Bool
adds m c before = makes_purchase m c && not (is_some (first_with (named m.xid) before))

module _ (m : Fields) (c : ℕ) (t : Bool) (l : Ledger) where
  -- what is known makes no purchase anew
  known_adds : is_some (purchase_row l m) ≡ true → adds m c (map name_of l.purchases) ≡ false
  known_adds known = and_right (makes_purchase m c) _ (ap not (known_name m.xid l.purchases ∙ known))

  -- a message that leaves the purchases
  pub told_still : adds m c (map name_of l.purchases) ≡ false → ((xid : List ℕ) (p : Purchase) → Moves (when t (Some m)) xid p p) → Told (Some m) c (when t (Some m)) l l
  told_still still moves = record { same_names = sym (cond-false _ _ _ still); moves = λ xid. moves xid (booked_of l xid) }

  -- a message for a purchase that the books know
  pub told_known : (f : Purchase → Purchase) → ((p : Purchase) → name_of (f p) ≡ name_of p) → is_some (purchase_row l m) ≡ true
      → Moves (when t (Some m)) m.xid (booked_of l m.xid) (f (booked_of l m.xid)) → Told (Some m) c (when t (Some m)) l (on_purchase m f l)
  told_known f keeps known here = record {
    same_names = map_update name_of (of_xid m.xid) f keeps l.purchases ∙ sym (cond-false _ _ _ (known_adds known));
    moves = λ xid. at xid (same_bytes m.xid xid) refl;
  }
    where
      keeps_xid : (p : Purchase) → (f p).xid ≡ p.xid
      keeps_xid p = ap (λ b. b.xid) (keeps p)

      at : (xid : List ℕ) (own : Bool) → same_bytes m.xid xid ≡ own → Moves (when t (Some m)) xid (booked_of l xid) (booked_of (on_purchase m f l) xid)
      at xid true same =
          subst (λ x. Moves (when t (Some m)) x (booked_of l x) (booked_of (on_purchase m f l) x)) (sames_equal m.xid xid same)
          (subst (λ q. Moves (when t (Some m)) m.xid (booked_of l m.xid) q) (sym (booked_here l m f keeps_xid known)) here)
      at xid false apart =
          subst (λ q. Moves (when t (Some m)) xid (booked_of l xid) q) (sym (booked_elsewhere l m f keeps_xid xid apart))
          (moves_other t m xid (booked_of l xid) apart)

-- rows of the same amounts move alike
moves_alike : (done : Option Fields) (xid : List ℕ) (p p' q : Purchase) → p'.authorised ≡ p.authorised → p'.captured ≡ p.captured → p'.credited ≡ p.credited
    → Moves done xid p' q → Moves done xid p q
moves_alike done xid p p' q a b c moves = record {
  authorises = moves.authorises ∙ ap (authorised_after done xid) a;
  captures = moves.captures ∙ ap (captured_after done xid) b;
  credits = moves.credits ∙ ap (λ n. credited_after done xid (pos n)) c;
}

-- an authorisation that was put to the host, whether the books know its XID or not
pub told_first : (m : Fields) (c : ℕ) (t : Bool) (l : Ledger) (f : Purchase → Purchase) → ((p : Purchase) → name_of (f p) ≡ name_of p) → makes_purchase m c ≡ true
    → ((p : Purchase) → Moves (when t (Some m)) m.xid p (f p)) → Told (Some m) c (when t (Some m)) l (on_purchase m f (with_purchase m l))
told_first m c t l f keeps makes moves =
    cond_both (is_some (purchase_row l m)) l (add_purchase m l) (λ x. Told (Some m) c (when t (Some m)) l (on_purchase m f x)) (λ known. told_known m c t l f keeps known (moves (booked_of l m.xid))) new_row
  where
    -- a new row has no amount in it, as an XID that the books do not know
    unmoved : {A : Type 0} (shown : Purchase → A) → shown (new_purchase m) ≡ shown no_purchase → (xid : List ℕ) → shown (booked_of (add_purchase m l) xid) ≡ shown (booked_of l xid)
    unmoved shown nothing xid = shown_push (of_xid xid) shown l.purchases (new_purchase m) no_purchase nothing

    new_row : is_some (purchase_row l m) ≡ false → Told (Some m) c (when t (Some m)) l (on_purchase m f (add_purchase m l))
    new_row new =
        let there : is_some (purchase_row (add_purchase m l) m) ≡ true = ap is_some (row_new l m m.xid new (sames_refl m.xid)) in
        let after : Told (Some m) c (when t (Some m)) (add_purchase m l) (on_purchase m f (add_purchase m l)) = told_known m c t (add_purchase m l) f keeps there (moves (booked_of (add_purchase m l) m.xid)) in
        record {
          same_names =
              map_update name_of (of_xid m.xid) f keeps (add_purchase m l).purchases
              ∙ map-append name_of l.purchases (new_purchase m ∷ [])
              ∙ sym (cond-true _ _ _ (and_from (makes_purchase m c) _ makes (ap not (known_name m.xid l.purchases ∙ new))));
          moves = λ xid.
              moves_alike (when t (Some m)) xid (booked_of l xid) (booked_of (add_purchase m l) xid) (booked_of (on_purchase m f (add_purchase m l)) xid)
              (unmoved (λ p. p.authorised) refl xid) (unmoved (λ p. p.captured) refl xid) (unmoved (λ p. p.credited) refl xid) (after.moves xid);
        }

-- an XID is a purchase after another was added if it was one, or is the one added
found_push : (test : PurchaseName → Bool) (bs : List PurchaseName) (b : PurchaseName) → is_some (first_with test (bs ++ b ∷ [])) ≡ (is_some (first_with test bs) || test b)
found_push test bs b =
    ap is_some (first_push test bs b ∙ ap (λ t. cond t (first_with test bs) (cond (test b) (Some (length bs)) None)) (sym (placed test bs)))
    ∙ either (first_with test bs) (test b)
  where
    either : (o : Option ℕ) (t : Bool) → is_some (cond (is_some o) o (cond t (Some (length bs)) None)) ≡ (is_some o || t)
    either (Some n) t = refl
    either None true = refl
    either None false = refl

-- so a purchase stays one
stays_found : (test : PurchaseName → Bool) (bs : List PurchaseName) (b : PurchaseName) (more : Bool) → is_some (first_with test bs) ≡ true → is_some (first_with test (cond more (bs ++ b ∷ []) bs)) ≡ true
stays_found test bs b true found = found_push test bs b ∙ or_left _ (test b) found
stays_found test bs b false found = found

stays_after : (test : PurchaseName → Bool) (o : Option Fields) (c : ℕ) (bs : List PurchaseName) → is_some (first_with test bs) ≡ true → is_some (first_with test (purchases_after o c bs)) ≡ true
stays_after test None c bs found = found
stays_after test (Some m) c bs found = stays_found test bs (purchase_name m) (adds m c bs) found

-- and what was made a purchase is one
purchase_now : (m : Fields) (c : ℕ) (bs : List PurchaseName) → makes_purchase m c ≡ true → is_some (first_with (named m.xid) (purchases_after (Some m) c bs)) ≡ true
purchase_now m c bs makes = at (is_some (first_with (named m.xid) bs)) refl
  where
    at : (known : Bool) → is_some (first_with (named m.xid) bs) ≡ known → is_some (first_with (named m.xid) (purchases_after (Some m) c bs)) ≡ true
    at true known = stays_after (named m.xid) (Some m) c bs known
    at false new =
        ap (λ rows. is_some (first_with (named m.xid) rows)) (cond-true _ (bs ++ purchase_name m ∷ []) bs (and_from _ _ makes (ap not new)))
        ∙ found_push (named m.xid) bs (purchase_name m) ∙ or_right _ _ (sames_refl m.xid)

-- an XID whose authorisation was last answered as a purchase's is, is a purchase
pub was_purchase : (h : List Entry) (bytes : List ℕ) (m : Fields) (given : Given) → opened bytes ≡ Ok m → last_given h bytes ≡ Some given → makes_purchase m given.code ≡ true
    → is_some (first_with (named m.xid) (purchases h)) ≡ true
was_purchase [] bytes m given opens last makes = cc
was_purchase (e ∷ h) bytes m given opens last makes = at (same_bytes e.bytes bytes) refl last (was_purchase h bytes m given opens)
  where
    at : (same : Bool) → same_bytes e.bytes bytes ≡ same → cond same (Some e.given) (last_given h bytes) ≡ Some given
        → (last_given h bytes ≡ Some given → makes_purchase m given.code ≡ true → is_some (first_with (named m.xid) (purchases h)) ≡ true)
        → is_some (first_with (named m.xid) (purchases (e ∷ h))) ≡ true
    at true same here earlier =
        let says : said e ≡ Some m = ap (λ b. message_of (opened b)) (sames_equal e.bytes bytes same) ∙ ap message_of opens in
        let answer : e.given ≡ given = cc in
        subst (λ o. is_some (first_with (named m.xid) (purchases_after o (code e) (purchases h))) ≡ true) (sym says)
        (purchase_now m (code e) (purchases h) (ap (λ g. makes_purchase m g.code) answer ∙ makes))
    at false apart later earlier = stays_after (named m.xid) (said e) (code e) (purchases h) (earlier later makes)
