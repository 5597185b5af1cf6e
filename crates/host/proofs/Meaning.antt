-- Laws of a host's meaning: when two cards and two pairs are one, what is held at the pair of a put and
-- elsewhere, and what the answers say.
use Rattle.std.proofs.Common.{◌≡◌, ◌<◌, ℕ, Bool, true, false, cond, eqb, leb, ◌⊎◌, sym, refl, ap, ◌∙◌, subst, inl, inr, ⊎_elim}
use Rattle.std.proofs.lemmas.Bool.{eq-eqb, eqb-true, leb-false, cond-true, cond-false, cases_cond, and_from, and_parts, or_parts}
use Rattle.host.specs.Parts.{Pence, ReferenceNumber, Holdings, Assents, PutFates, ReadFates, SameHeld, same_card, same_pair}
use Rattle.host.specs.Meaning.{grants, put_reply, put_held, read_reply, held_after, put_answer, held_after_put, read_answer, PutSays, ReadSays, PutMeans, ReadMeans}
use Rattle.host.specs.declared.Card.{Card}
use Rattle.host.specs.declared.Pair.{Pair}
use Rattle.host.specs.declared.Fate.{Fate}
use Rattle.host.specs.declared.Fate.TheVariants.{Heard, LostGoing, LostReturning}
use Rattle.host.specs.declared.PutReply.{PutReply}
use Rattle.host.specs.declared.PutReply.TheVariants.{Done, Refused, Silent}
use Rattle.host.specs.declared.ReadReply.{ReadReply}

-- two cards that are the same are one, and a card is the same as itself
pub same_card-true : (a b : Card) → same_card a b ≡ true → a ≡ b
same_card-true a b same =
    let card : ℕ → Card = λ number. record { number = number } in
    ap card (eqb-true a.number b.number same)

pub same_card_itself : (card : Card) → same_card card card ≡ true
same_card_itself card = eq-eqb card.number card.number refl

pub eq-same_card : (a b : Card) → a ≡ b → same_card a b ≡ true
eq-same_card a b one = subst (λ (c : Card). same_card a c ≡ true) one (same_card_itself a)

-- and so of two pairs
pub same_pair-true : (a b : Pair) → same_pair a b ≡ true → a ≡ b
same_pair-true a b same =
    let parts = and_parts (same_card a.card b.card) (eqb a.reference b.reference) same in
    let pair : Card → ReferenceNumber → Pair = λ card reference. record { card = card; reference = reference } in
    ap (λ (c : Card). pair c a.reference) (same_card-true a.card b.card parts.0) ∙ ap (pair b.card) (eqb-true a.reference b.reference parts.1)

pub same_pair_itself : (pair : Pair) → same_pair pair pair ≡ true
same_pair_itself pair = and_from _ _ (same_card_itself pair.card) (eq-eqb pair.reference pair.reference refl)

pub eq-same_pair : (a b : Pair) → a ≡ b → same_pair a b ≡ true
eq-same_pair a b one = subst (λ (p : Pair). same_pair a p ≡ true) one (same_pair_itself a)

pub held_here : (held : Holdings) (pair : Pair) (amount : Pence) → held_after held pair amount pair ≡ amount
held_here held pair amount = cond-true _ amount _ (same_pair_itself pair)

pub held_elsewhere : (held : Holdings) (pair : Pair) (amount : Pence) (pair' : Pair) → same_pair pair' pair ≡ false → held_after held pair amount pair' ≡ held pair'
held_elsewhere held pair amount pair' other = cond-false _ amount _ other

-- all that is held after, from the amount at the pair and what is kept at any other
pub held_by_pair : (held held' : Holdings) (pair : Pair) (amount : Pence) → held' pair ≡ amount → ((pair' : Pair) → same_pair pair' pair ≡ false → held' pair' ≡ held pair') → SameHeld held' (held_after held pair amount)
held_by_pair held held' pair amount here elsewhere pair' = at_pair (same_pair pair' pair) refl
  where
    at_pair : (same : Bool) → same_pair pair' pair ≡ same → held' pair' ≡ cond same amount (held pair')
    at_pair true e = ap held' (same_pair-true pair' pair e) ∙ here
    at_pair false e = elsewhere pair' e

-- the answer and the amount after, at each outcome of a heard put
heard_says : (assent : Bool) (amount before : Pence) (granted : Bool) → grants before assent amount ≡ granted → PutSays (cond granted Done Refused) Heard assent amount before (cond granted amount before)
heard_says assent amount before true e = (refl, e, refl)
heard_says assent amount before false e = (refl, e, refl)

reply_says : (fate : Fate) (assent : Bool) (amount before : Pence) → PutSays (put_reply fate before assent amount) fate assent amount before (put_held fate before assent amount)
reply_says Heard assent amount before = heard_says assent amount before (grants before assent amount) refl
reply_says LostGoing assent amount before = inl (refl, refl)
reply_says LostReturning assent amount before = inr (refl, refl)

-- what the answers say follows from the answer and what is held after
pub put_means : (fate : PutFates) (held : Holdings) (assent : Assents) (held' : Holdings) (pair : Pair) (amount : Pence) (r : PutReply) → r ≡ put_answer fate held assent pair amount → SameHeld held' (held_after_put fate held assent pair amount) → PutMeans fate held assent held' pair amount r
put_means fate held assent held' pair amount r reply holds =
    let here = holds pair ∙ held_here held pair _ in
    let said = reply_says (fate pair amount) (assent pair amount) amount (held pair) in
    let family : PutReply → Pence → Type 0 = λ q after. PutSays q (fate pair amount) (assent pair amount) amount (held pair) after in
    record { reply = reply; holds = holds; says = subst (λ (q : PutReply). family q (held' pair)) (sym reply) (subst (family _) (sym here) said) }

read_says : (fate : Fate) (amount : Pence) → ReadSays (read_reply fate amount) fate amount
read_says Heard amount = (refl, refl)
read_says LostGoing amount = inl refl
read_says LostReturning amount = inr refl

pub read_means : (fate : ReadFates) (held held' : Holdings) (pair : Pair) (r : ReadReply) → r ≡ read_answer fate held pair → SameHeld held' held → ReadMeans fate held held' pair r
read_means fate held held' pair r reply holds =
    record { reply = reply; holds = holds; says = subst (λ (q : ReadReply). ReadSays q (fate pair) (held pair)) (sym reply) (read_says (fate pair) (held pair)) }

-- what a caller over any host reads off a put's promises
module _ {fate : PutFates} {held : Holdings} {assent : Assents} {held' : Holdings} {pair : Pair} {amount : Pence} {r : PutReply} (means : PutMeans fate held assent held' pair amount r) where
  pub put_here : held' pair ≡ put_held (fate pair amount) (held pair) (assent pair amount) amount
  put_here = means.holds pair ∙ held_here held pair _

  pub put_elsewhere : (pair' : Pair) → same_pair pair' pair ≡ false → held' pair' ≡ held pair'
  put_elsewhere pair' other = means.holds pair' ∙ held_elsewhere held pair _ pair' other

  pub said_as : (q : PutReply) → r ≡ q → PutSays q (fate pair amount) (assent pair amount) amount (held pair) (held' pair)
  said_as q e = subst (λ (p : PutReply). PutSays p (fate pair amount) (assent pair amount) amount (held pair) (held' pair)) e means.says

  pub done_holds : r ≡ Done → held' pair ≡ amount
  done_holds e = (said_as Done e).2

  pub refused_keeps : r ≡ Refused → held' pair ≡ held pair
  refused_keeps e = (said_as Refused e).2

  -- a lowering is never refused
  pub refused_is_raise : r ≡ Refused → held pair < amount
  refused_is_raise e = leb-false amount (held pair) (or_parts (leb amount (held pair)) (assent pair amount) (said_as Refused e).1).0

  -- after silence the host holds what it held or what it was asked to
  pub silent_either : r ≡ Silent → (held' pair ≡ held pair) ⊎ (held' pair ≡ amount)
  silent_either e = by_fate (said_as Silent e)
    where
      by_fate : PutSays Silent (fate pair amount) (assent pair amount) amount (held pair) (held' pair) → (held' pair ≡ held pair) ⊎ (held' pair ≡ amount)
      by_fate (inl going) = inl going.1
      by_fate (inr returning) =
          ⊎_elim (λ granted. inr granted) (λ refused. inl refused) (cases_cond (grants (held pair) (assent pair amount) amount) amount (held pair) (held' pair) returning.1)
