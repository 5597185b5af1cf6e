-- Settling a purchase moves its authorised amount and its doubt, and leaves all else.
use Rattle.std.proofs.Common.{◌≡◌, ℕ, true, cond, eqb, Some, None, Option, refl}
use Rattle.host.specs.declared.PutReply.{PutReply}
use Rattle.host.specs.declared.PutReply.TheVariants.{Done, Refused, Silent}
use Rattle.rules.specs.Outcome.{outcome_code}
use Rattle.rules.specs.Rules.{on_put, outcome_of, settled}
use Rattle.rules.specs.Sound.{sound_purchase}
use Rattle.rules.specs.declared.purchase.Purchase.{Purchase}

-- a purchase with another authorised amount and doubt
abbrev pub with_authorised : ℕ → Option ℕ → Purchase → Purchase
with_authorised amount doubt p = record p { authorised = amount; doubt = doubt }

-- whatever depends neither on the authorised amount nor on the doubt is as before
pub settled_part : {A : Type 0} (part : Purchase → A) → ((amount : ℕ) (doubt : Option ℕ) (p : Purchase) → part (with_authorised amount doubt p) ≡ part p)
    → (reply : PutReply) (amount : ℕ) (p : Purchase) → part (settled (on_put reply) amount p) ≡ part p
settled_part part keeps Done amount p = keeps amount None p
settled_part part keeps Refused amount p = keeps p.authorised None p
settled_part part keeps Silent amount p = keeps p.authorised (Some amount) p

-- so the purchase stays sound, and its XID, its card and what was captured and credited stay
pub settled_sound : (reply : PutReply) (amount : ℕ) (p : Purchase) → sound_purchase (settled (on_put reply) amount p) ≡ sound_purchase p
settled_sound = settled_part sound_purchase (λ amount doubt p. refl)

pub settled_xid : (reply : PutReply) (amount : ℕ) (p : Purchase) → (settled (on_put reply) amount p).xid ≡ p.xid
settled_xid = settled_part (λ p. p.xid) (λ amount doubt p. refl)

pub settled_card : (reply : PutReply) (amount : ℕ) (p : Purchase) → (settled (on_put reply) amount p).card ≡ p.card
settled_card = settled_part (λ p. p.card) (λ amount doubt p. refl)

pub settled_captured : (reply : PutReply) (amount : ℕ) (p : Purchase) → (settled (on_put reply) amount p).captured ≡ p.captured
settled_captured = settled_part (λ p. p.captured) (λ amount doubt p. refl)

pub settled_credited : (reply : PutReply) (amount : ℕ) (p : Purchase) → (settled (on_put reply) amount p).credited ≡ p.credited
settled_credited = settled_part (λ p. p.credited) (λ amount doubt p. refl)

-- silence leaves the authorised amount
pub silent_authorised : (reply : PutReply) (amount : ℕ) (p : Purchase) → eqb (outcome_code (outcome_of (on_put reply))) 25 ≡ true → (settled (on_put reply) amount p).authorised ≡ p.authorised
silent_authorised Done amount p silent = cc
silent_authorised Refused amount p silent = refl
silent_authorised Silent amount p silent = refl

-- a purchase is in doubt after a put just if the host was silent
pub settled_doubt : (reply : PutReply) (amount : ℕ) (p : Purchase) → (settled (on_put reply) amount p).doubt ≡ cond (eqb (outcome_code (outcome_of (on_put reply))) 25) (Some amount) None
settled_doubt Done amount p = refl
settled_doubt Refused amount p = refl
settled_doubt Silent amount p = refl
