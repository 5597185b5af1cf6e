-- What comes between two messages keeps every history: each step of what is reached speaks of holds
-- one by one.
use Rattle.std.proofs.Common.{ℕ, List, [], ◌∷◌, Ok, Err, Result, sym, ◌∙◌, subst}
use Rattle.host.specs.Meaning.{PutSays}
use Rattle.host.specs.Parts.{Holdings, SameHeld}
use Rattle.wire.specs.declared.message.Fields.{Fields}
use Rattle.rules.specs.Ledger.{Ledger}
use Rattle.rules.specs.Rules.{Call, Reply, no_call, put, read}
use Rattle.law.specs.Between.{Between, KeptBetween}
use Rattle.law.specs.Carried.{KeepsLaw}
use Rattle.law.specs.History.{Entry, Given, opened}
use Rattle.law.specs.Reached.{HandledByRules, Reached, Replies}
use Rattle.law.proofs.Law.{law_over_runs}

-- the same is held after that as after this
then_same : (held₀ held held' : Holdings) → SameHeld held held₀ → SameHeld held' held → SameHeld held' held₀
then_same held₀ held held' first then pair = then pair ∙ first pair

-- a call may leave what is held so
replies_still : (call : Call) (reply : Reply) (held₀ held held' : Holdings) → SameHeld held' held → Replies call reply held₀ held → Replies call reply held₀ held'
replies_still no_call reply held₀ held held' same (uncalled, holds) = (uncalled, then_same held₀ held held' holds same)
replies_still (put pair amount) reply held₀ held held' same (r, fates, assents, replied, means) = (
  r,
  fates,
  assents,
  replied,
  record {
    reply = means.reply;
    holds = then_same _ held held' means.holds same;
    says = subst (PutSays r (fates pair amount) (assents pair amount) amount (held₀ pair)) (sym (same pair)) means.says;
  },
)
replies_still (read pair) reply held₀ held held' same (r, fates, replied, means) =
    (r, fates, replied, record { reply = means.reply; holds = then_same held₀ held held' means.holds same; says = means.says })

-- and so may handling
handled_still : (o : Result Fields ℕ) (given : Given) (l₀ l l' : Ledger) (held₀ held held' : Holdings) → Between l held l' held'
    → HandledByRules o given l₀ held₀ l held → HandledByRules o given l₀ held₀ l' held'
handled_still (Ok m) given l₀ l l' held₀ held held' between p = record {
  reply = p.reply;
  called = replies_still _ p.reply held₀ held held' between.same_held p.called;
  answer = p.answer;
  books = between.same_books ∙ p.books;
}
handled_still (Err number) given l₀ l l' held₀ held held' between r = record {
  answer = r.answer;
  books = between.same_books ∙ r.books;
  same = then_same held₀ held held' r.same between.same_held;
}

-- so what is reached is reached after it
pub reached_still : (h : List Entry) (l : Ledger) (held : Holdings) (l' : Ledger) (held' : Holdings) → Reached h l held → Between l held l' held' → Reached h l' held'
reached_still [] l held l' held' (empty, nothing) between =
    (between.same_books ∙ empty, λ pair. between.same_held pair ∙ nothing pair)
reached_still (e ∷ h) l held l' held' (l₀, held₀, reached, are, handles) between =
    (l₀, held₀, reached, are, handled_still (opened e.bytes) e.given l₀ l l' held₀ held held' between handles)

pub kept_between : KeptBetween
kept_between h l held l' held' reached between =
    let after = reached_still h l held l' held' reached between in
    (after, law_over_runs h l' held' after)

-- so a call that leaves the books and every amount held keeps the law
pub keeps : {H : Type 0} (held : H → Holdings) (l : Ledger) (host : H) (l' : Ledger) (host' : H) → Between l (held host) l' (held host') → KeepsLaw held l host l' host'
keeps held l host l' host' between h reached =
    let kept = kept_between h l (held host) l' (held host') reached between in
    record { reached = kept.0; stands = kept.1 }
