-- Why what each plan leaves is what the rules say, and carries the law.
use Rattle.std.proofs.Common.{◌≡◌, refl, sym, ap, ◌∙◌, subst}
use Rattle.host.specs.Meaning.{PutMeans, ReadMeans}
use Rattle.host.specs.declared.Host.{Ghosts as HostMeaning}
use Rattle.host.specs.declared.Pair.{Pair}
use Rattle.host.specs.declared.PutReply.{PutReply}
use Rattle.host.specs.declared.ReadReply.{ReadReply}
use Rattle.wire.specs.declared.message.Fields.{Fields}
use Rattle.wire.specs.declared.opened.Opened.{Opened}
use Rattle.rules.specs.Ledger.{Ledger}
use Rattle.rules.specs.Change.{ledger_after}
use Rattle.rules.specs.Plan.{Decides, settling}
use Rattle.rules.specs.Rules.{Call, answer_of, books_after, call_of, no_call, on_put, on_read, put, read, read_answered}
use Rattle.rules.specs.declared.outcome.Performed.{Performed}
use Rattle.rules.specs.declared.plan.Change.{Change}
use Rattle.rules.specs.declared.plan.Plan.TheVariants.{Answer, Commit, Put, Read}
use Rattle.rules.specs.declared.plan.HostPut.{HostPut}
use Rattle.law.specs.Repeats.{full}
use Rattle.law.specs.Carried.{CarriesLaw, spelling}
use Rattle.law.proofs.Carrying.{carries, replies_of, spelling_bytes, spelling_opens}
use Rattle.gateway.specs.Performing.{Called, Made, Performs, reply}

module _ {H : Type 0} (h : HostMeaning H) (m : Fields) (l : Ledger) (host : H) where
  -- what a call that was made makes of the answer, of the books and of the host
  by_call : (call : Call) → call_of l m ≡ call → (r : Performed) (l' : Ledger) (host' : H) → r ≡ answer_of l m (reply h host call) → l' ≡ books_after l m (reply h host call) → Called h call host host' → Performs h m l host r l' host'
  by_call call is r l' host' answer books called = record {
    answer = answer ∙ ap (λ c. answer_of l m (reply h host c)) (sym is);
    books = books ∙ ap (λ c. books_after l m (reply h host c)) (sym is);
    called = subst (λ c. Called h c host host') (sym is) called;
  }

  pub answers : (a : Performed) → Decides (Answer a) l m → Performs h m l host a l host
  answers a d = by_call no_call d.0 a l host d.1 d.2 (record { made = refl; holds = λ pair. refl })

  pub writes : (change : Change) → Decides (Commit change) l m → (r : Performed) (l' : Ledger) → r ≡ change.answer → l' ≡ ledger_after change l → Performs h m l host r l' host
  writes change d r l' answer books = by_call no_call d.0 r l' host (answer ∙ d.1.answer) (books ∙ d.1.books) (record { made = refl; holds = λ pair. refl })

  pub puts : (p : HostPut) → Decides (Put p) l m → (replied : PutReply) (host' : H)
      → PutMeans (h.put_fate host) (h.held host) (h.assent host) (h.held host') p.pair p.fields.amount replied
      → h.put_step host p.pair p.fields.amount replied host'
      → (r : Performed) (l' : Ledger) → r ≡ (settling p (on_put replied)).answer → l' ≡ ledger_after (settling p (on_put replied)) l → Performs h m l host r l' host'
  puts p d replied host' means step r l' answer books =
      let carried = d.1 replied in
      by_call (put p.pair p.fields.amount) d.0 r l' host'
      (answer ∙ carried.answer ∙ ap (λ x. answer_of l m (on_put x)) means.reply)
      (books ∙ carried.books ∙ ap (λ x. books_after l m (on_put x)) means.reply)
      (record { made = subst (λ x. h.put_step host p.pair p.fields.amount x host') means.reply step; holds = means.holds })

  pub reads : (pair : Pair) → Decides (Read pair) l m → (replied : ReadReply) (host' : H)
      → ReadMeans (h.read_fate host) (h.held host) (h.held host') pair replied → h.read_step host pair replied host'
      → (r : Performed) → r ≡ read_answered replied → Performs h m l host r l host'
  reads pair d replied host' means step r answer =
      let carried = d.1 replied in
      by_call (read pair) d.0 r l host'
      (answer ∙ carried.0 ∙ ap (λ x. answer_of l m (on_read x)) means.reply)
      (carried.1 ∙ ap (λ x. books_after l m (on_read x)) means.reply)
      (record { made = subst (λ x. h.read_step host pair x host') means.reply step; holds = means.holds })

-- a message that is performed by the rules carries the law
pub carries_law : {H : Type 0} (h : HostMeaning H) (o : Opened) (l : Ledger) (host : H) (r : Performed) (l' : Ledger) (host' : H) → Performs h o.fields l host r l' host'
    → CarriesLaw h.held (spelling o.fields) (full r) l host l' host'
carries_law h o l host r l' host' p =
    let m = o.fields in
    carries h.held (spelling m) m (spelling_bytes m o.bytes) (spelling_opens m o.opens o.spelled) l l' host host' r (reply h host (call_of l m))
    (replies_of (h.put_fate host) (h.read_fate host) (h.held host) (h.held host') (h.assent host) (call_of l m) p.called.holds)
    (λ uncalled. subst (λ call. Made h call host host') uncalled p.called.made) p.answer p.books
