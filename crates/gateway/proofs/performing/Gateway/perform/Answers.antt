use Rattle.std.proofs.Common.{sym, ap, ◌∙◌, subst}
use Rattle.rules.specs.Change.{Fits, ledger_after}
use Rattle.rules.specs.Plan.{Decides}
use Rattle.rules.specs.Rules.{refused_with}
use Rattle.rules.specs.declared.outcome.Outcome.TheVariants.{RequestNumberUsed}
use Rattle.rules.specs.declared.plan.Plan.TheVariants.{Answer}
use Rattle.rules.proofs.Plans.{answers_again, refuses_used}
use Rattle.gateway.proofs.Performances.{answers, carries_law, puts, reads, writes}
use Rattle.gateway.proofs.performing.Gateway.perform.Goals as goal

pub returns-in-Answer : goal.returns-in-Answer
returns-in-Answer g c =
    let l = c.args.self.now.books in
    let host = c.args.self.now.host in
    let p = answers g.H.Host c.args.message.fields l host c.in-Answer.answer (c.in-Answer.ensures l c.look_up-found.ensures c.in-Open.ensures) in
    record { rules = p; law = carries_law g.H.Host c.args.message l host c.in-Answer.answer l host p }

pub returns-in-Commit : goal.returns-in-Commit
returns-in-Commit g c =
    let l = c.args.self.now.books in
    let host = c.args.self.now.host in
    let l' = c.commit.new.self in
    let r = c.commit.result in
    let p = writes g.H.Host c.args.message.fields l host c.in-Commit.change (c.in-Commit.ensures l c.look_up-found.ensures c.in-Open.ensures) r l' c.commit.ensures.answer c.commit.ensures.books in
    record { rules = p; law = carries_law g.H.Host c.args.message l host r l' host p }

pub returns-in-Put : goal.returns-in-Put
returns-in-Put g c =
    let l = c.args.self.now.books in
    let host = c.args.self.now.host in
    let l' = c.commit-in-Put.new.self in
    let host' = c.put-reply.new.self in
    let r = c.commit-in-Put.result in
    let p =
    puts g.H.Host c.args.message.fields l host c.in-Put.put (c.in-Put.ensures l c.look_up-found.ensures c.in-Open.ensures) c.put-reply.result host' c.put-reply.ensures.means c.put-reply.ensures.step r l'
    (c.commit-in-Put.ensures.answer ∙ ap (λ change. change.answer) c.settled.ensures) (c.commit-in-Put.ensures.books ∙ ap (λ change. ledger_after change l) c.settled.ensures) in
    record { rules = p; law = carries_law g.H.Host c.args.message l host r l' host' p }

pub returns-in-Read : goal.returns-in-Read
returns-in-Read g c =
    let l = c.args.self.now.books in
    let host = c.args.self.now.host in
    let host' = c.read.new.self in
    let r = c.from.result in
    let p = reads g.H.Host c.args.message.fields l host c.in-Read.pair (c.in-Read.ensures l c.look_up-found.ensures c.in-Open.ensures) c.read.result host' c.read.ensures.means c.read.ensures.step r c.from.ensures in
    record { rules = p; law = carries_law g.H.Host c.args.message l host r l host' p }

pub commit-requires-in-Put : goal.commit-requires-in-Put
commit-requires-in-Put g c =
    let l = c.args.self.now.books in
    let decides = c.in-Put.ensures l c.look_up-found.ensures c.in-Open.ensures in
    subst (λ change. Fits change l) (sym c.settled.ensures) (decides.1 c.put-reply.result).fits

pub returns-in-Answered : goal.returns-in-Answered
returns-in-Answered g c =
    let l = c.args.self.now.books in
    let host = c.args.self.now.host in
    let m = c.args.message.fields in
    let a = c.in-Answered.answer in
    let p = answers g.H.Host m l host a (answers_again l m a c.in-Answered.ensures) in
    record { rules = p; law = carries_law g.H.Host c.args.message l host a l host p }

pub returns-in-Used : goal.returns-in-Used
returns-in-Used g c =
    let l = c.args.self.now.books in
    let host = c.args.self.now.host in
    let m = c.args.message.fields in
    let a = c.refused.result in
    let is = c.refused.ensures ∙ ap (λ x. refused_with x RequestNumberUsed) c.fields.ensures.value in
    let p = answers g.H.Host m l host a (subst (λ x. Decides (Answer x) l m) (sym is) (refuses_used l m c.in-Used.ensures)) in
    record { rules = p; law = carries_law g.H.Host c.args.message l host a l host p }
