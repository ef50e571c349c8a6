use Rattle.std.proofs.Common.{◌≡◌, ◌∙◌, ◌++◌, Option, ℕ, sym, subst}
use Rattle.scrib_core.specs.declared.reply.Reply.{Reply}
use Rattle.scrib_reported.specs.declared.kept.KeptConversations.{KeptConversations}
use Rattle.scrib_reported.specs.Kept.{IsKept, keeping, nothing_kept}
use Rattle.scrib_reported.specs.Monitors.{Adds, line_of}
use Rattle.scrib_reported.specs.ReportedReplies as replies
use Rattle.scrib_reported.proofs.ReportLemmas.{adds_nothing, close_adds, plain_adds, plain_change, plain_reply}
use Rattle.scrib_reported.proofs.reporter.Reporter.push_accepted.Goals as goal

pub returns-in-Opened-clause-ok : goal.returns-in-Opened-clause-ok
returns-in-Opened-clause-ok c = λ w s made of other answered.
    subst (λ (r : Reply). Adds c.args.head s c.args.self.now c.args.self.now made r) (sym c.in-Opened.is) (adds_nothing c.args.head s c.args.self.now made _ (replies.opens made _ _ _))

pub returns-in-Some-clause-ok : goal.returns-in-Some-clause-ok
returns-in-Some-clause-ok c = λ w s made of other answered.
    subst (λ (r : Reply). Adds c.args.head s c.args.self.now (record c.push_reply.new.self { kept = c.remove.new.self }) made r) (sym c.in-Closed.is)
    (close_adds c.args.head s c.args.self.now (record c.push_reply.new.self { kept = c.remove.new.self }) made _ _ _ _ _
    (subst (λ (o : Option ℕ). replies.IsKeptOf (keeping c.args.self.now.kept) o nothing_kept (keeping c.remove.new.self)) (sym (of ∙ c.in-Some.is))
    (subst (λ (k : KeptConversations). IsKept (keeping k) c.in-Some.id nothing_kept (keeping c.remove.new.self)) c.push_reply.ensures.kept c.remove.ensures))
    (subst (λ (r : Reply). c.push_reply.new.self.text.items ≡ c.args.self.now.text.items ++ replies.reply_as_ever (line_of c.args.head) r) c.in-Closed.is c.in_ok-push_reply-in-Closed.ensures.ok))

pub returns-in_ok-push_reply-in_default-clause-ok : goal.returns-in_ok-push_reply-in_default-clause-ok
returns-in_ok-push_reply-in_default-clause-ok c = λ w s made of other answered.
    plain_adds c.args.head s w c.args.self.now c.push_reply-in_default.new.self made c.args.reply.now (plain_reply c.args.reply.now c.in_default.not-Opened c.in_default.not-Closed c.requires) other answered
    c.push_reply-in_default.ensures.kept c.in_ok-push_reply-in_default.ensures.ok

pub returns-in_ok-push_reply-in_default-clause-change : goal.returns-in_ok-push_reply-in_default-clause-change
returns-in_ok-push_reply-in_default-clause-change c = plain_change c.args.reply.now (plain_reply c.args.reply.now c.in_default.not-Opened c.in_default.not-Closed c.requires)
