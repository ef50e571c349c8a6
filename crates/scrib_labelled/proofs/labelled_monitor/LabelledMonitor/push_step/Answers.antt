use Rattle.std.proofs.Common.{◌≡◌, ◌∙◌, ℕ, List, [], ◌∷◌, ◌++◌, refl, ap}
use Rattle.std.proofs.lemmas.List.{append_assoc}
use Rattle.std.proofs.lemmas.Result.{IfOk-weaker}
use Rattle.scrib_labelled.specs.CheckedCores.{state_of}
use Rattle.scrib_core.specs.declared.reply.Reply.{Reply}
use Rattle.scrib_report.specs.LabelledReplies.{labelled_reply}
use Rattle.scrib_report.specs.PutBack.{ReplyLabel, put_back_by}
use Rattle.scrib_closing.proofs.ClosingLemmas.{complete_step, open_step}
use Rattle.scrib_labelled.specs.LabelledRuns.{of_step}
use Rattle.scrib_labelled.proofs.ItemLemmas.{behind_closed, behind_none, closes_not_off, judged_unchanged, takes_closed, takes_open}
use Rattle.scrib_labelled.proofs.labelled_monitor.LabelledMonitor.push_step.Goals as goal

pub returns-in-Some-clause-ok : goal.returns-in-Some-clause-ok
returns-in-Some-clause-ok c =
    let o = c.args.self.now.style in
    let s = c.args.step in
    let r = c.apply-reply.result in
    let w = state_of c.args.self.now.core in
    let u = state_of c.apply-reply.new.self in
    let v = state_of c.push_close.new.self.core in
    let f = c.reply_format-format.result in
    let l = put_back_by c.args.label in
    let given = put_back_by c.of_step-label.result in
    let is : given ≡ of_step l s = c.of_step-label.ensures in
    let answered = c.apply-reply.ensures.answered in
    let text : ReplyLabel → Reply → List ℕ = λ x q. labelled_reply f x q in
    let done = complete_step s r u c.judged_by-judged.result c.is_accepted.result c.judged_by-judged.ensures c.is_accepted.ensures c.in-Some.id c.in-Some.ensures.1 in
    IfOk-weaker c.push_close.result _ _
    (λ change k. (
      r ∷ k.0 ∷ [],
      text (of_step l s) r ++ text (of_step l s) k.0,
      takes_closed o l f c.args.asked c.reply_format-format.ensures s r w u answered v k.0 (behind_closed o.closes s r k.0 u v c.in-Some.id c.in-Some.ensures.0 done k.1),
      (refl, judged_unchanged w u s r c.in-Some.id done.0 answered, k.2),
      λ off. closes_not_off o.closes c.in-Some.ensures.0 off,
      k.3 ∙ ap (λ (t : List ℕ). t ++ text given k.0) c.in_ok-push_labelled_reply.ensures ∙ append_assoc c.args.self.now.text.items (text given r) (text given k.0)
          ∙ ap (λ (x : ReplyLabel). c.args.self.now.text.items ++ (text x r ++ text x k.0)) is,
    ))
    c.push_close.ensures.ok

pub returns-clause-ok : goal.returns-clause-ok
returns-clause-ok c =
    let o = c.args.self.now.style in
    let s = c.args.step in
    let r = c.apply-reply.result in
    let w = state_of c.args.self.now.core in
    let u = state_of c.apply-reply.new.self in
    let f = c.reply_format-format.result in
    let l = put_back_by c.args.label in
    let is : put_back_by c.of_step-label.result ≡ of_step l s = c.of_step-label.ensures in (
      r ∷ [],
      labelled_reply f (of_step l s) r,
      takes_open o l f c.args.asked c.reply_format-format.ensures s r w u c.apply-reply.ensures.answered
          (behind_none o.closes s r u (λ on. open_step s r u c.judged_by-judged.result c.is_accepted.result c.judged_by-judged.ensures c.is_accepted.ensures (c.in-None.ensures on))),
      c.change_by.ensures,
      λ off. c.apply-reply.ensures.memory,
      c.in_ok-push_labelled_reply.ensures ∙ ap (λ (x : ReplyLabel). c.args.self.now.text.items ++ labelled_reply f x r) is,
    )
