-- A module text that is put, and whose reply is written.
use Rattle.std.proofs.Common.{◌≡◌, ℕ, Bool, List, Option, Some, None, inr, take, Result, Ok, Err, rules, subst}
use Rattle.std.specs.Prelude.{IfSome, IfOk}
use Rattle.std.specs.Io.KnownBytes.{Appends}
use Rattle.scrib_core.specs.declared.step.Step.TheVariants.{Put}
use Rattle.scrib_core.specs.declared.reply.Reply.{Reply}
use Rattle.scrib_core.specs.Answers.{State, IsAnswered}
use Rattle.scrib_report.specs.LineOutput.{reply_line}
use Rattle.scrib_script_io.specs.Writes.{AppendsPart}
use Rattle.scrib_cli.specs.Checks.{is_accepted, IsPutAnswered, IsChecked, IsPartChecked}

module _ (text : List ℕ) (w v : State) (reply : Reply) (was now : Option (List ℕ)) (answered : IsAnswered w (Put text) reply v) where
  put_answered : (input : List ℕ) → text ≡ take 1048577 input → IsPutAnswered input w reply v
  put_answered input e = subst (λ (t : List ℕ). IsAnswered w (Put t) reply v) e answered

  checked_so : (r : Option (List ℕ)) → IfSome r (λ input. text ≡ take 1048577 input) → (accepted : Bool) → (accepted ≡ is_accepted reply) × Appends was now (reply_line reply)
      → IfSome r (λ input. IsChecked input w accepted v was now)
  checked_so None read accepted outcome = search rules
  checked_so (Some input) read accepted outcome = (reply, put_answered input read, outcome.0, outcome.1)

  pub checked : {E : Type 0} (outcome : Result Bool E) (r : Option (List ℕ)) → IfSome r (λ input. text ≡ take 1048577 input)
      → IfOk outcome (λ accepted. (accepted ≡ is_accepted reply) × Appends was now (reply_line reply)) → IfOk outcome (λ accepted. IfSome r (λ input. IsChecked input w accepted v was now))
  checked (Ok accepted) r read h = checked_so r read accepted h
  checked (Err e) r read h = tt

  pub part_checked : (r : Option (List ℕ)) → IfSome r (λ input. text ≡ take 1048577 input) → AppendsPart was now (reply_line reply)
      → IfSome r (λ input. IsPartChecked input w v was now)
  part_checked None read part = search rules
  part_checked (Some input) read part = inr (reply, put_answered input read, part)
