use Rattle.std.specs.Prelude.{OnOk}
use Rattle.std.proofs.Common.{subst}
use Rattle.std.proofs.lemmas.Result.{on_ok_weaker}
use Rattle.scrib_reported.specs.declared.kept.KeptConversations.{KeptConversations}
use Rattle.scrib_reported.specs.Kept.{IsKept, keeping, with_line}
use Rattle.scrib_reported.proofs.KeptLemmas.{line_added_at}
use Rattle.scrib_reported.proofs.kept.KeptConversations.add_line.Goals as goal
use Rattle.scrib_reported.proofs.kept.KeptConversations.add_line.Goals.{else-is_at-via-else-is_at, else-is_at-via-then-is_at+in-None-1}

pub returns : goal.returns
returns c =
    let here = c.is_at.ensures c.if-is_at.true in
    on_ok_weaker c.push.result
    (line_added_at c.args.self.now.table c.hinted_place-place.result c.args.id c.args.line c.in-Some.kept.now here.0 c.push.new.self here.1 c.in-Some.ensures.unique c.in-Some.ensures.value)
    c.push.ensures.ok

pub returns-2 : goal.returns-2
returns-2 c = elim c.else-is_at.branch [
  | else-is_at-via-else-is_at w ↦ subst (λ (s : KeptConversations). OnOk c.add_line_anywhere.result (IsKept (keeping s) c.args.id (with_line (keeping s c.args.id) c.args.line) (keeping c.add_line_anywhere.new.self))) w.self-is c.add_line_anywhere.ensures
  | else-is_at-via-then-is_at+in-None-1 w ↦ subst (λ (s : KeptConversations). OnOk c.add_line_anywhere.result (IsKept (keeping s) c.args.id (with_line (keeping s c.args.id) c.args.line) (keeping c.add_line_anywhere.new.self))) w.self-is c.add_line_anywhere.ensures
]
