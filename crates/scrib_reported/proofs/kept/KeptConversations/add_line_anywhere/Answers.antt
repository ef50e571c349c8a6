use Rattle.std.proofs.Common.{sym, subst}
use Rattle.scrib_reported.specs.declared.kept.KeptConversations.{KeptConversations}
use Rattle.scrib_reported.specs.Kept.{IsKept, keeping, with_line}
use Rattle.scrib_reported.proofs.kept.KeptConversations.add_line_anywhere.Goals as goal

pub returns : goal.returns
returns c =
    let before = keeping c.args.self.now in
    subst (λ (k : KeptConversations). IsKept before c.args.id (with_line (before c.args.id) c.args.line) (keeping k)) (sym c.hint.ensures) c.in_ok-add_line_by_key.ensures
