use Rattle.std.proofs.Common.{◌≡◌, true, false, length, refl, sym, ap, ◌∙◌, subst}
use Rattle.std.proofs.lemmas.Bool.{false≢true}
use Rattle.scrib_types.specs.GlobalView.{global_of, global_branches, global_end, global_var, global_rec, global_comm}
use Rattle.scrib_types.specs.Trees.{Comm}
use Rattle.scrib_static_checks.specs.Faults.{share_operator}
use Rattle.scrib_type_builder.specs.Operators.{AreChained, AreIndexed}
use Rattle.scrib_type_builder.proofs.Branches.{branches_append}
use Rattle.scrib_type_builder.proofs.OperatorIndexLemmas.{chained_more}
use Rattle.scrib_type_builder.proofs.Receivers.{not_first}
use Rattle.scrib_type_builder.proofs.choice_branches.add_branch.Goals as goal

pub returns-in-End-clause-fault : goal.returns-in-End-clause-fault
returns-in-End-clause-fault c = rw c.broken.ensures (refl, refl, ap global_of c.in-End.is ∙ global_end)

pub returns-in-Var-clause-fault : goal.returns-in-Var-clause-fault
returns-in-Var-clause-fault c =
    rw c.broken-in-Var.ensures (refl, refl, (c.in-Var.field-0, ap global_of c.in-Var.is ∙ global_var c.in-Var.field-0))

pub returns-in-Rec-clause-fault : goal.returns-in-Rec-clause-fault
returns-in-Rec-clause-fault c =
    rw c.broken-in-Rec.ensures (refl, refl, (global_of c.in-Rec.field-0, ap global_of c.in-Rec.is ∙ global_rec c.in-Rec.field-0))

pub returns-then-not-equal-clause-fault : goal.returns-then-not-equal-clause-fault
returns-then-not-equal-clause-fault c =
    let is = ap global_of c.in-Comm.is ∙ global_comm c.in-Comm.from c.in-Comm.to c.in-Comm.branches in
    rw c.broken-then-not-equal.ensures (refl, refl, (c.in-Comm.from, c.in-Comm.to, global_branches c.in-Comm.branches, is, λ e. false≢true (sym c.if-not-equal.true ∙ c.equal.ensures.same.1 e)))

pub returns-then-not-is_first-clause-fault : goal.returns-then-not-is_first-clause-fault
returns-then-not-is_first-clause-fault c =
    let cs = global_branches c.in-Comm.branches in
    let is = ap global_of c.in-Comm.is ∙ global_comm c.in-Comm.from c.in-Comm.to c.in-Comm.branches ∙ ap (λ p. Comm p c.in-Comm.to cs) (c.equal.ensures.same.0 c.if-not-equal.false) in
    let n = not_first c.args.so_far.now.receiver c.in-Comm.to (λ h. false≢true (sym c.if-not-is_first.true ∙ c.is_first.ensures.1 h)) in
    rw c.broken-then-not-is_first.ensures (refl, refl, (c.in-Comm.to, n.0, cs, is, n.1, n.2))

pub returns-then-share_operator-clause-fault : goal.returns-then-share_operator-clause-fault
returns-then-share_operator-clause-fault c =
    let cs = global_branches c.in-Comm.branches in
    let is = ap global_of c.in-Comm.is ∙ global_comm c.in-Comm.from c.in-Comm.to c.in-Comm.branches ∙ ap (λ p. Comm p c.in-Comm.to cs) (c.equal.ensures.same.0 c.if-not-equal.false) in
    let shared : share_operator (global_branches c.args.so_far.now.branches) cs ≡ true =
    sym (c.share_operator.ensures ∙ ap (λ bs. share_operator (global_branches c.args.so_far.now.branches) (global_branches bs)) c.as_slice.ensures) ∙ c.if-share_operator.true in
    rw c.broken-then-share_operator.ensures (refl, refl, (c.in-Comm.to, cs, is, c.is_first.ensures.0 c.if-not-is_first.false, shared))

pub returns-clause-ok : goal.returns-clause-ok
returns-clause-ok c =
    let cs = global_branches c.in-Comm.branches in
    let is = ap global_of c.in-Comm.is ∙ global_comm c.in-Comm.from c.in-Comm.to c.in-Comm.branches ∙ ap (λ p. Comm p c.in-Comm.to cs) (c.equal.ensures.same.0 c.if-not-equal.false) in
    let apart : share_operator (global_branches c.args.so_far.now.branches) cs ≡ false =
    sym (c.share_operator.ensures ∙ ap (λ bs. share_operator (global_branches c.args.so_far.now.branches) (global_branches bs)) c.as_slice.ensures) ∙ c.if-share_operator.false in
    record {
      receiver = c.in-Comm.to;
      branches = cs;
      is = is;
      first = c.is_first.ensures.0 c.if-not-is_first.false;
      receiver_is = refl;
      apart = apart;
      joined = ap global_branches c.in_ok-append-in-Comm.ensures ∙ branches_append c.args.so_far.now.branches c.in-Comm.branches;
    }

pub add_new-requires : goal.add_new-requires
add_new-requires c = λ some.
    let earlier = c.args.so_far.now.operators.earlier.items in
    let latest = c.args.so_far.now.operators.latest.items in
    let all = c.as_slice-in-Comm.ensures ∙ c.in_ok-append-in-Comm.ensures in
    subst (λ bs. AreChained bs (length earlier) latest earlier) (sym all) (chained_more c.args.so_far.now.branches c.in-Comm.branches latest earlier (c.requires some))

pub returns-clause-indexed : goal.returns-clause-indexed
returns-clause-indexed c =
    subst (λ bs. AreIndexed bs c.add_new.new.self.latest.items c.add_new.new.self.earlier.items) c.as_slice-in-Comm.ensures c.in_ok-add_new-in-Comm.ensures
