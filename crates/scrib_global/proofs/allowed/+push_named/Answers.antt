use Rattle.std.proofs.Common.{sym, ap, ◌∙◌, ◌++◌, inl, inr, append-nil}
use Rattle.scrib_types.specs.LocalView.{local_of, local_end, local_var}
use Rattle.scrib_global.specs.Named.{named}
use Rattle.scrib_global.proofs.allowed.+push_named.Goals as goal

pub push_named-returns-in-End : goal.push_named-returns-in-End
push_named-returns-in-End t c = elim c.in-End.is [
  | inl e ↦ sym (ap (λ l. c.args.list.now.items ++ named l) (ap local_of e ∙ local_end) ∙ append-nil c.args.list.now.items)
  | inr v ↦ sym (ap (λ l. c.args.list.now.items ++ named l) (ap local_of v.1 ∙ local_var v.0) ∙ append-nil c.args.list.now.items)
]

pub push_named-returns-in-End-2 : goal.push_named-returns-in-End-2
push_named-returns-in-End-2 t c = elim c.in-End.is [
  | inl e ↦ sym (ap (λ l. c.args.list.now.items ++ named l) (ap local_of e ∙ local_end) ∙ append-nil c.args.list.now.items)
  | inr v ↦ sym (ap (λ l. c.args.list.now.items ++ named l) (ap local_of v.1 ∙ local_var v.0) ∙ append-nil c.args.list.now.items)
]
