use Rattle.std.proofs.Common.{Some, ap, ◌∙◌}
use Rattle.scrib_static_checks.proofs.TableLemmas.{lent_at}
use Rattle.scrib_elaborate.proofs.MemoLemmas.{kept_there, alone_there, some_alone}
use Rattle.scrib_elaborate.proofs.memo.alone.Goals as goal

pub type_alone-requires-clause-kept : goal.type_alone-requires-clause-kept
type_alone-requires-clause-kept c =
    let ds = c.args.table.now.declared.now in
    let states = c.args.states.now in
    let m = c.in-Some-Walked in
    let root = lent_at ds c.args.place c.in-Some.root.now c.in-Some.ensures.lookup.0 c.in-Some.ensures.lookup.1 in
    let walked = lent_at states c.args.place m.field-0.now m.ensures.lookup.0 m.ensures.lookup.1 ∙ ap Some m.field-0-is in
    (m.summary.exits, kept_there c.args.table.now.modules.now ds states c.args.place c.in-Some.root.now m.summary c.requires.idle.kept root walked)

pub returns : goal.returns
returns c =
    let ms = c.args.table.now.modules.now in
    let ds = c.args.table.now.declared.now in
    let states = c.args.states.now in
    let m = c.in-Some-Walked in
    let root = lent_at ds c.args.place c.in-Some.root.now c.in-Some.ensures.lookup.0 c.in-Some.ensures.lookup.1 in
    let walked = lent_at states c.args.place m.field-0.now m.ensures.lookup.0 m.ensures.lookup.1 ∙ ap Some m.field-0-is in
    rw c.in_ok-boxed.ensures (some_alone ms ds c.args.place c.in-Some.root.now c.in_ok-typed.typed (λ made. alone_there ms ds states c.args.place c.in-Some.root.now m.summary made c.requires.idle.kept root walked) c.in_ok-typed.ensures)
