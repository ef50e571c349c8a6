use Rattle.scrib_why.proofs.NameLists.{all_lines}
use Rattle.scrib_why.proofs.printing.push_list.Goals as goal

pub returns : goal.returns
returns c =
    rw (all_lines c.args.out.now.items _ _ _ _ _ _ _ _ _ _ _
    c.text_kinds.ensures c.protocol_kinds.ensures c.choice_kinds.ensures c.library_kinds.ensures c.step_kinds.ensures c.reason_kinds.ensures
    c.in_ok-push_names.ensures c.in_ok-push_names-2.ensures c.in_ok-push_names-3.ensures c.in_ok-push_names-4.ensures c.in_ok-push_names-5.ensures)
    c.push_names-6.ensures
