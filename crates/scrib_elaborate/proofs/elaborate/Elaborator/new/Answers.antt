use Rattle.std.proofs.Common.{◌≡◌, length, rules, subst, sym}
use Rattle.scrib_static_checks.specs.ProtocolIndex.{IsProtocolIndex}
use Rattle.scrib_static_checks.specs.Table.{shown}
use Rattle.scrib_static_checks.specs.Walking.{AreUnwalked}
use Rattle.scrib_elaborate.proofs.MemoLemmas.{empty_is_memo}
use Rattle.scrib_static_checks.proofs.Walks.{idle_before}
use Rattle.scrib_elaborate.proofs.elaborate.Elaborator.new.Goals as goal

pub invariant_of-result : goal.invariant_of-result
invariant_of-result c =
    let ds = c.in_ok-declared.declared.items in
    let ms = c.args.modules.now in
    let long : c.len.result ≡ length ds = search rules in
    let fresh = subst (λ n. AreUnwalked n c.in_ok-states.states.items) long c.in_ok-states.ensures in
    record {
      all = c.in_ok-declared.ensures.all;
      indexed = subst (λ xs. IsProtocolIndex xs c.protocol_index.result.now.slots.items) (sym c.in_ok-declared.ensures.all) c.protocol_index.ensures;
      names_checked = c.in_ok-declared.ensures.names_checked;
      idle = idle_before ms ds c.in_ok-states.states.items fresh;
      memo = empty_is_memo ms (shown ds) c.in_ok-memo.memo.items c.in_ok-memo.ensures;
    }
