use Rattle.scrib_static_checks.specs.SourceView.{body_of}
use Rattle.scrib_library.specs.Calls.{IsOther}
use Rattle.scrib_library.proofs.CallLemmas.{each_any}
use Rattle.scrib_library.proofs.reaching.is_caller.Goals as goal

pub returns-else-may_call : goal.returns-else-may_call
returns-else-may_call c = λ none.
    let entry = c.args.entry.now in
    let called = c.args.called.now in
    let name = called.protocol.now.name in
    each_any (IsOther entry.home.now called.home.now.name name) (λ path. c.may_call.ensures none name path) (body_of entry.protocol.now.body)
