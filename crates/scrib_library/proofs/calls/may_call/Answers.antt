use Rattle.std.proofs.Common.{sym, ◌∙◌}
use Rattle.std.proofs.lemmas.Bool.{false≢true}
use Rattle.scrib_library.proofs.CallLemmas.{other_module}
use Rattle.scrib_library.proofs.calls.may_call.Goals as goal

pub returns-else-same : goal.returns-else-same
returns-else-same c = λ none.
    other_module c.args.at.now c.args.home.now (λ e. false≢true (sym c.if-same.false ∙ c.same.ensures.1 e)) (λ s. false≢true (sym none ∙ c.imports_some.ensures.1 s))
