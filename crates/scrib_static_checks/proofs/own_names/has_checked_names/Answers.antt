use Rattle.std.proofs.Common.{◌≤◌, true, false, length, refl, sym, ◌∙◌, arith}
use Rattle.scrib_static_checks.proofs.ModuleNameLemmas.{imports_checked, protocols_checked, names_checked_as}
use Rattle.scrib_static_checks.proofs.own_names.has_checked_names.Goals as goal

pub returns-then-is_ok : goal.returns-then-is_ok
returns-then-is_ok c =
    let home = c.args.home.now in
    let few_imports : length home.imports ≤ 1024 = omega arith in
    let few_protocols : length home.protocols ≤ 1024 = omega arith in
    names_checked_as home true c.is_ok-then-is_ok.result few_imports few_protocols (sym c.if-is_ok.true ∙ c.is_ok.ensures.value ∙ imports_checked home c.check_imports.result c.check_imports.ensures) (c.is_ok-then-is_ok.ensures.value ∙ protocols_checked home c.check_protocols.result c.check_protocols.ensures)

pub returns-else-is_ok : goal.returns-else-is_ok
returns-else-is_ok c =
    let home = c.args.home.now in
    let few_imports : length home.imports ≤ 1024 = omega arith in
    let few_protocols : length home.protocols ≤ 1024 = omega arith in
    c.if-is_ok.false ∙ names_checked_as home false _ few_imports few_protocols (sym c.if-is_ok.false ∙ c.is_ok.ensures.value ∙ imports_checked home c.check_imports.result c.check_imports.ensures) refl
