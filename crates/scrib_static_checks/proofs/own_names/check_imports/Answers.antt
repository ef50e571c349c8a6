use Rattle.std.proofs.Common.{sym, ap, take, ◌∙◌, arith}
use Rattle.scrib_tree.specs.declared.tree.Import.{Import}
use Rattle.scrib_static_checks.specs.Names.{known_by, has_name, import_names}
use Rattle.scrib_static_checks.proofs.Places.{names-more, again-at}
use Rattle.scrib_static_checks.proofs.own_names.check_imports.Goals as goal

pub returns-then-has_import : goal.returns-then-has_import
returns-then-has_import c =
    let twice = ap (λ k. has_name k (import_names (take c.loop-i.i c.as_slice-imports.result.now))) (sym c.known_by.ensures) ∙ sym c.has_import.ensures ∙ c.if-has_import.true in
    again-at known_by has_name (λ (i : Import). i.spot) c.args.home.now.imports c.as_slice-imports.result.now c.loop-i.i c.loop-i.i c.index-imports-i.result c.as_slice-imports.ensures (omega arith) c.loop-i-test.true c.index-imports-i.is twice

pub loop-i-preserved : goal.loop-i-preserved
loop-i-preserved c =
    let other = ap (λ k. has_name k (import_names (take c.loop-i.i c.as_slice-imports.result.now))) (sym c.known_by.ensures) ∙ sym c.has_import.ensures ∙ c.if-has_import.false in
    names-more known_by c.as_slice-imports.result.now c.loop-i.i c.loop-i.i c.index-imports-i.result (omega arith) c.loop-i-test.true c.index-imports-i.is c.loop-i.invariant other
