use Rattle.std.proofs.Common.{Some, sym, ap, ◌∙◌, subst}
use Rattle.scrib_type_builder.specs.declared.built_type.BuiltType.{BuiltType}
use Rattle.scrib_type_builder.specs.BuiltType.{type_of}
use Rattle.scrib_static_checks.specs.Elaboration.{start_of}
use Rattle.scrib_static_checks.specs.Table.{declaration_of}
use Rattle.scrib_elaborate.specs.Typing.{made_of, FramesMake}
use Rattle.scrib_elaborate.proofs.SiteLemmas.{made_is}
use Rattle.scrib_static_checks.proofs.TableLemmas.{lent_at}
use Rattle.scrib_elaborate.proofs.memo.memoized_type.Goals as goal

pub returns-in-Some-Some-clause-ok : goal.returns-in-Some-Some-clause-ok
returns-in-Some-Some-clause-ok c =
    let context = c.args.context.now in
    let typed = c.in-Some-Some.typed in
    let m = c.in-Some-Some in
    let there = lent_at context.memo.now c.args.place m.field-0.now m.ensures.lookup.0 m.ensures.lookup.1 ∙ ap Some m.field-0-is in
    let alone = c.requires.table.memo c.args.place (declaration_of context.root) typed c.requires.there there in
    let unboxed = c.get-in-Some-Some.ensures in
    let global = c.in_ok-typed.ensures.global ∙ ap type_of unboxed in
    let origins = c.in_ok-typed.ensures.origins ∙ ap (λ (t : BuiltType). t.origins.items) unboxed in
    let same = made_is (made_of typed) (made_of c.in_ok-typed.typed) (sym global) (sym origins) in
    subst (λ m. FramesMake context.modules.now 0 (start_of (declaration_of context.root)) m) same alone.made
