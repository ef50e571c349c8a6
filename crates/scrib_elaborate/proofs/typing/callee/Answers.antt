use Rattle.std.proofs.Common.{Some, None, ap, ◌∙◌, subst, ⊎_elim, arith}
use Rattle.std.proofs.lemmas.Bool.{cases_Bool}
use Rattle.std.proofs.lemmas.Option.{slice_get_within}
use Rattle.scrib_static_checks.specs.Names.{Declaration, has_name, module_names}
use Rattle.scrib_static_checks.specs.CallEffect.{IsEffectOf}
use Rattle.scrib_static_checks.specs.Table.{shown}
use Rattle.scrib_static_checks.proofs.Places.{name_last, called_home-there, called_home-away, called_home-unknown}
use Rattle.scrib_static_checks.proofs.Checks.{called-is, entry_is, found_home}
use Rattle.scrib_elaborate.proofs.Steps.{no_callee}
use Rattle.scrib_elaborate.proofs.typing.callee.Goals as goal

pub effect_at-effect-requires : goal.effect_at-effect-requires
effect_at-effect-requires c =
    let f = c.in_ok-place.ensures in
    let context = c.args.context.now in
    let within = slice_get_within (shown context.declared.now) c.in_ok-place.place f.found f.there in
    let long = c.requires.kept.all in
    omega (arith, within, long)

pub returns-in_err-home-clause-none : goal.returns-in_err-home-clause-none
returns-in_err-home-clause-none c = λ none.
    let context = c.args.context.now in
    let path = c.args.path.now in
    let names = c.as_slice-names in
    no_callee context.modules.now c.args.at.now path (called_home-unknown context.modules.now c.args.at.now path names.result.now names.ensures.names names.ensures.some c.in_err-home.ensures)

pub returns-in_err-place-clause-none : goal.returns-in_err-place-clause-none
returns-in_err-place-clause-none c = λ none.
    let context = c.args.context.now in
    let at = c.args.at.now in
    let path = c.args.path.now in
    let names = c.as_slice-names in
    let home = c.in_ok-home.home.now in
    let last = c.index-names-last in
    let n = name_last path names.result.now last.result names.ensures.names names.ensures.some last.is in
    ⊎_elim (λ there. called-is context.modules.now at path home last.result _ None (called_home-there context.modules.now at path names.result.now home names.ensures.names names.ensures.some c.in_ok-home.ensures there) n c.requires.all c.in_err-place.ensures)
    (λ away. no_callee context.modules.now at path (called_home-away context.modules.now at path names.result.now home names.ensures.names names.ensures.some c.in_ok-home.ensures away))
    (cases_Bool (has_name home (module_names context.modules.now)))

pub returns-clause-place : goal.returns-clause-place
returns-clause-place c =
    let f = c.in_ok-place.ensures in
    f.there ∙ ap Some (entry_is c.args.context.now.declared.now c.in_ok-place.place f.found c.index-context-place.result f.there)

pub returns-clause-called : goal.returns-clause-called
returns-clause-called c =
    let f = c.in_ok-place.ensures in
    let context = c.args.context.now in
    let n = name_last c.args.path.now c.as_slice-names.result.now c.index-names-last.result c.as_slice-names.ensures.names c.as_slice-names.ensures.some c.index-names-last.is in
    let there = found_home context.modules.now c.in_ok-home.home.now c.index-names-last.result (shown context.declared.now) f.found c.requires.all f.first in
    let home = called_home-there context.modules.now c.args.at.now c.args.path.now c.as_slice-names.result.now c.in_ok-home.home.now c.as_slice-names.ensures.names c.as_slice-names.ensures.some c.in_ok-home.ensures there in
    called-is context.modules.now c.args.at.now c.args.path.now c.in_ok-home.home.now c.index-names-last.result _ (Some f.found) home n c.requires.all f.first ∙ ap Some (entry_is context.declared.now c.in_ok-place.place f.found c.index-context-place.result f.there)

pub returns-clause-effect : goal.returns-clause-effect
returns-clause-effect c =
    let f = c.in_ok-place.ensures in
    let context = c.args.context.now in
    let P : Declaration → Type 0 = λ d. IsEffectOf context.modules.now d c.effect_at-effect.result in
    subst P (entry_is context.declared.now c.in_ok-place.place f.found c.index-context-place.result f.there) (c.effect_at-effect.ensures context.modules.now (shown context.declared.now) f.found c.requires.kept f.there)
