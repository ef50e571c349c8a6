use Rattle.std.proofs.Common.{sym, ap, ◌∙◌, subst, arith}
use Rattle.std.specs.List.{AllZip}
use Rattle.scrib_types.specs.Agreement.{Agreement}
use Rattle.scrib_types.specs.GlobalView.{global_of}
use Rattle.scrib_static_checks.specs.Names.{role_names}
use Rattle.scrib_static_checks.specs.Elaboration.{Elaborates}
use Rattle.scrib_elaborate.specs.Meaning.{sites_of}
use Rattle.scrib_elaborate.specs.Sites.{communications, several, IsSiteOf}
use Rattle.scrib_elaborate.specs.Typing.{origin_sites}
use Rattle.scrib_static_checks.specs.Table.{shown, declaration_of}
use Rattle.scrib_elaborate.proofs.SoundnessLemmas.{accepted_sound, size_is_nodes, size_is_height}
use Rattle.scrib_elaborate.proofs.PassResults.{elaborated}
use Rattle.scrib_elaborate.proofs.SiteLemmas.{sites_of_origins}
use Rattle.scrib_elaborate.proofs.elaborate.finish.Goals as goal

pub new-requires-clause-counted : goal.new-requires-clause-counted
new-requires-clause-counted c =
    let context = c.args.context.now in
    sym (size_is_nodes context.modules.now (declaration_of context.root) c.args.count (global_of c.in-Ok.typed.global) c.requires.ready.size.counted c.in-Ok.ensures.ok.typed)

pub new-requires-clause-small : goal.new-requires-clause-small
new-requires-clause-small c = c.requires.ready.size.small

pub new-requires-clause-short : goal.new-requires-clause-short
new-requires-clause-short c =
    let context = c.args.context.now in
    let within = c.requires.ready.size in
    let high = size_is_height context.modules.now (declaration_of context.root) within.height (global_of c.in-Ok.typed.global) within.measured c.in-Ok.ensures.ok.typed in
    omega (arith, high, within.short)

pub new-requires-clause-sound : goal.new-requires-clause-sound
new-requires-clause-sound c =
    let context = c.args.context.now in
    let g = global_of c.in-Ok.typed.global in
    accepted_sound context.modules.now c.args.module.now c.args.protocol.now (record { roles = c.in_ok-roles-in-Ok.roles; global = g }) (elaborated context.modules.now (shown context.declared.now) (declaration_of context.root) c.args.count c.args.module.now c.args.protocol.now c.in_ok-roles-in-Ok.roles g c.requires.ready (c.in_ok-roles-in-Ok.ensures ∙ ap role_names c.as_slice.ensures) c.in-Ok.ensures.ok.typed)

pub returns-in_ok-sites-in-Ok-clause-ok : goal.returns-in_ok-sites-in-Ok-clause-ok
returns-in_ok-sites-in-Ok-clause-ok c =
    let context = c.args.context.now in
    let g = global_of c.in-Ok.typed.global in
    subst (λ a. Elaborates context.modules.now c.args.module.now c.args.protocol.now a) (sym c.new.ensures.meaning) (elaborated context.modules.now (shown context.declared.now) (declaration_of context.root) c.args.count c.args.module.now c.args.protocol.now c.in_ok-roles-in-Ok.roles g c.requires.ready (c.in_ok-roles-in-Ok.ensures ∙ ap role_names c.as_slice.ensures) c.in-Ok.ensures.ok.typed)

pub returns-in_ok-sites-in-Ok-clause-sites : goal.returns-in_ok-sites-in-Ok-clause-sites
returns-in_ok-sites-in-Ok-clause-sites c =
    let ms = c.args.context.now.modules.now in
    let root = declaration_of c.args.context.now.root in
    let g = global_of c.in-Ok.typed.global in
    let sites = sites_of_origins ms root (communications 0 g) c.in-Ok.typed.origins.items c.in-Ok.ensures.ok.marked in
    let returned = c.new.ensures.sites ∙ c.in_ok-sites-in-Ok.ensures ∙ ap origin_sites c.deref.ensures.value in
    record {
      root = root;
      there = c.requires.ready.there;
      each = subst (λ (a : Agreement). AllZip (IsSiteOf ms root) (several a.global) (sites_of c.new.result)) (sym c.new.ensures.meaning) (subst (λ js. AllZip (IsSiteOf ms root) (several g) js) (sym returned) sites);
    }
