use Rattle.std.proofs.Common.{Some, None, sym, ◌∙◌}
use Rattle.scrib_static_checks.specs.Table.{shown}
use Rattle.scrib_static_checks.proofs.Places.{name_last, called_home-there, called_home-away, called_home-unknown}
use Rattle.scrib_static_checks.proofs.Checks.{called-is, entry_of, found_home}
use Rattle.scrib_static_checks.proofs.statements.called.Goals as goal

pub returns-in-Some-find : goal.returns-in-Some-find
returns-in-Some-find c =
    let context = c.args.context.now in
    let path = c.args.path.now in
    let names = c.as_slice-names in
    let h = c.in-Some.home.now in
    let last = c.index-names-last in
    let f = c.in-Some-find.ensures in
    let n = name_last path names.result.now last.result names.ensures.names names.ensures.some last.is in
    let there = found_home context.modules.now h last.result (shown context.declared.now) f.found c.requires.consistent.all f.first in
    let home = called_home-there context.modules.now context.at.home.now path names.result.now h names.ensures.names names.ensures.some c.in-Some.ensures there in
    entry_of context path c.in-Some-find.k f.found c.requires.consistent f.there (called-is context.modules.now context.at.home.now path h last.result _ (Some f.found) home n c.requires.consistent.all f.first)

pub returns-in-None : goal.returns-in-None
returns-in-None c =
    let context = c.args.context.now in
    let path = c.args.path.now in
    let names = c.as_slice-names in
    let h = c.in-Some.home.now in
    let last = c.index-names-last in
    let n = name_last path names.result.now last.result names.ensures.names names.ensures.some last.is in
    let home = called_home-there context.modules.now context.at.home.now path names.result.now h names.ensures.names names.ensures.some c.in-Some.ensures (sym c.has_module.ensures ∙ c.if-has_module.true) in
    rw c.broken-in-None.ensures (λ root. (path, c.args.roles.now, c.requires.occurs, λ e. absurd (cc (e, home)), called-is context.modules.now context.at.home.now path h last.result _ None home n c.requires.consistent.all c.in-None.ensures))

pub returns-in-None-2 : goal.returns-in-None-2
returns-in-None-2 c =
    let context = c.args.context.now in
    let path = c.args.path.now in
    let names = c.as_slice-names in
    let home = called_home-away context.modules.now context.at.home.now path names.result.now c.in-Some.home.now names.ensures.names names.ensures.some c.in-Some.ensures (sym c.has_module.ensures ∙ c.if-has_module.false) in
    rw c.broken-in-None-2.ensures (λ root. (path, c.args.roles.now, c.requires.occurs, sym home))

pub returns-in_default : goal.returns-in_default
returns-in_default c =
    let context = c.args.context.now in
    let path = c.args.path.now in
    let names = c.as_slice-names in
    let home = called_home-unknown context.modules.now context.at.home.now path names.result.now names.ensures.names names.ensures.some c.in_default.ensures in
    rw c.broken.ensures (λ root. (path, c.args.roles.now, c.requires.occurs, sym home))
