use Rattle.std.proofs.Common.{◌≡◌, ◌<◌, ◌∙◌, List, ap, length, subst, sym, arith}
use Rattle.scrib_types.specs.Agreement.{Agreement}
use Rattle.scrib_record.specs.declared.numbered_edge.NumberedEdge.{NumberedEdge}
use Rattle.scrib_record.specs.Exchanges.{AreExchanges, IsNumberingOf}
use Rattle.scrib_record.specs.Versions.{meaning_of}
use Rattle.scrib_record.proofs.AdvanceLemmas.{read_at}
use Rattle.scrib_record.proofs.NumberingSteps.{numbered_none, numbered_more, numbered_all}
use Rattle.scrib_record.proofs.numbering.number_machines.Goals as goal

pub loop-place-init : goal.loop-place-init
loop-place-init c =
    let v = c.args.version.now in
    numbered_none (meaning_of v).roles v.machines c.args.exchanges.now _ c.requires c.in_ok-all.ensures.items

pub loop-place-preserved : goal.loop-place-preserved
loop-place-preserved c =
    let v = c.args.version.now in
    let a = meaning_of v in
    let i = c.loop-place.place in
    let made = c.machines-machines.ensures in
    let roles = c.roles-roles.ensures.roles ∙ ap (λ (x : Agreement). x.roles) c.protocol.ensures in
    let within : i < length c.roles-roles.result.now = omega (arith, c.loop-place-test.true, made.follow.count, ap length made.machines, ap length roles) in
    let role = read_at c.roles-roles.result.now a.roles i c.index-roles-place.result roles within c.index-roles-place.is in
    let machine = read_at c.machines-machines.result.now v.machines i c.index-machines-place.result made.machines c.loop-place-test.true c.index-machines-place.is in
    let done = c.in_ok-rows.ensures in
    numbered_more a.roles v.machines c.loop-place.exchanges c.number_rows.new.exchanges c.loop-place.all.items c.push.new.self.items i c.index-roles-place.result c.index-machines-place.result c.in_ok-rows.rows role machine c.loop-place.invariant
    (subst (λ (rs : List (List _)). AreExchanges rs c.number_rows.new.exchanges) roles done.exchanges) done.kept done.rows c.in_ok-push.ensures.items

pub returns : goal.returns
returns c =
    let v = c.args.version.now in
    let a = meaning_of v in
    let made = c.machines-machines.ensures in
    let long : length v.machines ≡ c.loop-place.place = omega (arith, c.loop-place-test.false, c.loop-place.auto.place-end, ap length made.machines) in
    subst (λ (ns : List (List (List NumberedEdge))). IsNumberingOf a.roles v.machines c.loop-place.exchanges ns) (sym c.from_vec.ensures)
    (numbered_all a.roles v.machines c.loop-place.exchanges c.loop-place.all.items c.loop-place.place long c.loop-place.invariant)
