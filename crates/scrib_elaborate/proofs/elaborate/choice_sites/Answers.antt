use Rattle.scrib_elaborate.proofs.SiteLemmas.{sites_some, sites_none}
use Rattle.scrib_elaborate.proofs.elaborate.choice_sites.Goals.{in-Some+in_ok-module+in_ok-push, in_default}
use Rattle.scrib_elaborate.proofs.elaborate.choice_sites.Goals as goal

pub loop-found-preserved : goal.loop-found-preserved
loop-found-preserved c =
    let js = c.args.origins.now in
    let i = c.loop-found.found-index in
    let x = c.found-item.result in
    elim c.match-found.branch [
      | in-Some+in_ok-module+in_ok-push w ↦ rw w.found_sites-is (sites_some js i x w.in-Some.origin w.in_ok-module.module c.loop-found.found_sites.items w.push.new.self.items c.loop-found-test.true c.found-item.is w.in-Some.is w.in_ok-module.ensures c.loop-found.invariant w.in_ok-push.ensures.items)
      | in_default w ↦ rw w.found_sites-is (sites_none js i x c.loop-found.found_sites.items c.loop-found-test.true c.found-item.is w.in_default.is c.loop-found.invariant)
    ]
