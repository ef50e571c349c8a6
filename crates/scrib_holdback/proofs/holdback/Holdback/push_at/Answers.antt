use Rattle.std.proofs.Common.{◌≡◌, ◌∙◌, false, sym, subst}
use Rattle.std.proofs.lemmas.Bool.{true≢false}
use Rattle.scrib_holdback.specs.Releases.{IsNextArrival}
use Rattle.scrib_holdback.proofs.ReleaseLemmas.{pushes_held, pushes_passed}
use Rattle.scrib_holdback.proofs.holdback.Holdback.push_at.Goals as goal

pub returns-then-not-is_next-clause-ok : goal.returns-then-not-is_next-clause-ok
returns-then-not-is_next-clause-ok g c =
    let no_ : c.is_next.result ≡ false = c.if-not-is_next.true in
    pushes_held g.A.Arrival.event c.args.arrival c.args.self.now c.hold.new.self c.args.released.now.items c.in_ok-hold.ensures.ok
    (λ n. true≢false (sym (c.is_next.ensures.1 (subst (λ e. IsNextArrival g.A.Arrival.event e c.args.self.now) (sym c.event.ensures) n)) ∙ no_))

pub returns-clause-ok : goal.returns-clause-ok
returns-clause-ok g c =
    pushes_passed g.A.Arrival.event c.args.arrival c.args.self.now c.pass.new.self c.drain_receivers.new.self
    c.args.released.now.items c.pass.new.released.items c.drain_receivers.new.released.items c.len-start.result
    c.in_ok-pass.ensures.ok c.in_ok-pass.ensures.appended (c.len-start.ensures ∙ c.args.released.now.ok.0)
    c.drain_receivers.ensures.drained c.drain_receivers.ensures.quiet
