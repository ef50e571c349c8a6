use Rattle.std.proofs.Common.{◌≡◌, ◌+◌, ◌-◌, length, reverse, sym, ap, subst, arith}
use Rattle.std.proofs.lemmas.Option.{slice_get_within}
use Rattle.scrib_elaborate.specs.declared.tasks.Choosing.{Choosing}
use Rattle.scrib_static_checks.specs.Source.{Then, Chooses}
use Rattle.scrib_static_checks.specs.SourceView.{blocks_of}
use Rattle.scrib_static_checks.specs.Elaboration.{Under}
use Rattle.scrib_elaborate.specs.Scope.{scope_of}
use Rattle.scrib_elaborate.specs.Typing.{made_of, StopsAhead}
use Rattle.scrib_elaborate.proofs.FaultPrefixes.{stack_ahead}
use Rattle.scrib_elaborate.proofs.ChoiceSteps.{choosing_begins, no_block, next_block, no_item, first_item}
use Rattle.scrib_elaborate.proofs.choices.choose.Goals as goal

pub returns-in_default : goal.returns-in_default
returns-in_default c = λ modules target b.
    let old = c.args.tasks.now.items in
    let scope = c.args.scope in
    let fails = no_block modules target (reverse c.args.tasks.now.items) c.args.scope c.args.choice.chooser.now c.args.choice.branches.now c.args.choice.spot (made_of c.args.typed) (no_item c.args.choice.branches.now c.in_default.ensures.value) b in
    let ahead = stack_ahead modules target old scope.depth (Under (scope_of scope) (Then (Chooses c.args.choice.chooser.now (blocks_of c.args.choice.branches.now) c.args.choice.spot) b.rest) b.outer) b.path in
    subst (λ e. StopsAhead modules target.root old e) (sym c.broken.ensures) (fails, ahead)

pub returns : goal.returns
returns c = λ modules target b.
    let scope = c.args.scope in
    let old = c.args.tasks.now.items in
    let left = length c.args.choice.branches.now - 1 in
    let choosing : Choosing = record {
      scope = scope;
      chooser = c.args.choice.chooser;
      branches = c.args.choice.branches;
      spot = c.args.choice.spot;
      follows = c.in_ok-begun.follows;
      types = c.new.result;
    } in
    let g = made_of c.in_ok-begun.begun in
    let there = first_item c.args.choice.branches.now c.new.result.items c.in-Some.first.now c.new.ensures.items (sym c.in-Some.ensures.value) in
    let count : length c.new.result.items + 1 + left ≡ length c.args.choice.branches.now = omega (arith, ap length c.new.ensures.items, slice_get_within c.args.choice.branches.now (length c.new.result.items) c.in-Some.first.now there) in
    c.in_ok-enter.ensures modules target g (λ inner same. next_block modules target (reverse old) choosing inner c.as_slice.result c.in-Some.first.now c.args.typed left g there count same c.as_slice.ensures c.in_ok-begun.ensures.next c.in_ok-begun.ensures.others (choosing_begins modules target (reverse old) (scope_of scope) scope.depth c.args.choice.chooser.now c.args.choice.branches.now c.args.choice.spot c.args.typed c.new.result.items c.new.ensures.items b))
