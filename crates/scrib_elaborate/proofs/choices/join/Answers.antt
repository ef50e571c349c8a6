use Rattle.std.proofs.Common.{◌≡◌, ◌+◌, ◌-◌, length, Option, Some, reverse, sym, ap, ◌∙◌, subst, arith}
use Rattle.std.specs.List.{slice_get}
use Rattle.std.specs.Option.{option_copied}
use Rattle.std.proofs.lemmas.Option.{slice_get_within}
use Rattle.scrib_type_builder.specs.declared.built_type.BuiltType.{BuiltType}
use Rattle.std.proofs.lemmas.Result.{MatchResult-weaker}
use Rattle.scrib_elaborate.specs.declared.tasks.Choosing.{Choosing}
use Rattle.scrib_static_checks.specs.Source.{Then, Chooses}
use Rattle.scrib_static_checks.specs.SourceView.{blocks_of}
use Rattle.scrib_static_checks.specs.Elaboration.{Under}
use Rattle.scrib_elaborate.specs.Scope.{scope_of}
use Rattle.scrib_elaborate.specs.Typing.{made_of, IsChoosing}
use Rattle.scrib_elaborate.proofs.FaultPrefixes.{stack_ahead, stops_ahead}
use Rattle.scrib_elaborate.proofs.ChoiceSteps.{block_typed, next_block, none_left, one_left}
use Rattle.scrib_elaborate.proofs.choices.join.Goals as goal

pub overflow_sub-left : goal.overflow_sub-left
overflow_sub-left c =
    let branches = c.args.choosing.branches.now in
    let n = one_left c.at-next.result c.args.choosing.follows c.in-Some.next c.in-Some.follows (sym c.zip.ensures ∙ c.in-Some.is) in
    let there : slice_get branches c.len.result ≡ Some c.in-Some.next.now = sym c.at-next.ensures ∙ ap option_copied n.0 in
    omega (arith, slice_get_within branches c.len.result c.in-Some.next.now there)

pub returns-in_default : goal.returns-in_default
returns-in_default c = λ modules target s.
    let old = c.args.tasks.now.items in
    let choosing = c.args.choosing in
    let types = c.push.new.self.items in
    let x = block_typed modules target (reverse old) choosing types c.args.typed c.in_ok-push.ensures.items s in
    let long : c.len.result ≡ length types = omega (arith, c.push.new.self.ok.0) in
    let y = c.joined.ensures modules target (reverse old) choosing.follows x (none_left choosing.branches.now types c.at-next.result choosing.follows _ c.len.result (sym c.zip.ensures ∙ c.in_default.is) c.at-next.ensures long x.few x.after) in
    let sc = scope_of choosing.scope in
    let ahead = stack_ahead modules target old choosing.scope.depth (Under sc (Then (Chooses choosing.chooser.now (blocks_of choosing.branches.now) choosing.spot) x.rest) x.outer) x.path in
    MatchResult-weaker c.joined.result y (λ t v. v) (λ e f. stops_ahead modules target.root old e f ahead)

pub returns : goal.returns
returns c = λ modules target s.
    let g = made_of c.in_ok-begun.begun in
    let old = c.args.tasks.now.items in
    let choosing = c.args.choosing in
    let branches = choosing.branches.now in
    let types = c.push.new.self.items in
    let next : Choosing = record {
      scope = choosing.scope;
      chooser = choosing.chooser;
      branches = choosing.branches;
      spot = choosing.spot;
      follows = c.in_ok-begun.follows;
      types = c.push.new.self;
    } in
    let x = block_typed modules target (reverse old) choosing types c.args.typed c.in_ok-push.ensures.items s in
    let n = one_left c.at-next.result choosing.follows c.in-Some.next c.in-Some.follows (sym c.zip.ensures ∙ c.in-Some.is) in
    let P : Option BuiltType → Type 0 = λ f. IsChoosing modules target (reverse old) (scope_of choosing.scope) choosing.scope.depth choosing.chooser.now branches choosing.spot f types in
    let y = subst P n.1 x in
    let long : c.len.result ≡ length types = omega (arith, c.push.new.self.ok.0) in
    let there : slice_get branches (length types) ≡ Some c.in-Some.next.now = ap (slice_get branches) (sym long) ∙ sym c.at-next.ensures ∙ ap option_copied n.0 in
    let left = length branches - c.len-2.result - 1 in
    let count : length types + 1 + left ≡ length branches = omega (arith, long, slice_get_within branches (length types) c.in-Some.next.now there) in
    c.in_ok-enter.ensures modules target g (λ inner same. next_block modules target (reverse old) next inner c.as_slice.result c.in-Some.next.now c.in-Some.follows left g there count same c.as_slice.ensures c.in_ok-begun.ensures.next c.in_ok-begun.ensures.others y)
