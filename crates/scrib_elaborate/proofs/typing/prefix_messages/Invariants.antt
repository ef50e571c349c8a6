use Rattle.std.proofs.Common.{◌≡◌, drop, map}
use Rattle.scrib_static_checks.specs.Elaboration.{role_in, prefix_message}
use Rattle.scrib_elaborate.specs.Scope.{scope_of}
use Rattle.scrib_type_builder.specs.BuiltType.{type_of, add_no_origins}
use Rattle.scrib_elaborate.proofs.typing.prefix_messages.Given as goal

abbrev pub invariant-loop-i : goal.invariant-loop-i
invariant-loop-i l =
    let receivers = map (role_in (scope_of l.scope)) (drop l.i l.statement.to.now) in
    record {
      global : type_of l.typed ≡ prefix_message l.statement.message.now (role_in (scope_of l.scope) l.statement.from.now) receivers (type_of l.initial.typed);
      joins : l.typed.origins.items ≡ add_no_origins receivers l.initial.typed.origins.items;
    }
