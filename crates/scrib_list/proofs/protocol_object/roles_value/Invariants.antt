use Rattle.std.proofs.Common.{◌≡◌, ◌++◌, map, drop}
use Rattle.serde_json.specs.View.{view}
use Rattle.scrib_list.specs.Protocols.{role_item}
use Rattle.scrib_list.proofs.protocol_object.roles_value.Given as goal

abbrev pub invariant-loop-role : goal.invariant-loop-role
invariant-loop-role l = map view l.values.items ++ map role_item (drop l.role-index l.roles) ≡ map role_item l.roles
