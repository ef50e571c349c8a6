use Rattle.std.proofs.Common.{◌≡◌, ◌++◌, drop}
use Rattle.scrib_types.specs.Texts.{after_each}
use Rattle.scrib_list.specs.Protocols.{role_names}
use Rattle.scrib_list.proofs.protocol_line.push_roles.Given as goal

abbrev pub invariant-loop-role : goal.invariant-loop-role
invariant-loop-role l = l.out.items ++ after_each 32 (role_names (drop l.role-index l.roles)) ≡ l.fn.out.items ++ after_each 32 (role_names l.roles)
