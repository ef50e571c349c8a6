-- No value in the object of a protocol is a float.
use Rattle.std.proofs.Common.{◌≡◌, ℕ, List, [], ◌∷◌, false, map, refl}
use Rattle.serde_json.specs.View.{items_of}
use Rattle.serde_json.specs.Written.{has_float, items_have_float}
use Rattle.scrib_tree.specs.declared.tree.ProtocolDeclaration.{ProtocolDeclaration}
use Rattle.scrib_tree.specs.declared.tree.RoleDeclaration.{RoleDeclaration}
use Rattle.scrib_list.specs.Protocols.{role_item, protocol_object}

roles_have_no_float : (roles : List RoleDeclaration) → items_have_float (items_of (map role_item roles)) ≡ false
roles_have_no_float [] = refl
roles_have_no_float (r ∷ roles) = roles_have_no_float roles

pub protocol_has_no_float : (home : List (List ℕ)) (p : ProtocolDeclaration) → has_float (protocol_object home p) ≡ false
unfolding protocol_object
protocol_has_no_float home p = rw (roles_have_no_float p.roles)
