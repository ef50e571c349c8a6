-- The printed protocols of a module (this project's own).
use Rattle.std.specs.Prelude.{ℕ, List, [], ◌∷◌, ◌++◌, codes, map}
use Rattle.serde_json.specs.Data.{Data, string, array, object, no_members, member}
use Rattle.serde_json.specs.View.{items_of}
use Rattle.serde_json.specs.Written.{compact_text}
use Rattle.scrib_types.specs.Texts.{after_each, dotted_text}
use Rattle.scrib_tree.specs.declared.tree.ProtocolDeclaration.{ProtocolDeclaration}
use Rattle.scrib_tree.specs.declared.tree.RoleDeclaration.{RoleDeclaration}
use Rattle.scrib_core.specs.declared.format.Format.{Format}
use Rattle.scrib_core.specs.declared.format.Format.TheVariants as format

-- the full name of the protocol of this name in the module `home`, as `orders.Order`
abbrev pub full_name : (home : List (List ℕ)) (name : List ℕ) → List ℕ
full_name home name = dotted_text home ++ codes "." ++ name

-- the names of the roles
abbrev pub role_names : List RoleDeclaration → List (List ℕ)
role_names roles = map (λ (r : RoleDeclaration). r.name) roles

-- the line of a protocol, with its LF: the full name, and each role after a blank, as `orders.Order Client Orders`
unfoldable pub protocol_line : (home : List (List ℕ)) → ProtocolDeclaration → List ℕ
protocol_line home p = full_name home p.name ++ after_each 32 (role_names p.roles) ++ codes "\n"

-- the name of a role, as a JSON string
abbrev pub role_item : RoleDeclaration → Data
role_item r = string r.name

-- the names of the roles, as `["Client","Orders"]`
abbrev pub roles_array : List RoleDeclaration → Data
roles_array roles = array (items_of (map role_item roles))

-- the object of a protocol, as `{"protocol":"orders.Order","roles":["Client","Orders"]}`
unfoldable pub protocol_object : (home : List (List ℕ)) → ProtocolDeclaration → Data
protocol_object home p =
    object (member (codes "protocol") (string (full_name home p.name))
    (member (codes "roles") (roles_array p.roles) no_members))

-- a protocol in this format, with its LF
abbrev pub protocol_text : Format → (home : List (List ℕ)) → ProtocolDeclaration → List ℕ
protocol_text format.Line home p = protocol_line home p
protocol_text format.Json home p = compact_text (protocol_object home p) ++ 10 ∷ []

-- the protocols of the module `home`, in their order
abbrev pub protocol_texts : Format → (home : List (List ℕ)) → List ProtocolDeclaration → List ℕ
protocol_texts f home [] = []
protocol_texts f home (p ∷ ps) = protocol_text f home p ++ protocol_texts f home ps
