-- Lemmas for the functions behind `project` and `machine`.
use Rattle.std.proofs.Common.{◌≡◌, ◌+◌, ◌||◌, inl, inr, ℕ, ◌<◌, ◌≤◌, IsTrue, Bool, true, false, List, [], ◌∷◌, ◌++◌, ◌∙◌, length, drop, get_or, Option, Some, Result, Ok, Err, IfOk, sym, ap, refl, arith}
use Rattle.std.specs.Str.{bytes_eq}
use Rattle.std.proofs.lemmas.Bool.{false_from_ne_true, and_parts}
use Rattle.std.proofs.lemmas.Slice.Eq.{bytes_eq-Decides}
use Rattle.std.proofs.lemmas.List.{length-append, at_drop_more}
use Rattle.scrib_types.specs.Agreement.{Agreement}
use Rattle.scrib_types.specs.Trees.{GlobalTree, GlobalEnd, GlobalVar, GlobalRec, Comm, Flight, GlobalBranches, NoBranch, Branch, LocalTree}
use Rattle.scrib_types.specs.declared.profile.Profile.{Profile}
use Rattle.scrib_types.specs.Projection.{projection, is_closed}
use Rattle.scrib_project.proofs.ProfileLemmas.{wider}
use Rattle.scrib_types.specs.WellFormed.{has_role, well_formed}
use Rattle.scrib_machine.specs.Compilable.{IsCompilable}
use Rattle.scrib_machine.specs.Projected as projected
use Rattle.scrib_machine.specs.Projected.{global_nodes, projected_compilable}
use Rattle.scrib_lexer.specs.declared.fault.LexFault.{LexFault}
use Rattle.scrib_lexer.specs.declared.fault.LexFault.TheVariants as lex
use Rattle.scrib_lexer.specs.Lexeme.{Lexeme}
use Rattle.scrib_lexer.specs.Tokens as tokens
use Rattle.scrib_lexer.specs.Tokens.{IsTokens}
use Rattle.scrib_parser.specs.declared.fault.ParseFault.{ParseFault}
use Rattle.scrib_parser.specs.declared.fault.ParseFault.TheVariants as parse
use Rattle.scrib_tree.specs.declared.tree.ModuleTree.{ModuleTree}
use Rattle.scrib_parser.specs.Grammar.{IsParseFault}
use Rattle.scrib_static_checks.specs.Elaboration.{Elaborates, nodes, branch_nodes}
use Rattle.scrib_elaborate.specs.Sound.{is_sound}
use Rattle.scrib_library.specs.declared.fault.EditFault.{EditFault}
use Rattle.scrib_library.specs.declared.fault.EditFault.TheVariants as edit
use Rattle.scrib_library.specs.FaultConversions.{edit_fault_of_lex, edit_fault_of_parse}
use Rattle.scrib_script_reader.specs.Fields.{IsDottedText}
use Rattle.scrib_script_reader.proofs.Pieces.{dotted-pieces}
use Rattle.scrib_script_io.specs.declared.fault.ScriptFault.{ScriptFault}
use Rattle.scrib_cli.specs.declared.full_name.FullName.{FullName}
use Rattle.scrib_cli.specs.declared.projection.Projection.{Projection}
use Rattle.scrib_cli.specs.Projections.{IsFullName, AreAdded, IsNoModule, has_no_tokens, has_no_tree, IsProjection, undeclared, unmerged, does}
use Rattle.scrib_cli.specs.ProjectionSteps.{IsUnreadOrRefused, IsRoleProjection, role_projects, role_undeclared, role_unmerged, IsRefusalPlaced}

-- why the text has no tokens
pub lex_refused : (text : List ℕ) (f : LexFault) → tokens.LexFailsAt text f → IsUnreadOrRefused text (edit_fault_of_lex f)
lex_refused text lex.OutOfMemory h = inl refl
lex_refused text lex.TextTooLong h = inr (has_no_tokens lex.TextTooLong h)
lex_refused text (lex.BadByte at) h = inr (has_no_tokens (lex.BadByte at) h)
lex_refused text (lex.OpenComment at) h = inr (has_no_tokens (lex.OpenComment at) h)
lex_refused text (lex.OpenString at) h = inr (has_no_tokens (lex.OpenString at) h)
lex_refused text (lex.LongName at) h = inr (has_no_tokens (lex.LongName at) h)

pub parse_refused : (text : List ℕ) (ts : List Lexeme) (f : ParseFault) → IsTokens text ts → IsParseFault ts f → IsUnreadOrRefused text (edit_fault_of_parse f)
parse_refused text ts parse.OutOfMemory t h = inl refl
parse_refused text ts parse.EndOfText t h = inr (has_no_tree ts parse.EndOfText t h)
parse_refused text ts (parse.Unexpected at) t h = inr (has_no_tree ts (parse.Unexpected at) t h)
parse_refused text ts (parse.LeftOut word at) t h = inr (has_no_tree ts (parse.LeftOut word at) t h)
parse_refused text ts (parse.TooDeep at) t h = inr (has_no_tree ts (parse.TooDeep at) t h)

pub unread_for : (text : List ℕ) (f : EditFault) → IsUnreadOrRefused text f → (f ≡ edit.OutOfMemory → ⊥) → IsNoModule text f
unread_for text f (inl e) ne = absurd (ne e)
unread_for text f (inr h) ne = h

no_names : (xs : List (List ℕ)) → length xs ≡ 0 → xs ≡ []
no_names [] e = refl
no_names (x ∷ xs) e = absurd (omega arith)

-- a dotted text joins one list of names
same_names : (bytes : List ℕ) (a b : List (List ℕ)) → IsDottedText bytes a → IsDottedText bytes b → a ≡ b
same_names bytes a b h k = sym (dotted-pieces bytes a h).0 ∙ (dotted-pieces bytes b k).0

-- one name alone is no full name
pub alone : (bytes : List ℕ) (names : List (List ℕ)) (last : List ℕ) → IsDottedText bytes (names ++ last ∷ []) → length names ≡ 0 → (name : FullName) → IsFullName bytes name → ⊥
alone bytes names last h e name k =
    let same : names ++ last ∷ [] ≡ name.home ++ name.protocol ∷ [] = same_names bytes (names ++ last ∷ []) (name.home ++ name.protocol ∷ []) h k.0 in
    omega (arith, ap length same, length-append names (last ∷ []), length-append name.home (name.protocol ∷ []), k.1)

-- where the protocol can be elaborated, the result is that of the role
on_role : (profile : Profile) (texts : List (Option (List ℕ))) (protocol role : List ℕ) (name : FullName) (modules : List ModuleTree) (a : Agreement) (p : Projection)
    → IsFullName protocol name → AreAdded [] texts modules → Elaborates modules name.home name.protocol a → IsRoleProjection profile a role p → IsRefusalPlaced profile modules name.home name.protocol a.global p → IsProjection profile texts protocol role p
on_role profile texts protocol role name modules a _ n m e (role_projects l is p) at = does name modules a l n m e is p
on_role profile texts protocol role name modules a _ n m e (role_undeclared none) at = undeclared name modules a n m e none
on_role profile texts protocol role name modules a _ n m e (role_unmerged u is h) at = unmerged name modules a u n m e is h at

pub ok_role : (profile : Profile) (texts : List (Option (List ℕ))) (protocol role : List ℕ) (name : FullName) (modules : List ModuleTree) (a : Agreement) (r : Result Projection ScriptFault)
    → IsFullName protocol name → AreAdded [] texts modules → Elaborates modules name.home name.protocol a → IfOk r (IsRoleProjection profile a role) → IfOk r (IsRefusalPlaced profile modules name.home name.protocol a.global) → IfOk r (IsProjection profile texts protocol role)
ok_role profile texts protocol role name modules a (Ok p) n m e h at = on_role profile texts protocol role name modules a p n m e h at
ok_role profile texts protocol role name modules a (Err f) n m e h at = tt

-- the role at this place has the name
pub declared_here : (roles : List (List ℕ)) (i : ℕ) (name role : List ℕ) → i < length roles → role ≡ get_or roles i role → role ≡ name → has_role name (drop i roles) ≡ has_role name roles → has_role name roles ≡ true
declared_here roles i name role h here same after =
    let is_here : bytes_eq name (get_or roles i role) ≡ true = (bytes_eq-Decides name (get_or roles i role)).1 (sym same ∙ here) in
    sym after ∙ at_drop_more (has_role name) roles i role h ∙ ap (λ (b : Bool). b || has_role name (drop (i + 1) roles)) is_here

-- the role at this place has another name
pub declared_later : (roles : List (List ℕ)) (i : ℕ) (name role : List ℕ) → i < length roles → role ≡ get_or roles i role → (role ≡ name → ⊥) → has_role name (drop i roles) ≡ has_role name roles
    → has_role name (drop (i + 1) roles) ≡ has_role name roles
declared_later roles i name role h here other after =
    let not_here : bytes_eq name (get_or roles i role) ≡ false = false_from_ne_true (bytes_eq name (get_or roles i role)) (λ e. other (here ∙ sym ((bytes_eq-Decides name (get_or roles i role)).0 e))) in
    sym (ap (λ (b : Bool). b || has_role name (drop (i + 1) roles)) not_here) ∙ sym (at_drop_more (has_role name) roles i role h) ∙ after

-- the rest of a list begins with the value at its place
pub front_is : {A : Type 0} (xs : List A) (i : ℕ) (x y : A) → i < length xs → x ≡ get_or xs i x → x ≡ y → drop i xs ≡ y ∷ drop (i + 1) xs
front_is xs i x y h e s = at_drop_more (λ l. l) xs i x h ∙ ap (λ z. z ∷ drop (i + 1) xs) (sym e ∙ s)

-- the two counts of a global type's nodes agree
mutual
  same_nodes : (g : GlobalTree) → global_nodes g ≡ nodes g
  same_nodes GlobalEnd = refl
  same_nodes (GlobalVar n) = refl
  same_nodes (GlobalRec g) = ap (λ k. 1 + k) (same_nodes g)
  same_nodes (Comm p q bs) = ap (λ k. 1 + k) (same_branch_nodes bs)
  same_nodes (Flight p q j bs) = ap (λ k. 1 + k) (same_branch_nodes bs)

  same_branch_nodes : (bs : GlobalBranches) → projected.branch_nodes bs ≡ branch_nodes bs
  same_branch_nodes NoBranch = refl
  same_branch_nodes (Branch m g bs) = let e = same_nodes g in let f = same_branch_nodes bs in cc

-- a projection of an elaborated protocol can be compiled
pub has_machine : (profile : Profile) (roles : List (List ℕ)) (role : List ℕ) (g : GlobalTree) (l : LocalTree) → IsTrue (is_sound roles g) → nodes g ≤ 65536 → projection profile role g ≡ Some l → IsCompilable l
unfolding is_sound
has_machine profile roles role g l sound small e =
    let formed = and_parts _ (well_formed roles g) sound in
    let shut = and_parts _ (is_closed g) formed.0 in
    projected_compilable roles role g l formed.1 shut.1 (omega (arith, same_nodes g)) (wider profile role g l e)
