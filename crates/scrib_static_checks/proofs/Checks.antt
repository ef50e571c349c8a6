-- The results of the checks of a statement.
use Rattle.std.proofs.Common.{◌≡◌, ◌⊎◌, inl, inr, ⊎_elim, ℕ, ◌+◌, ◌<◌, Bool, true, false, ◌||◌, List, [], ◌∷◌, ◌++◌, length, get_or, drop, Option, Some, if◌then◌else◌, option_map, option_and_then, refl, ap, sym, ◌∙◌, subst, arith}
use Rattle.std.specs.List.{slice_get}
use Rattle.std.specs.Str.{bytes_eq}
use Rattle.std.proofs.lemmas.Bool.{false≢true, and_parts, or_left, or_right}
use Rattle.std.proofs.lemmas.List.{drop_more, length-map}
use Rattle.std.proofs.lemmas.Option.{slice_get-map, slice_get-get_or, slice_get_within}
use Rattle.scrib_types.specs.declared.spot.Spot.{Spot}
use Rattle.scrib_types.specs.WellFormed.{has_role}
use Rattle.scrib_tree.specs.declared.tree.ModuleTree.{ModuleTree}
use Rattle.scrib_tree.specs.declared.tree.ProtocolDeclaration.{ProtocolDeclaration}
use Rattle.scrib_tree.specs.declared.tree.Statement.{Statement as ParsedStatement}
use Rattle.scrib_tree.specs.declared.tree.Block.{Block}
use Rattle.scrib_static_checks.specs.declared.declared.Declaration.{Declaration as CodeDeclaration}
use Rattle.scrib_static_checks.specs.declared.fault.FaultKind.TheVariants as kind
use Rattle.scrib_static_checks.specs.declared.checking.State.{State}
use Rattle.scrib_static_checks.specs.declared.checking.CheckContext.{CheckContext}
use Rattle.scrib_static_checks.specs.Source.{Body, Done, Then, Statement, Chooses, Repeats, Continues, Blocks, NoBlock, OrBlock}
use Rattle.scrib_static_checks.specs.SourceView.{statement_of, body_of, blocks_of}
use Rattle.scrib_static_checks.specs.Names.{Declaration, dotted_eq, has_name, module_names, roles_of, declared_in, declarations, is_called, first_where, last_name, find_protocol, called_home, called}
use Rattle.scrib_static_checks.specs.Statements.{are_roles, BlockKeeps, end_keeps, then_keeps, StatementKeeps, BlocksKeep, none_keeps, or_keeps, chooses_keeps, repeats_keeps, continues_keeps}
use Rattle.scrib_static_checks.specs.Faults.{here, later, in_choice, in_rec, in_this, in_other, IsRestIn, IsLoose, HasStatement, Fails, spot_of}
use Rattle.scrib_static_checks.specs.Table.{declaration_of, shown, IsConsistent, IsPart, AreParts, IsEntry}

-- the protocol that a call names

pub called-is : (ms : List ModuleTree) (m : ModuleTree) (path : List (List ℕ)) (h : List (List ℕ)) (name : List ℕ) (ds : List Declaration) (r : Option Declaration)
    → Some h ≡ called_home ms m path → name ≡ last_name path → ds ≡ declarations ms → first_where (is_called h name) ds ≡ r → called ms m path ≡ r
called-is ms m path h name ds r e n d f =
    ap (option_and_then (λ x. find_protocol ms x (last_name path))) (sym e) ∙ (λ i. first_where (is_called h (sym n i)) (sym d i)) ∙ f

-- the module in which a protocol is declared exists

declared_home : (h : List (List ℕ)) (name : List ℕ) (m : ModuleTree) (ps : List ProtocolDeclaration) (rest : List Declaration) (d : Declaration) → first_where (is_called h name) (declared_in m ps ++ rest) ≡ Some d
    → (dotted_eq h m.name ≡ true) ⊎ (first_where (is_called h name) rest ≡ Some d)
declared_home h name m [] rest d e = inr e
declared_home h name m (p ∷ ps) rest d e = case (declared_home h name m ps rest d) (is_called h name (record { home = m; protocol = p })) refl e
  where
    case : (first_where (is_called h name) (declared_in m ps ++ rest) ≡ Some d → (dotted_eq h m.name ≡ true) ⊎ (first_where (is_called h name) rest ≡ Some d)) → (t : Bool) → is_called h name (record { home = m; protocol = p }) ≡ t
        → (if t then Some (record { home = m; protocol = p }) else first_where (is_called h name) (declared_in m ps ++ rest)) ≡ Some d → (dotted_eq h m.name ≡ true) ⊎ (first_where (is_called h name) rest ≡ Some d)
    case more true passes e = inl (and_parts (bytes_eq name p.name) (dotted_eq h m.name) passes).1
    case more false passes e = more e

home_found : (ms : List ModuleTree) (h : List (List ℕ)) (name : List ℕ) (d : Declaration) → first_where (is_called h name) (declarations ms) ≡ Some d → has_name h (module_names ms) ≡ true
home_found [] h name d e = absurd (cc e)
home_found (m ∷ ms) h name d e =
    ⊎_elim (λ t. or_left (dotted_eq h m.name) (has_name h (module_names ms)) t) (λ f. or_right (dotted_eq h m.name) (has_name h (module_names ms)) (home_found ms h name d f)) (declared_home h name m m.protocols (declarations ms) d e)

pub found_home : (ms : List ModuleTree) (h : List (List ℕ)) (name : List ℕ) (ds : List Declaration) (d : Declaration) → ds ≡ declarations ms → first_where (is_called h name) ds ≡ Some d → has_name h (module_names ms) ≡ true
found_home ms h name ds d all e = home_found ms h name d (ap (first_where (is_called h name)) (sym all) ∙ e)

-- an entry of the table

pub entry_within : (ds : List CodeDeclaration) (k : ℕ) (c : Declaration) → slice_get (shown ds) k ≡ Some c → k < length ds
entry_within ds k c e =
    let within = slice_get_within (shown ds) k c e in
    let long : length (shown ds) ≡ length ds = length-map ds declaration_of in
    omega arith

pub entry_is : (ds : List CodeDeclaration) (k : ℕ) (c : Declaration) (d : CodeDeclaration) → slice_get (shown ds) k ≡ Some c → c ≡ declaration_of (get_or ds k d)
entry_is ds k c d e =
    let within = entry_within ds k c e in
    let there : slice_get (shown ds) k ≡ Some (declaration_of (get_or ds k d)) =
    slice_get-map declaration_of ds k ∙ ap (option_map declaration_of) (slice_get-get_or ds k d within) in
    cc

pub state_is : (states : List State) (k : ℕ) (d s : State) → k < length states → get_or states k d ≡ s → slice_get states k ≡ Some s
state_is states k d s h e = slice_get-get_or states k d h ∙ ap Some e

pub entry_of : (p : CheckContext) (path : List (List ℕ)) (k : ℕ) (c : Declaration) → IsConsistent p → slice_get (shown p.declared.now) k ≡ Some c → called p.modules.now p.at.home.now path ≡ Some c → IsEntry p path k
entry_of p path k c consistent at there =
    let within = entry_within p.declared.now k c at in
    record { to = c; at = at; there = there; within = within; stated = omega (arith, consistent.states, within) }

-- the names of a message

pub no_sender : (p : List ℕ) (qs roles : List (List ℕ)) → has_role p roles ≡ false → are_roles (p ∷ qs) roles ≡ false
no_sender p qs roles e = rw e refl

pub no_receiver : (p : List ℕ) (qs roles : List (List ℕ)) → has_role p roles ≡ true → are_roles qs roles ≡ false → are_roles (p ∷ qs) roles ≡ false
no_receiver p qs roles e f = rw (e, f) refl

pub all_roles : (p : List ℕ) (qs roles : List (List ℕ)) → has_role p roles ≡ true → are_roles qs roles ≡ true → are_roles (p ∷ qs) roles ≡ true
all_roles p qs roles e f = rw (e, f) refl

-- the rest of a block, statement by statement

pub body_more : (ss : List ParsedStatement) (i : ℕ) (s : ParsedStatement) → i < length ss → s ≡ get_or ss i s → body_of (drop i ss) ≡ Then (statement_of s) (body_of (drop (i + 1) ss))
body_more ss i s h e = ap body_of (drop_more ss i s h ∙ ap (λ x. x ∷ drop (i + 1) ss) (sym e))

pub blocks_more : (bs : List Block) (i : ℕ) (b : Block) → i < length bs → b ≡ get_or bs i b → blocks_of (drop i bs) ≡ OrBlock (body_of b.body) b.spot (blocks_of (drop (i + 1) bs))
blocks_more bs i b h e = ap blocks_of (drop_more bs i b h ∙ ap (λ x. x ∷ drop (i + 1) bs) (sym e))

-- what precedes the rest has no exit
pub record HasNoExit (ms : List ModuleTree) (d : Declaration) (recs : List (List ℕ)) (b : Body) : Type 0 where
  pub before : Statement
  pub occurs : IsPart d recs (Then before b)
  pub kept : StatementKeeps ms d recs before false

-- the state of the check of a block: what is left, where it is, and the statement before it
pub record IsLeft (ms : List ModuleTree) (d : Declaration) (recs : List (List ℕ)) (whole : Body) (e : Bool) (b : Body) : Type 0 where
  pub completes : (f : Bool) → BlockKeeps ms d recs e b f → BlockKeeps ms d recs true whole f
  pub part : IsPart d recs b
  pub none : e ≡ false → HasNoExit ms d recs b

pub begin_left : (ms : List ModuleTree) (d : Declaration) (recs : List (List ℕ)) (b : Body) → IsPart d recs b → IsLeft ms d recs b true b
begin_left ms d recs b p = record { completes = λ f k. k; part = p; none = λ e. absurd (false≢true (sym e)) }

pub step_left : (ms : List ModuleTree) (d : Declaration) (recs : List (List ℕ)) (whole : Body) (e f : Bool) (b c : Body) (s : Statement)
    → b ≡ Then s c → e ≡ true → IsLeft ms d recs whole e b → StatementKeeps ms d recs s f → IsLeft ms d recs whole f c
step_left ms d recs whole e f b c s is exits l k =
    let part = subst (λ x. IsPart d recs x) is l.part in
    record {
      completes = λ g r. l.completes g (subst (λ x. BlockKeeps ms d recs x b g) (sym exits) (subst (λ x. BlockKeeps ms d recs true x g) (sym is) (then_keeps k r)));
      part = λ inner r st. part inner r (later st);
      none = λ n. record { before = s; occurs = part; kept = subst (λ x. StatementKeeps ms d recs s x) n k };
    }

pub end_left : (ms : List ModuleTree) (d : Declaration) (recs : List (List ℕ)) (whole : Body) (e : Bool) (b : Body) → b ≡ Done → IsLeft ms d recs whole e b → BlockKeeps ms d recs true whole e
end_left ms d recs whole e b is l = l.completes e (subst (λ x. BlockKeeps ms d recs e x e) (sym is) end_keeps)

pub stops_unreachable : (ms : List ModuleTree) (d : Declaration) (recs : List (List ℕ)) (whole : Body) (e : Bool) (b c : Body) (s : Statement) (spot : Spot)
    → b ≡ Then s c → e ≡ false → spot ≡ spot_of s → IsLeft ms d recs whole e b → (root : Declaration) → Fails kind.Unreachable ms root d spot
stops_unreachable ms d recs whole e b c s spot is none at l root =
    let n = l.none none in
    record {
      inner = recs;
      before = n.before;
      step = s;
      after = c;
      occurs = subst (λ x. IsPart d recs (Then n.before x)) is n.occurs recs (Then n.before (Then s c)) here;
      there = sym at;
      none = n.kept;
    }

-- the statement of a part is in the protocol
pub occurs_here : (d : Declaration) (recs : List (List ℕ)) (s : Statement) (b : Body) → IsPart d recs (Then s b) → HasStatement d s
occurs_here d recs s b p = record { inner = recs; after = b; occurs = p recs (Then s b) here }

-- the state of the check of branches

pub record AreLeft (ms : List ModuleTree) (d : Declaration) (recs : List (List ℕ)) (whole : Blocks) (e : Bool) (bs : Blocks) : Type 0 where
  pub completes : (f g : Bool) → BlocksKeep ms d recs bs f → g ≡ (e || f) → BlocksKeep ms d recs whole g
  pub parts : AreParts d recs bs

pub begin_branches : (ms : List ModuleTree) (d : Declaration) (recs : List (List ℕ)) (bs : Blocks) → AreParts d recs bs → AreLeft ms d recs bs false bs
begin_branches ms d recs bs p = record { completes = λ f g k e. subst (λ x. BlocksKeep ms d recs bs x) (sym e) k; parts = p }

or_assoc_at : (a b c : Bool) → (a || (b || c)) ≡ ((a || b) || c)
or_assoc_at true b c = refl
or_assoc_at false b c = refl

pub step_branches : (ms : List ModuleTree) (d : Declaration) (recs : List (List ℕ)) (whole : Blocks) (e l f : Bool) (bs cs : Blocks) (b : Body) (s : Spot)
    → bs ≡ OrBlock b s cs → AreLeft ms d recs whole e bs → BlockKeeps ms d recs true b l → f ≡ (e || l) → AreLeft ms d recs whole f cs
step_branches ms d recs whole e l f bs cs b s is left k o =
    let parts = subst (λ x. AreParts d recs x) is left.parts in
    record {
      completes =
          λ g h r q. left.completes (l || g) h (subst (λ x. BlocksKeep ms d recs x (l || g)) (sym is) (or_keeps k r refl)) (q ∙ ap (λ x. x || g) o ∙ sym (or_assoc_at e l g));
      parts = λ inner r st. parts inner r (in_other st);
    }

pub branch_part : (ms : List ModuleTree) (d : Declaration) (recs : List (List ℕ)) (whole : Blocks) (e : Bool) (bs cs : Blocks) (b : Body) (s : Spot) → bs ≡ OrBlock b s cs → AreLeft ms d recs whole e bs → IsPart d recs b
branch_part ms d recs whole e bs cs b s is left =
    let parts = subst (λ x. AreParts d recs x) is left.parts in λ inner r st. parts inner r (in_this st)

or_false : (e : Bool) → e ≡ (e || false)
or_false true = refl
or_false false = refl

pub end_branches : (ms : List ModuleTree) (d : Declaration) (recs : List (List ℕ)) (whole : Blocks) (e : Bool) (bs : Blocks) → bs ≡ NoBlock → AreLeft ms d recs whole e bs → BlocksKeep ms d recs whole e
end_branches ms d recs whole e bs is left =
    left.completes false e (subst (λ x. BlocksKeep ms d recs x false) (sym is) none_keeps) (or_false e)

pub or_true : (e l : Bool) → e ≡ true → true ≡ (e || l)
or_true e l h = rw h refl

pub or_this : (e l : Bool) → e ≡ false → l ≡ (e || l)
or_this e l h = rw h refl

-- the parts of a statement

pub occurs_as : (d : Declaration) (recs : List (List ℕ)) (s t : Statement) (b : Body) → IsPart d recs (Then s b) → s ≡ t → HasStatement d t
occurs_as d recs s t b p e = subst (λ x. HasStatement d x) e (occurs_here d recs s b p)

pub loose_as : (d : Declaration) (recs : List (List ℕ)) (s : Statement) (x : List ℕ) (spot : Spot) (b : Body) → IsPart d recs (Then s b) → s ≡ Continues x spot → has_role x recs ≡ false → IsLoose d spot
loose_as d recs s x spot b p e out = record {
  name = x;
  inner = recs;
  after = b;
  occurs = subst (λ t. IsRestIn d recs (Then t b)) e (p recs (Then s b) here);
  loose = out;
}

pub choice_parts : (d : Declaration) (recs : List (List ℕ)) (s : Statement) (p : List ℕ) (bs : Blocks) (spot : Spot) (b : Body) → IsPart d recs (Then s b) → s ≡ Chooses p bs spot → AreParts d recs bs
choice_parts d recs s p bs spot b part e =
    let parts = subst (λ t. IsPart d recs (Then t b)) e part in λ inner r st. parts inner r (in_choice st)

pub rec_part : (d : Declaration) (recs inner : List (List ℕ)) (s : Statement) (x : List ℕ) (c whole : Body) (spot : Spot) (b : Body)
    → IsPart d recs (Then s b) → s ≡ Repeats x c spot → inner ≡ x ∷ recs → whole ≡ c → IsPart d inner whole
rec_part d recs inner s x c whole spot b part e i w =
    let parts = subst (λ t. IsPart d recs (Then t b)) e part in
    subst (λ n. IsPart d n whole) (sym i) (subst (λ y. IsPart d (x ∷ recs) y) (sym w) (λ n r st. parts n r (in_rec st)))

pub keeps_as : (ms : List ModuleTree) (d : Declaration) (recs : List (List ℕ)) (s t : Statement) (e : Bool) → s ≡ t → StatementKeeps ms d recs t e → StatementKeeps ms d recs s e
keeps_as ms d recs s t e same k = subst (λ x. StatementKeeps ms d recs x e) (sym same) k

pub rec_keeps : (ms : List ModuleTree) (d : Declaration) (recs inner : List (List ℕ)) (s : Statement) (x : List ℕ) (c whole : Body) (spot : Spot) (e : Bool)
    → s ≡ Repeats x c spot → inner ≡ x ∷ recs → whole ≡ c → BlockKeeps ms d inner true whole e → StatementKeeps ms d recs s e
rec_keeps ms d recs inner s x c whole spot e same i w k =
    keeps_as ms d recs s (Repeats x c spot) e same (repeats_keeps (subst (λ n. BlockKeeps ms d n true c e) i (subst (λ y. BlockKeeps ms d inner true y e) w k)))

pub choice_keeps : (ms : List ModuleTree) (d : Declaration) (recs : List (List ℕ)) (s : Statement) (p : List ℕ) (bs whole : Blocks) (spot : Spot) (e : Bool)
    → s ≡ Chooses p bs spot → whole ≡ bs → has_role p (roles_of d) ≡ true → BlocksKeep ms d recs whole e → StatementKeeps ms d recs s e
choice_keeps ms d recs s p bs whole spot e same w h k =
    keeps_as ms d recs s (Chooses p bs spot) e same (chooses_keeps h (subst (λ y. BlocksKeep ms d recs y e) w k))

pub continue_keeps : (ms : List ModuleTree) (d : Declaration) (recs : List (List ℕ)) (s : Statement) (x : List ℕ) (spot : Spot) → s ≡ Continues x spot → has_role x recs ≡ true → StatementKeeps ms d recs s false
continue_keeps ms d recs s x spot same h = keeps_as ms d recs s (Continues x spot) false same (continues_keeps h)
