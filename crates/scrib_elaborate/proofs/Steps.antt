-- The steps of the third pass.
use Rattle.std.proofs.Common.{◌≡◌, ℕ, ◌+◌, ◌<◌, Bool, true, false, List, [], ◌∷◌, ◌++◌, map, reverse, Some, None, refl, sym, ap, ◌∙◌, subst, arith}
use Rattle.std.specs.Borrow.{Bor}
use Rattle.std.specs.Option.{option_and_then}
use Rattle.std.specs.Str.{bytes_eq}
use Rattle.std.proofs.lemmas.Bool.{or_left}
use Rattle.std.proofs.lemmas.Slice.Eq.{bytes_eq-Decides}
use Rattle.std.proofs.lemmas.List.{reverse-append}
use Rattle.scrib_types.specs.declared.message.Message.{Message}
use Rattle.scrib_types.specs.declared.spot.Spot.{Spot}
use Rattle.scrib_types.specs.Trees.{GlobalVar, GlobalRec}
use Rattle.scrib_types.specs.WellFormed.{leads_to_communication}
use Rattle.scrib_tree.specs.declared.tree.ModuleTree.{ModuleTree}
use Rattle.scrib_tree.specs.declared.tree.Statement.{Statement as ParsedStatement}
use Rattle.scrib_static_checks.specs.declared.fault.FaultKind.{FaultKind}
use Rattle.scrib_static_checks.specs.declared.fault.FaultKind.TheVariants as kind
use Rattle.scrib_type_builder.specs.declared.build_error.BuildError.{BuildError}
use Rattle.scrib_type_builder.specs.declared.build_error.BuildError.TheVariants as untyped
use Rattle.scrib_elaborate.specs.declared.tasks.Task.{Task}
use Rattle.scrib_elaborate.specs.declared.tasks.Task.TheVariants.{Front, Close}
use Rattle.scrib_elaborate.specs.declared.scope.Scope.{Scope as CodeScope}
use Rattle.scrib_static_checks.specs.Source.{Body, Done, Then, Statement, Sends, Repeats, Continues, Calls}
use Rattle.scrib_static_checks.specs.SourceView.{statement_of, body_of}
use Rattle.scrib_static_checks.specs.Names.{Declaration, find_protocol, last_name, called_home, called}
use Rattle.scrib_static_checks.specs.Statements.{KeepsRules, BlockKeeps, StatementKeeps}
use Rattle.scrib_static_checks.specs.Elaboration.{continues_in, Scope, role_in, level_of, inside, inside_call, Frames, NoFrame, Under, prefix_message, closes, sends, repeats, passes, continues, calls, start_of}
use Rattle.scrib_static_checks.specs.Faults.{IsRestOf, here, later, in_rec, Reaches, itself, needs_itself, needs_close, needs_sends, needs_repeats, needs_passes, needs_calls, FailsTyping}
use Rattle.scrib_type_builder.specs.Shifting.{shifted}
use Rattle.scrib_elaborate.specs.Levels.{AreBelow}
use Rattle.scrib_static_checks.specs.Table.{IsPart}
use Rattle.scrib_elaborate.specs.Scope.{scope_of, start_scope, IsStart, IsSameScope, IsInsideRecursion}
use Rattle.scrib_elaborate.specs.Sites.{communications}
use Rattle.scrib_type_builder.specs.BuiltType.{add_no_origins}
use Rattle.scrib_type_builder.specs.Rules.{IsUnguardedBody}
use Rattle.scrib_elaborate.specs.Typing.{Made, nothing_made, FramesMake, Target, whole_target, HasLevels, before, FailsUp, PrecedesFrames, TasksLead, IsState, IsTypedRest, TypingFails}
use Rattle.scrib_static_checks.proofs.RuleLemmas.{of_then, of_continues, of_calls, of_protocol, kept_at, kept_along, reaches_on}
use Rattle.scrib_static_checks.proofs.Checks.{occurs_here}
use Rattle.scrib_elaborate.proofs.LevelLemmas.{level_below, levels_none, levels_after, levels_passes, levels_repeats}
use Rattle.scrib_elaborate.proofs.ShiftLemmas.{below_more, levels_more}
use Rattle.scrib_elaborate.proofs.NeededParts.{fails_through, fails_rest}
use Rattle.scrib_elaborate.proofs.SiteLemmas.{marks_through, made_through, made_from, made_deeper, nothing_follows, marks_prefix}

-- statements in front of others

pub before_done : (ss : List ParsedStatement) → before ss Done ≡ body_of ss
before_done [] = refl
before_done (s ∷ ss) = ap (Then (statement_of s)) (before_done ss)

pub before_push : (ss : List ParsedStatement) (s : ParsedStatement) (b : Body) → before (ss ++ s ∷ []) b ≡ before ss (Then (statement_of s) b)
before_push [] s b = refl
before_push (t ∷ ss) s b = ap (Then (statement_of t)) (before_push ss s b)

later_all : {recs inner : List (List ℕ)} {b r : Body} (ss : List ParsedStatement) → IsRestOf recs b inner r → IsRestOf recs (before ss b) inner r
later_all [] st = st
later_all (s ∷ ss) st = later (later_all ss st)

starts : {ms : List ModuleTree} {d : Declaration} {recs : List (List ℕ)} {e f : Bool} (s : Statement) (b : Body) (ss : List ParsedStatement) → BlockKeeps ms d recs e (before ss (Then s b)) f → e ≡ true
starts s b [] k = (of_then k).before
starts s b (t ∷ ss) k = (of_then k).before

fails_in_front : (k : FaultKind) (d : Declaration) (spot : Spot) (ms : List ModuleTree) (recs : List (List ℕ)) (n : ℕ) (sc : Scope) (ss : List ParsedStatement) (s : Statement) (b : Body) (outer : Frames) (e f : Bool)
    → BlockKeeps ms sc.within recs e (before ss (Then s b)) f → AreBelow n (Under sc b outer) → FailsTyping k ms n (Under sc (Then s b) outer) d spot → FailsTyping k ms n (Under sc (before ss (Then s b)) outer) d spot
fails_in_front k d spot ms recs n sc [] s b outer e f keeps low h = h
fails_in_front k d spot ms recs n sc (t ∷ ss) s b outer e f keeps low h =
    let v = of_then keeps in
    let leads = subst (λ x. StatementKeeps ms sc.within recs (statement_of t) x) (starts s b ss v.rest) v.step in
    fails_rest k ms recs n sc (statement_of t) (before ss (Then s b)) outer d spot leads low (fails_in_front k d spot ms recs n sc ss s b outer v.leads f v.rest low h)

pub block_kept : {ms : List ModuleTree} {root d : Declaration} (recs : List (List ℕ)) (b : Body) → Reaches ms root d → (e : Bool) → KeepsRules ms root e → IsPart d recs b → (a f : Bool) × BlockKeeps ms d recs a b f
block_kept {ms = ms} {d = d} recs b reached e kept part =
    let k = kept_along reached e kept in
    let r = kept_at (part recs b here) ms d true k.0 (of_protocol k.1).block in
    (r.before, r.exits, r.kept)

-- one more task on the stack

pub pushed : (ms : List ModuleTree) (target : Target) (old new : List Task) (t : Task) (g h : Made) → new ≡ old ++ t ∷ [] → h ≡ g → IsState ms target (t ∷ reverse old) g → IsState ms target (reverse new) h
pushed ms target old new t g h e same st =
    let list : reverse new ≡ t ∷ reverse old = ap reverse e ∙ reverse-append old (t ∷ []) in
    subst (λ x. IsState ms target (reverse new) x) (sym same) (subst (λ ts. IsState ms target ts g) (sym list) st)

pub pushed_twice : (ms : List ModuleTree) (target : Target) (old mid new : List Task) (t u : Task) (g h : Made) → mid ≡ old ++ t ∷ [] → new ≡ mid ++ u ∷ [] → h ≡ g → IsState ms target (u ∷ t ∷ reverse old) g → IsState ms target (reverse new) h
pushed_twice ms target old mid new t u g h e f same st =
    let list : reverse mid ≡ t ∷ reverse old = ap reverse e ∙ reverse-append old (t ∷ []) in
    pushed ms target mid new u g h f same (subst (λ ts. IsState ms target (u ∷ ts) g) (sym list) st)

-- the state at statements in front

pub record IsAt (ms : List ModuleTree) (target : Target) (ts : List Task) (sc : Scope) (n : ℕ) (ss : List ParsedStatement) (g : Made) : Type 0 where
  pub rest : Body
  pub outer : Frames
  pub next : Frames
  pub made : FramesMake ms n (Under sc rest outer) g
  pub leads : (h : Made) → FramesMake ms n (Under sc (before ss rest) outer) h → FramesMake ms n next h
  pub up : FailsUp ms target.root n (Under sc (before ss rest) outer)
  pub recs : List (List ℕ)
  pub part : IsPart sc.within recs (before ss rest)
  pub levels : HasLevels sc recs (before ss rest)
  pub reached : Reaches ms target.root sc.within
  pub below : AreBelow n (Under sc rest outer)
  pub path : TasksLead ms target ts n next

pub front_at : (ms : List ModuleTree) (target : Target) (ts : List Task) (st : CodeScope) (ss : Bor (List ParsedStatement)) (g : Made) → IsState ms target (Front st ss ∷ ts) g → IsAt ms target ts (scope_of st) st.depth ss.now g
front_at ms target ts st ss g s =
    let hs = s.path.0 in
    let f = s.path.1 in
    let sc = scope_of st in
    subst (λ n. IsAt ms target ts sc n ss.now g) f.deep (record {
      rest = f.rest;
      outer = f.outer;
      next = hs;
      made = subst (λ fs. FramesMake ms s.depth fs g) f.is s.made;
      leads = f.leads;
      up = f.up;
      recs = f.recs;
      part = f.part;
      levels = f.levels;
      reached = f.reached;
      below = f.below;
      path = s.path.2;
    })

-- only the values of the statements matter
pub front_same : (ms : List ModuleTree) (target : Target) (ts : List Task) (st : CodeScope) (ss others : Bor (List ParsedStatement)) (g : Made) → ss.now ≡ others.now → IsState ms target (Front st ss ∷ ts) g → IsState ms target (Front st others ∷ ts) g
front_same ms target ts st ss others g e s = record {
  depth = s.depth;
  frames = s.frames;
  made = s.made;
  path = (s.path.0, subst (λ xs. PrecedesFrames ms target.root (scope_of st) st.depth xs s.depth s.frames s.path.0) e s.path.1, s.path.2);
}

-- no statement is left
pub front_done : (ms : List ModuleTree) (target : Target) (ts : List Task) (st : CodeScope) (ss : Bor (List ParsedStatement)) (g : Made) → ss.now ≡ [] → IsState ms target (Front st ss ∷ ts) g → IsState ms target ts g
front_done ms target ts st ss g none s =
    let a = subst (λ x. IsAt ms target ts (scope_of st) st.depth x g) none (front_at ms target ts st ss g s) in
    record { depth = st.depth; frames = a.next; made = a.leads g a.made; path = a.path }

-- the last statement is next
pub front_step : (ms : List ModuleTree) (target : Target) (ts : List Task) (st again : CodeScope) (ss front : Bor (List ParsedStatement)) (s : ParsedStatement) (g : Made) (e : Bool) → KeepsRules ms target.root e → ss.now ≡ front.now ++ s ∷ [] → IsSameScope st again
    → IsState ms target (Front st ss ∷ ts) g → IsTypedRest ms target (Front again front ∷ ts) (scope_of st) st.depth (statement_of s) g
front_step ms target ts st again ss front s g e kept is same x =
    let sc = scope_of st in
    let n = st.depth in
    let a = front_at ms target ts st ss g x in
    let list : before ss.now a.rest ≡ before front.now (Then (statement_of s) a.rest) =
    ap (λ y. before y a.rest) is ∙ before_push front.now s a.rest in
    let up = subst (λ b. FailsUp ms target.root n (Under sc b a.outer)) list a.up in
    let part = subst (λ b. IsPart sc.within a.recs b) list a.part in
    let levels = subst (λ b. HasLevels sc a.recs b) list a.levels in
    let leads = subst (λ b. (h : Made) → FramesMake ms n (Under sc b a.outer) h → FramesMake ms n a.next h) list a.leads in
    let k = block_kept a.recs (before front.now (Then (statement_of s) a.rest)) a.reached e kept part in
    let this : PrecedesFrames ms target.root sc n front.now n (Under sc (Then (statement_of s) a.rest) a.outer) a.next = record {
      rest = Then (statement_of s) a.rest;
      outer = a.outer;
      deep = refl;
      is = refl;
      leads = leads;
      up = up;
      recs = a.recs;
      part = part;
      levels = levels;
      reached = a.reached;
      below = a.below;
    } in
    record {
      rest = a.rest;
      outer = a.outer;
      made = a.made;
      path =
          (a.next, subst (λ d. PrecedesFrames ms target.root (scope_of again) d front.now n (Under sc (Then (statement_of s) a.rest) a.outer) a.next) (sym same.depth) (subst (λ c. PrecedesFrames ms target.root c n front.now n (Under sc (Then (statement_of s) a.rest) a.outer) a.next) (sym same.scope) this), a.path);
      up =
          λ f d spot h. up f d spot (fails_in_front f d spot ms a.recs n sc front.now (statement_of s) a.rest a.outer k.0 k.1 k.2 a.below h);
      recs = a.recs;
      part = λ inner r q. part inner r (later_all front.now q);
      levels = levels_after sc a.recs front.now (Then (statement_of s) a.rest) levels;
      reached = a.reached;
      below = a.below;
    }

-- a block is entered

pub record IsOpened (ms : List ModuleTree) (root : Declaration) (sc : Scope) (n : ℕ) (b : Body) (outer next : Frames) (g : Made) : Type 0 where
  pub made : FramesMake ms n outer g
  pub leads : (h : Made) → FramesMake ms n (Under sc b outer) h → FramesMake ms n next h
  pub up : FailsUp ms root n (Under sc b outer)
  pub recs : List (List ℕ)
  pub part : IsPart sc.within recs b
  pub levels : HasLevels sc recs b
  pub reached : Reaches ms root sc.within
  pub below : AreBelow n (Under sc Done outer)

pub opened : (ms : List ModuleTree) (target : Target) (ts : List Task) (st : CodeScope) (ss : Bor (List ParsedStatement)) (sc : Scope) (n : ℕ) (b : Body) (outer next : Frames) (g : Made)
    → scope_of st ≡ sc → st.depth ≡ n → body_of ss.now ≡ b → IsOpened ms target.root sc n b outer next g → TasksLead ms target ts n next → IsState ms target (Front st ss ∷ ts) g
opened ms target ts st ss sc n b outer next g scope depth body o path =
    let list : b ≡ before ss.now Done = sym body ∙ sym (before_done ss.now) in
    let p = subst (λ x. IsOpened ms target.root sc n x outer next g) list o in
    let this : PrecedesFrames ms target.root sc n ss.now n (Under sc Done outer) next = record {
      rest = Done;
      outer = outer;
      deep = refl;
      is = refl;
      leads = p.leads;
      up = p.up;
      recs = p.recs;
      part = p.part;
      levels = p.levels;
      reached = p.reached;
      below = p.below;
    } in
    record {
      depth = n;
      frames = Under sc Done outer;
      made = made_through g (needs_close needs_itself) (closes p.made.typed) p.made;
      path =
          (next, subst (λ d. PrecedesFrames ms target.root (scope_of st) d ss.now n (Under sc Done outer) next) (sym depth) (subst (λ c. PrecedesFrames ms target.root c n ss.now n (Under sc Done outer) next) (sym scope) this), path);
    }

-- a message is sent

pub message_put : (ms : List ModuleTree) (target : Target) (ts : List Task) (sc : Scope) (n : ℕ) (m : Message) (p : List ℕ) (qs : List (List ℕ)) (spot : Spot) (g h : Made)
    → h.type ≡ prefix_message m (role_in sc p) (map (role_in sc) qs) g.type → h.origins ≡ add_no_origins (map (role_in sc) qs) g.origins → IsTypedRest ms target ts sc n (Sends m p qs spot) g → IsState ms target ts h
message_put ms target ts sc n m p qs spot g h is none b =
    let sender = role_in sc p in
    let receivers = map (role_in sc) qs in
    let marks = marks_through (needs_sends needs_itself) (communications n g.type) g.origins b.made.marked in
    record {
      depth = n;
      frames = Under sc (Then (Sends m p qs spot) b.rest) b.outer;
      made =
          made_from h (prefix_message m sender receivers g.type) (add_no_origins receivers g.origins) is none (sends b.made.typed is) (marks_prefix ms n (Under sc (Then (Sends m p qs spot) b.rest) b.outer) n m sender receivers g.type g.origins marks);
      path = b.path;
    }

-- a recursion is continued

pub variable_put : (ms : List ModuleTree) (target : Target) (ts : List Task) (sc : Scope) (n k i : ℕ) (x : List ℕ) (spot : Spot) (g h : Made)
    → level_of x sc.recs ≡ Some k → n ≡ k + 1 + i → h.type ≡ GlobalVar i → h.origins ≡ [] → IsTypedRest ms target ts sc n (Continues x spot) g → IsState ms target ts h
variable_put ms target ts sc n k i x spot g h level deep is alone b = record {
  depth = n;
  frames = Under sc (Then (Continues x spot) b.rest) b.outer;
  made = made_from h (GlobalVar i) [] is alone (continues level deep is) tt;
  path = b.path;
}

-- a protocol is called

pub call_put : (ms : List ModuleTree) (target : Target) (ts : List Task) (st : CodeScope) (ss : Bor (List ParsedStatement)) (sc : Scope) (n : ℕ) (path roles : List (List ℕ)) (spot : Spot) (c : Declaration) (g : Made)
    → called ms sc.within.home path ≡ Some c → scope_of st ≡ inside_call sc c roles → st.depth ≡ n → ss.now ≡ c.protocol.body → IsTypedRest ms target ts sc n (Calls path roles spot) g → IsState ms target (Front st ss ∷ ts) g
call_put ms target ts st ss sc n path roles spot c g there scope depth body b =
    opened ms target ts st ss (inside_call sc c roles) n (body_of c.protocol.body) (Under sc b.rest b.outer) (Under sc (Then (Calls path roles spot) b.rest) b.outer) g scope depth (ap body_of body) (record {
      made = b.made;
      leads = λ h t. made_through h (needs_calls there needs_itself) (calls there t.typed) t;
      up = λ f d s h. b.up f d s (fails_through f d s (needs_calls there needs_itself) h);
      recs = [];
      part = λ inner r q. q;
      levels = levels_none (inside_call sc c roles) (body_of c.protocol.body);
      reached = reaches_on b.reached (occurs_here sc.within b.recs (Calls path roles spot) b.rest b.part) there;
      below = (tt, b.below);
    }) b.path

-- a recursion that is not continued

pub passes_put : (ms : List ModuleTree) (target : Target) (ts : List Task) (st : CodeScope) (ss : Bor (List ParsedStatement)) (x : List ℕ) (spot : Spot) (g : Made)
    → continues_in x (body_of ss.now) ≡ false → IsTypedRest ms target ts (scope_of st) st.depth (Repeats x (body_of ss.now) spot) g → IsState ms target (Front st ss ∷ ts) g
passes_put ms target ts st ss x spot g none b =
    let sc = scope_of st in
    let n = st.depth in
    let c = body_of ss.now in
    opened ms target ts st ss sc n c (Under sc b.rest b.outer) (Under sc (Then (Repeats x c spot) b.rest) b.outer) g refl refl refl (record {
      made = b.made;
      leads = λ h t. made_through h (needs_passes none needs_itself) (passes none t.typed) t;
      up = λ f d s h. b.up f d s (fails_through f d s (needs_passes none needs_itself) h);
      recs = x ∷ b.recs;
      part = λ inner r q. b.part inner r (in_rec q);
      levels = levels_passes sc b.recs x c spot b.rest none b.levels;
      reached = b.reached;
      below = (b.below.0, b.below);
    }) b.path

-- a recursion that is continued

pub repeats_put : (ms : List ModuleTree) (target : Target) (ts : List Task) (st inner : CodeScope) (ss : Bor (List ParsedStatement)) (home : Bor ModuleTree) (x : List ℕ) (spot : Spot) (g h : Made) → home.now ≡ (scope_of st).within.home
    → continues_in x (body_of ss.now) ≡ true → IsInsideRecursion st x inner → h.type ≡ shifted 0 g.type → h.origins ≡ g.origins → IsTypedRest ms target ts (scope_of st) st.depth (Repeats x (body_of ss.now) spot) g → IsState ms target (Front inner ss ∷ Close home spot ∷ ts) h
repeats_put ms target ts st inner ss home x spot g h at loops same is kept b =
    let sc = scope_of st in
    let n = st.depth in
    let c = body_of ss.now in
    let after = Under sc b.rest b.outer in
    let whole = Under sc (Then (Repeats x c spot) b.rest) b.outer in
    opened ms target (Close home spot ∷ ts) inner ss (inside sc x n) (n + 1) c after (Under (inside sc x n) c after) h same.scope same.depth refl (record {
      made = made_deeper g h is kept b.below b.made;
      leads = λ k t. t;
      up = λ f d s k. b.up f d s (fails_through f d s (needs_repeats loops needs_itself) k);
      recs = x ∷ b.recs;
      part = λ i r q. b.part i r (in_rec q);
      levels = levels_repeats sc b.recs x n c spot b.rest b.levels;
      reached = b.reached;
      below =
          ((omega arith, levels_more n (n + 1) sc.recs (omega arith) b.below.0), below_more n (n + 1) after (omega arith) b.below);
    }) (
      n,
      whole,
      record {
        scope = sc;
        name = x;
        body = c;
        rest = b.rest;
        outer = b.outer;
        deep = refl;
        is = refl;
        goes = refl;
        continued = loops;
        up = b.up;
        reached = b.reached;
        at = at;
      },
      b.path,
    )

-- the recursion's body has its type

pub record IsClosing (ms : List ModuleTree) (target : Target) (ts : List Task) (home : ModuleTree) (spot : Spot) (g : Made) : Type 0 where
  pub scope : Scope
  pub depth : ℕ
  pub name : List ℕ
  pub body : Body
  pub rest : Body
  pub outer : Frames
  pub made : FramesMake ms (depth + 1) (Under (inside scope name depth) body (Under scope rest outer)) g
  pub continued : continues_in name body ≡ true
  pub up : FailsUp ms target.root depth (Under scope (Then (Repeats name body spot) rest) outer)
  pub reached : Reaches ms target.root scope.within
  pub at : home ≡ scope.within.home
  pub path : TasksLead ms target ts depth (Under scope (Then (Repeats name body spot) rest) outer)

closing : (ms : List ModuleTree) (target : Target) (ts : List Task) (home : Bor ModuleTree) (spot : Spot) (g : Made) → IsState ms target (Close home spot ∷ ts) g → IsClosing ms target ts home.now spot g
closing ms target ts home spot g s =
    let m = s.path.0 in
    let hs = s.path.1 in
    let f = s.path.2 in
    record {
      scope = f.scope;
      depth = m;
      name = f.name;
      body = f.body;
      rest = f.rest;
      outer = f.outer;
      made = subst (λ n. FramesMake ms n (Under (inside f.scope f.name m) f.body (Under f.scope f.rest f.outer)) g) f.deep (subst (λ fs. FramesMake ms s.depth fs g) f.is s.made);
      continued = f.continued;
      up = subst (λ fs. FailsUp ms target.root m fs) f.goes f.up;
      reached = f.reached;
      at = f.at;
      path = subst (λ fs. TasksLead ms target ts m fs) f.goes s.path.3;
    }

pub close_put : (ms : List ModuleTree) (target : Target) (ts : List Task) (home : Bor ModuleTree) (spot : Spot) (g h : Made) → leads_to_communication g.type ≡ true → h.type ≡ GlobalRec g.type → h.origins ≡ g.origins → IsState ms target (Close home spot ∷ ts) g → IsState ms target ts h
close_put ms target ts home spot g h guarded is kept s =
    let c = closing ms target ts home spot g s in
    record {
      depth = c.depth;
      frames = Under c.scope (Then (Repeats c.name c.body spot) c.rest) c.outer;
      made =
          made_from h (GlobalRec g.type) g.origins is kept (repeats c.continued c.made.typed guarded is) (marks_through (needs_repeats c.continued needs_itself) (communications (c.depth + 1) g.type) g.origins c.made.marked);
      path = c.path;
    }

unguarded_fails : (ms : List ModuleTree) (target : Target) (ts : List Task) (home : Bor ModuleTree) (spot : Spot) (g : Made) → leads_to_communication g.type ≡ false → IsState ms target (Close home spot ∷ ts) g
    → (place : Declaration) × Reaches ms target.root place × (home.now ≡ place.home) × FailsTyping kind.Unguarded ms 0 (start_of target.root) place spot
unguarded_fails ms target ts home spot g unguarded s =
    let c = closing ms target ts home spot g s in (
      c.scope.within,
      c.reached,
      c.at,
      c.up kind.Unguarded c.scope.within spot (record {
        name = c.name;
        body = c.body;
        depth = c.depth;
        scope = c.scope;
        follows = Under c.scope c.rest c.outer;
        needed = record { after = c.rest; outer = c.outer; same = refl; home = refl; needs = needs_itself };
        continued = c.continued;
        inner = g.type;
        typed = c.made.typed;
        unguarded = unguarded;
      }),
    )

pub close_fails : (ms : List ModuleTree) (target : Target) (ts : List Task) (home : Bor ModuleTree) (spot : Spot) (g : Made) (e : BuildError) → IsUnguardedBody home.now spot g.type e → IsState ms target (Close home spot ∷ ts) g → TypingFails ms target.root e
close_fails ms target ts home spot g (untyped.Broken h b) f s =
    let u = unguarded_fails ms target ts home spot g f.3 s in (
      u.0,
      u.1,
      f.0 ∙ u.2,
      subst (λ k. FailsTyping k ms 0 (start_of target.root) u.0 b.spot) (sym f.2) (subst (λ x. FailsTyping kind.Unguarded ms 0 (start_of target.root) u.0 x) (sym f.1) u.3),
    )
close_fails ms target ts home spot g untyped.OutOfMemory f s = tt

-- the stack at the beginning and at the end, and its last task

pub begins : (ms : List ModuleTree) (root : Declaration) (old new : List Task) (st : CodeScope) (ss : Bor (List ParsedStatement)) (g : Made) → old ≡ [] → new ≡ old ++ Front st ss ∷ [] → IsStart root st → ss.now ≡ root.protocol.body → g ≡ nothing_made → IsState ms (whole_target root) (reverse new) g
begins ms root old new st ss g none push start body is =
    let target = whole_target root in
    let state : IsState ms target (Front st ss ∷ []) g = opened ms target [] st ss (start_scope root) 0 (body_of root.protocol.body) NoFrame (start_of root) g start.scope start.depth (ap body_of body) (record {
      made = subst (λ x. FramesMake ms 0 NoFrame x) (sym is) (nothing_follows ms);
      leads = λ h t. t;
      up = λ f d s h. h;
      recs = [];
      part = λ i r q. q;
      levels = levels_none (start_scope root) (body_of root.protocol.body);
      reached = itself;
      below = (tt, tt);
    }) (refl, refl) in
    pushed ms target old new (Front st ss) g g push refl (subst (λ o. IsState ms target (Front st ss ∷ reverse o) g) (sym none) state)

pub popped : (ms : List ModuleTree) (target : Target) (old new : List Task) (t : Task) (g : Made) → old ≡ new ++ t ∷ [] → IsState ms target (reverse old) g → IsState ms target (t ∷ reverse new) g
popped ms target old new t g is s =
    subst (λ ts. IsState ms target ts g) (ap reverse is ∙ reverse-append new (t ∷ [])) s

pub ended : (ms : List ModuleTree) (target : Target) (ts : List Task) (g : Made) → ts ≡ [] → IsState ms target (reverse ts) g → FramesMake ms target.depth target.frames g
ended ms target ts g none s =
    let e = subst (λ x. IsState ms target (reverse x) g) none s in
    subst (λ fs. FramesMake ms target.depth fs g) e.path.1 (subst (λ n. FramesMake ms n e.frames g) e.path.0 e.made)

pub pushed_before : (ms : List ModuleTree) (target : Target) (old new : List Task) (t : Task) (sc : Scope) (n : ℕ) (s : Statement) (g : Made) → new ≡ old ++ t ∷ [] → IsTypedRest ms target (t ∷ reverse old) sc n s g → IsTypedRest ms target (reverse new) sc n s g
pushed_before ms target old new t sc n s g e b =
    subst (λ ts. IsTypedRest ms target ts sc n s g) (sym (ap reverse e ∙ reverse-append old (t ∷ []))) b

-- the recursion that is continued has a level, below the number of those around the statement

pub record IsEnclosing (sc : Scope) (n : ℕ) (x : List ℕ) : Type 0 where
  pub level : ℕ
  pub there : level_of x sc.recs ≡ Some level
  pub low : level < n

pub enclosing_found : (ms : List ModuleTree) (target : Target) (ts : List Task) (sc : Scope) (n : ℕ) (x : List ℕ) (spot : Spot) (g : Made) (e : Bool) → KeepsRules ms target.root e → IsTypedRest ms target ts sc n (Continues x spot) g → IsEnclosing sc n x
enclosing_found ms target ts sc n x spot g e kept b =
    let block = (block_kept b.recs (Then (Continues x spot) b.rest) b.reached e kept b.part).2 in
    let among = (of_continues (of_then block).step).0 in
    let l = b.levels x among (or_left (bytes_eq x x) (continues_in x b.rest) ((bytes_eq-Decides x x).1 refl)) in
    record { level = l.0; there = l.1; low = level_below n x sc.recs l.0 b.below.0 l.1 }

-- a call without a module names no protocol
pub no_callee : (ms : List ModuleTree) (home : ModuleTree) (path : List (List ℕ)) → None ≡ called_home ms home path → called ms home path ≡ None
no_callee ms home path none = ap (option_and_then (λ n. find_protocol ms n (last_name path))) (sym none)

-- the called protocol exists
pub callee_found : (ms : List ModuleTree) (target : Target) (ts : List Task) (sc : Scope) (n : ℕ) (path roles : List (List ℕ)) (spot : Spot) (g : Made) (e : Bool) → KeepsRules ms target.root e → IsTypedRest ms target ts sc n (Calls path roles spot) g → called ms sc.within.home path ≡ None → ⊥
callee_found ms target ts sc n path roles spot g e kept b none =
    let block = (block_kept b.recs (Then (Calls path roles spot) b.rest) b.reached e kept b.part).2 in
    absurd (cc ((of_calls (of_then block).step).call.there, none))
