-- What precedes a fault on types, and the faults of it.
use Rattle.std.proofs.Common.{◌≡◌, ℕ, suc, ◌+◌, ◌<◌, Bool, true, false, List, [], ◌∷◌, ◌++◌, length, get_or, take, drop, reverse, Some, refl, sym, ap, ◌∙◌, subst, arith}
use Rattle.std.specs.Borrow.{Bor}
use Rattle.std.specs.List.Sorted.{IsPermutation}
use Rattle.std.proofs.lemmas.List.Elements.{All-nil, All-cons, All-push, All-pop}
use Rattle.std.proofs.lemmas.List.Sorted.{All-permutation, IsPermutation-reverse, IsPermutation-sym}
use Rattle.std.proofs.lemmas.Option.{slice_get-get_or}
use Rattle.scrib_types.specs.declared.spot.Spot.{Spot}
use Rattle.scrib_tree.specs.declared.tree.ModuleTree.{ModuleTree}
use Rattle.scrib_tree.specs.declared.tree.Statement.{Statement as ParsedStatement}
use Rattle.scrib_tree.specs.declared.tree.Block.{Block}
use Rattle.scrib_elaborate.specs.declared.tasks.Task.{Task}
use Rattle.scrib_elaborate.specs.declared.tasks.Task.TheVariants.{Front, Join, Close}
use Rattle.scrib_elaborate.specs.declared.scope.Scope.{Scope as CodeScope}
use Rattle.scrib_type_builder.specs.declared.build_error.BuildError.{BuildError}
use Rattle.scrib_type_builder.specs.declared.build_error.BuildError.TheVariants.{Broken, OutOfMemory}
use Rattle.scrib_static_checks.specs.Source.{Body, Done, Then, Statement, Chooses, Repeats, Calls}
use Rattle.scrib_static_checks.specs.SourceView.{statement_of, body_of, blocks_of}
use Rattle.scrib_static_checks.specs.Names.{Declaration, called}
use Rattle.scrib_static_checks.specs.Statements.{KeepsRules, StatementKeeps}
use Rattle.scrib_static_checks.specs.Elaboration.{continues_in, Scope, inside, inside_call, Frames, NoFrame, Under, ends}
use Rattle.scrib_static_checks.specs.Faults.{later, in_choice, in_rec, IsRestOfBlocks, needs_itself, needs_branch, needs_repeats, needs_passes, needs_calls}
use Rattle.scrib_elaborate.specs.NoExit.{Stays}
use Rattle.scrib_elaborate.specs.Scope.{scope_of, IsSameScope, IsInsideRecursion, IsInsideCall}
use Rattle.scrib_elaborate.specs.Typing.{Made, nothing_made, Target, before, PrecedesFrames, TasksLead, IsState, TypingFails, IsAhead, IsTaskAhead, AreAhead, StopsAhead}
use Rattle.scrib_static_checks.proofs.RuleLemmas.{of_then, reaches_on}
use Rattle.scrib_static_checks.proofs.Checks.{occurs_here}
use Rattle.scrib_elaborate.proofs.LevelLemmas.{levels_none, levels_rest, levels_chosen, levels_block, levels_passes, levels_repeats}
use Rattle.scrib_elaborate.proofs.ShiftLemmas.{below_more, levels_more}
use Rattle.scrib_elaborate.proofs.NeededParts.{fails_through, fails_rest}
use Rattle.scrib_elaborate.proofs.Steps.{before_done, block_kept, pushed, opened}
use Rattle.scrib_elaborate.proofs.ChoiceSteps.{block_at, in_before}
use Rattle.scrib_elaborate.proofs.IsolatedBlocks.{never_here, fails_onto}

-- the tasks of a run

front_ahead : (ms : List ModuleTree) (root : Declaration) (sc : Scope) (depth : ℕ) (ss : List ParsedStatement) (n : ℕ) (fs hs : Frames) → PrecedesFrames ms root sc depth ss n fs hs → (rest : Body) × IsAhead ms root sc depth (before ss rest)
front_ahead ms root sc depth ss n fs hs f =
    (f.rest, subst (λ d. IsAhead ms root sc d (before ss f.rest)) f.deep (record { outer = f.outer; up = f.up; recs = f.recs; part = f.part; levels = f.levels; reached = f.reached; below = f.below }))

path_ahead : (ms : List ModuleTree) (target : Target) (ts : List Task) (n : ℕ) (fs : Frames) → TasksLead ms target ts n fs → AreAhead ms target.root ts
path_ahead ms target [] n fs p = All-nil (IsTaskAhead ms target.root)
path_ahead ms target (Front st ss ∷ ts) n fs p =
    All-cons (IsTaskAhead ms target.root) (Front st ss) ts (front_ahead ms target.root (scope_of st) st.depth ss.now n fs p.0 p.1) (path_ahead ms target ts n p.0 p.2)
path_ahead ms target (Join c ∷ ts) n fs p =
    All-cons (IsTaskAhead ms target.root) (Join c) ts tt (path_ahead ms target ts n p.0 p.2)
path_ahead ms target (Close home spot ∷ ts) n fs p =
    All-cons (IsTaskAhead ms target.root) (Close home spot) ts tt (path_ahead ms target ts p.0 p.1 p.3)

-- the tasks of a stack, whose last one is next
pub stack_ahead : (ms : List ModuleTree) (target : Target) (ts : List Task) (n : ℕ) (fs : Frames) → TasksLead ms target (reverse ts) n fs → AreAhead ms target.root ts
stack_ahead ms target ts n fs p =
    All-permutation (IsTaskAhead ms target.root) (reverse ts) ts (IsPermutation-sym ts (reverse ts) (IsPermutation-reverse ts)) (path_ahead ms target (reverse ts) n fs p)

pub closing_ahead : (ms : List ModuleTree) (target : Target) (ts : List Task) (home : Bor ModuleTree) (spot : Spot) (g : Made) → IsState ms target (Close home spot ∷ reverse ts) g → AreAhead ms target.root ts
closing_ahead ms target ts home spot g s = stack_ahead ms target ts s.path.0 s.path.1 s.path.3

turned_ahead : (ms : List ModuleTree) (root : Declaration) (old new : List Task) → IsPermutation old new → AreAhead ms root old → AreAhead ms root new
turned_ahead ms root old new p h = All-permutation (IsTaskAhead ms root) old new p h

pub more_ahead : (ms : List ModuleTree) (root : Declaration) (old new : List Task) (t : Task) → new ≡ old ++ t ∷ [] → AreAhead ms root old → IsTaskAhead ms root t → AreAhead ms root new
more_ahead ms root old new t e h k =
    subst (λ x. AreAhead ms root x) (sym e) (All-push (IsTaskAhead ms root) old t h k)

pub less_ahead : (ms : List ModuleTree) (root : Declaration) (old new : List Task) (t : Task) → old ≡ new ++ t ∷ [] → AreAhead ms root old → AreAhead ms root new × IsTaskAhead ms root t
less_ahead ms root old new t e h = All-pop (IsTaskAhead ms root) old new (Some t) e h

pub stops_ahead : (ms : List ModuleTree) (root : Declaration) (ts : List Task) (e : BuildError) → TypingFails ms root e → AreAhead ms root ts → StopsAhead ms root ts e
stops_ahead ms root ts (Broken home b) fails ahead = (fails, ahead)
stops_ahead ms root ts OutOfMemory fails ahead = tt

pub broken_ahead : (ms : List ModuleTree) (root : Declaration) (ts : List Task) (e : BuildError) → (e ≡ OutOfMemory → ⊥) → StopsAhead ms root ts e → TypingFails ms root e × AreAhead ms root ts
broken_ahead ms root ts (Broken home b) not h = h
broken_ahead ms root ts OutOfMemory not h = absurd (not refl)

-- the statements after the first one, if there are any
pub ahead_rest : (ms : List ModuleTree) (root : Declaration) (e : Bool) (sc : Scope) (n : ℕ) (s t : Statement) (b : Body) → KeepsRules ms root e → IsAhead ms root sc n (Then s (Then t b)) → IsAhead ms root sc n (Then t b)
ahead_rest ms root e sc n s t b kept a =
    let k = block_kept a.recs (Then s (Then t b)) a.reached e kept a.part in
    let v = of_then k.2 in
    let leads = subst (λ x. StatementKeeps ms sc.within a.recs s x) (of_then v.rest).before v.step in
    record {
      outer = a.outer;
      up = λ f d spot h. a.up f d spot (fails_rest f ms a.recs n sc s (Then t b) a.outer d spot leads a.below h);
      recs = a.recs;
      part = λ inner r q. a.part inner r (later q);
      levels = levels_rest sc a.recs s (Then t b) a.levels;
      reached = a.reached;
      below = a.below;
    }

-- a block inside the first statement

abbrev whole : (ms : List ModuleTree) (root : Declaration) (st : CodeScope) (ss : Bor (List ParsedStatement)) (sc : Scope) (n : ℕ) (b : Body) → scope_of st ≡ sc → st.depth ≡ n → body_of ss.now ≡ b → IsAhead ms root sc n b → IsTaskAhead ms root (Front st ss)
whole ms root st ss sc n b scope depth body a =
    let list : b ≡ before ss.now Done = sym body ∙ sym (before_done ss.now) in
    (Done, subst (λ d. IsAhead ms root (scope_of st) d (before ss.now Done)) (sym depth) (subst (λ c. IsAhead ms root c n (before ss.now Done)) (sym scope) (subst (λ x. IsAhead ms root sc n x) list a)))

pub ahead_in_choice : (ms : List ModuleTree) (root : Declaration) (sc : Scope) (n : ℕ) (p : List ℕ) (bs : List Block) (spot : Spot) (rest : Body) (k : ℕ) (b : Block) → k < length bs → b ≡ get_or bs k b
    → IsAhead ms root sc n (Then (Chooses p (blocks_of bs) spot) rest) → IsAhead ms root sc n (body_of b.body)
ahead_in_choice ms root sc n p bs spot rest k b within here a =
    let split = block_at bs k b (slice_get-get_or bs k b within ∙ ap Some (sym here)) in
    let first = blocks_of (take k bs) in
    let last = blocks_of (drop (suc k) bs) in
    record {
      outer = Under sc rest a.outer;
      up = λ f d s h. a.up f d s (fails_through f d s (needs_branch first (body_of b.body) b.spot last split needs_itself) h);
      recs = a.recs;
      part = λ i r q. a.part i r (in_choice (subst (λ y. IsRestOfBlocks a.recs y i r) (sym split) (in_before b.spot last first q)));
      levels = levels_block sc a.recs first (body_of b.body) b.spot last (blocks_of bs) split (levels_chosen sc a.recs p (blocks_of bs) spot rest a.levels);
      reached = a.reached;
      below = (a.below.0, a.below);
    }

pub ahead_passes : (ms : List ModuleTree) (root : Declaration) (sc : Scope) (n : ℕ) (x : List ℕ) (c : Body) (spot : Spot) (rest : Body) → continues_in x c ≡ false → IsAhead ms root sc n (Then (Repeats x c spot) rest) → IsAhead ms root sc n c
ahead_passes ms root sc n x c spot rest none a = record {
  outer = Under sc rest a.outer;
  up = λ f d s h. a.up f d s (fails_through f d s (needs_passes none needs_itself) h);
  recs = x ∷ a.recs;
  part = λ i r q. a.part i r (in_rec q);
  levels = levels_passes sc a.recs x c spot rest none a.levels;
  reached = a.reached;
  below = (a.below.0, a.below);
}

pub ahead_repeats : (ms : List ModuleTree) (root : Declaration) (sc : Scope) (n : ℕ) (x : List ℕ) (c : Body) (spot : Spot) (rest : Body) → continues_in x c ≡ true → IsAhead ms root sc n (Then (Repeats x c spot) rest) → IsAhead ms root (inside sc x n) (n + 1) c
ahead_repeats ms root sc n x c spot rest loops a = record {
  outer = Under sc rest a.outer;
  up = λ f d s h. a.up f d s (fails_through f d s (needs_repeats loops needs_itself) h);
  recs = x ∷ a.recs;
  part = λ i r q. a.part i r (in_rec q);
  levels = levels_repeats sc a.recs x n c spot rest a.levels;
  reached = a.reached;
  below =
      ((omega arith, levels_more n (n + 1) sc.recs (omega arith) a.below.0), below_more n (n + 1) (Under sc rest a.outer) (omega arith) a.below);
}

pub ahead_calls : (ms : List ModuleTree) (root : Declaration) (sc : Scope) (n : ℕ) (path roles : List (List ℕ)) (spot : Spot) (rest : Body) (c : Declaration) → called ms sc.within.home path ≡ Some c → IsAhead ms root sc n (Then (Calls path roles spot) rest)
    → IsAhead ms root (inside_call sc c roles) n (body_of c.protocol.body)
ahead_calls ms root sc n path roles spot rest c there a = record {
  outer = Under sc rest a.outer;
  up = λ f d s h. a.up f d s (fails_through f d s (needs_calls there needs_itself) h);
  recs = [];
  part = λ inner r q. q;
  levels = levels_none (inside_call sc c roles) (body_of c.protocol.body);
  reached = reaches_on a.reached (occurs_here sc.within a.recs (Calls path roles spot) rest a.part) there;
  below = (tt, a.below);
}

-- the tasks of such blocks

pub choice_ahead : (ms : List ModuleTree) (root : Declaration) (st inner : CodeScope) (ss : Bor (List ParsedStatement)) (p : List ℕ) (bs : List Block) (spot : Spot) (rest : Body) (k : ℕ) (b : Block) → k < length bs → b ≡ get_or bs k b → IsSameScope st inner → ss.now ≡ b.body
    → IsAhead ms root (scope_of st) st.depth (Then (Chooses p (blocks_of bs) spot) rest) → IsTaskAhead ms root (Front inner ss)
choice_ahead ms root st inner ss p bs spot rest k b within here same body a =
    whole ms root inner ss (scope_of st) st.depth (body_of b.body) same.scope same.depth (ap body_of body) (ahead_in_choice ms root (scope_of st) st.depth p bs spot rest k b within here a)

pub choice_block : (ms : List ModuleTree) (root : Declaration) (st inner : CodeScope) (ss : List ParsedStatement) (p : List ℕ) (bs : List Block) (spot : Spot) (rest : Body) (k : ℕ) (b : Block) → k < length bs → b ≡ get_or bs k b → IsSameScope st inner → ss ≡ b.body
    → IsAhead ms root (scope_of st) st.depth (Then (Chooses p (blocks_of bs) spot) rest) → IsAhead ms root (scope_of inner) inner.depth (body_of ss)
choice_block ms root st inner ss p bs spot rest k b within here same body a =
    let block = subst (λ x. IsAhead ms root (scope_of st) st.depth (body_of x)) (sym body) (ahead_in_choice ms root (scope_of st) st.depth p bs spot rest k b within here a) in
    subst (λ n. IsAhead ms root (scope_of inner) n (body_of ss)) (sym same.depth) (subst (λ c. IsAhead ms root c st.depth (body_of ss)) (sym same.scope) block)

pub passes_ahead : (ms : List ModuleTree) (root : Declaration) (st : CodeScope) (ss : Bor (List ParsedStatement)) (x : List ℕ) (spot : Spot) (rest : Body) → continues_in x (body_of ss.now) ≡ false → IsAhead ms root (scope_of st) st.depth (Then (Repeats x (body_of ss.now) spot) rest) → IsTaskAhead ms root (Front st ss)
passes_ahead ms root st ss x spot rest none a =
    whole ms root st ss (scope_of st) st.depth (body_of ss.now) refl refl refl (ahead_passes ms root (scope_of st) st.depth x (body_of ss.now) spot rest none a)

pub repeats_ahead : (ms : List ModuleTree) (root : Declaration) (st inner : CodeScope) (ss : Bor (List ParsedStatement)) (x : List ℕ) (spot : Spot) (rest : Body) → continues_in x (body_of ss.now) ≡ true → IsInsideRecursion st x inner
    → IsAhead ms root (scope_of st) st.depth (Then (Repeats x (body_of ss.now) spot) rest) → IsTaskAhead ms root (Front inner ss)
repeats_ahead ms root st inner ss x spot rest loops same a =
    whole ms root inner ss (inside (scope_of st) x st.depth) (st.depth + 1) (body_of ss.now) same.scope same.depth refl (ahead_repeats ms root (scope_of st) st.depth x (body_of ss.now) spot rest loops a)

pub call_ahead : (ms : List ModuleTree) (root : Declaration) (st inner : CodeScope) (ss : Bor (List ParsedStatement)) (path roles : List (List ℕ)) (spot : Spot) (rest : Body) (c : Declaration) → called ms st.within.home.now path ≡ Some c → IsInsideCall st c roles inner → ss.now ≡ c.protocol.body
    → IsAhead ms root (scope_of st) st.depth (Then (Calls path roles spot) rest) → IsTaskAhead ms root (Front inner ss)
call_ahead ms root st inner ss path roles spot rest c there same body a =
    whole ms root inner ss (inside_call (scope_of st) c roles) st.depth (body_of c.protocol.body) same.scope same.depth (ap body_of body) (ahead_calls ms root (scope_of st) st.depth path roles spot rest c there a)

-- the statements of a task after its first one
pub rest_ahead : (ms : List ModuleTree) (root : Declaration) (e : Bool) (st again : CodeScope) (ss rest : Bor (List ParsedStatement)) (s : ParsedStatement) → KeepsRules ms root e → ss.now ≡ s ∷ rest.now → 0 < length rest.now → IsSameScope st again → IsTaskAhead ms root (Front st ss) → IsTaskAhead ms root (Front again rest)
rest_ahead ms root e st again ss rest s kept is some same a =
    let sc = scope_of st in
    let n = st.depth in
    let more = subst (λ x. IsAhead ms root sc n (before x a.0)) is a.1 in
    (a.0, subst (λ d. IsAhead ms root (scope_of again) d (before rest.now a.0)) (sym same.depth) (subst (λ c. IsAhead ms root c n (before rest.now a.0)) (sym same.scope) (at rest.now some more)))
  where
    at : (ts : List ParsedStatement) → 0 < length ts → IsAhead ms root (scope_of st) st.depth (Then (statement_of s) (before ts a.0)) → IsAhead ms root (scope_of st) st.depth (before ts a.0)
    at [] none x = absurd (omega arith)
    at (t ∷ ts) none x = ahead_rest ms root e (scope_of st) st.depth (statement_of s) (statement_of t) (before ts a.0) kept x

pub first_ahead : (ms : List ModuleTree) (root : Declaration) (st : CodeScope) (ss rest : Bor (List ParsedStatement)) (s : ParsedStatement) → ss.now ≡ s ∷ rest.now → IsTaskAhead ms root (Front st ss) → (b : Body) × IsAhead ms root (scope_of st) st.depth (Then (statement_of s) b)
first_ahead ms root st ss rest s is a =
    (before rest.now a.0, subst (λ x. IsAhead ms root (scope_of st) st.depth (before x a.0)) is a.1)

-- a block without an exit is built in isolation

-- the type of the block in isolation, in a protocol that this one reaches
abbrev pub block_target : (root : Declaration) → CodeScope → List ParsedStatement → Target
block_target root st ss = record { root = root; depth = st.depth; frames = Under (scope_of st) (body_of ss) NoFrame }

trial_begins : (ms : List ModuleTree) (root : Declaration) (st : CodeScope) (ss : Bor (List ParsedStatement)) → IsAhead ms root (scope_of st) st.depth (body_of ss.now) → Stays ms st.within.home.now (body_of ss.now)
    → IsState ms (block_target root st ss.now) (Front st ss ∷ []) nothing_made
trial_begins ms root st ss a stays =
    let sc = scope_of st in
    let n = st.depth in
    let b = body_of ss.now in
    opened ms (block_target root st ss.now) [] st ss sc n b NoFrame (Under sc b NoFrame) nothing_made refl refl refl (record {
      made = record { typed = ends; marked = tt };
      leads = λ h t. t;
      up = λ f d spot h. a.up f d spot (fails_onto f n a.outer d spot (never_here stays) h);
      recs = a.recs;
      part = a.part;
      levels = a.levels;
      reached = a.reached;
      below = (a.below.0, tt);
    }) (refl, refl)

pub trial_state : (ms : List ModuleTree) (root : Declaration) (old new : List Task) (st : CodeScope) (ss : Bor (List ParsedStatement)) → old ≡ [] → new ≡ old ++ Front st ss ∷ [] → IsAhead ms root (scope_of st) st.depth (body_of ss.now) → Stays ms st.within.home.now (body_of ss.now)
    → IsState ms (block_target root st ss.now) (reverse new) nothing_made
trial_state ms root old new st ss none push a stays =
    let target = block_target root st ss.now in
    pushed ms target old new (Front st ss) nothing_made nothing_made push refl (subst (λ x. IsState ms target (Front st ss ∷ reverse x) nothing_made) (sym none) (trial_begins ms root st ss a stays))

pub turned_stops : (ms : List ModuleTree) (root : Declaration) (old new : List Task) (e : BuildError) → IsPermutation old new → StopsAhead ms root old e → StopsAhead ms root new e
turned_stops ms root old new (Broken home b) p h = (h.0, turned_ahead ms root old new p h.1)
turned_stops ms root old new OutOfMemory p h = tt
