-- What an action leaves of a local type, and of a list of actions.
use Rattle.std.proofs.Common.{◌≡◌, ◌↔◌, IsTrue, IfOk, Result, Ok, Err, Bool, true, false, ℕ, suc, ◌+◌, ◌<◌, ◌≤◌, ◌==◌, List, [], ◌∷◌, is_some, Option, Some, None, if◌then◌else◌, length, get_or, drop, refl, sym, ap, ◌∙◌, subst, arith, add-one}
use Rattle.std.proofs.Math.Seq.{drop-cons}
use Rattle.std.proofs.lemmas.List.{drop_all}
use Rattle.std.proofs.lemmas.Bool.{true≢false}
use Rattle.scrib_types.specs.declared.message.Message.{Message}
use Rattle.scrib_types.specs.declared.event.Action.{Action}
use Rattle.scrib_types.specs.declared.event.Action.TheVariants.{Sends, Receives}
use Rattle.scrib_types.specs.declared.local.Local.{Local}
use Rattle.scrib_types.specs.LocalView.{local_of}
use Rattle.scrib_types.specs.Trees.{LocalTree, LocalEnd, LocalVar, LocalRec, Send, Recv, LocalBranches}
use Rattle.scrib_types.specs.Traces.{substitute, unfolding_of, LocalTransition, sends, receives, unfolds, IsTrace}
use Rattle.scrib_global.specs.Unfolded.{acts_first}
use Rattle.scrib_global.specs.Simulation.{Leads}
use Rattle.scrib_global.specs.Steps.{Leaves, Continues, LeavesAfter}
use Rattle.scrib_global.proofs.Locals.{does_as, does_one}

-- a variable acts no sooner than what is put in its place
substitute_var : (b : Bool) (t : LocalTree) (k : ℕ) → acts_first t ≡ false → acts_first (if b then t else LocalVar k) ≡ false
substitute_var true t k h = h
substitute_var false t k h = refl

substitute_acts : (t body : LocalTree) (n : ℕ) → acts_first t ≡ acts_first body → acts_first (substitute t body n) ≡ acts_first body
substitute_acts t LocalEnd n h = refl
substitute_acts t (LocalVar k) n h = substitute_var (k == n) t k h
substitute_acts t (LocalRec b) n h = substitute_acts t b (n + 1) h
substitute_acts t (Send q ls) n h = refl
substitute_acts t (Recv p ls) n h = refl

-- only what acts first does anything
does_first : {l k : LocalTree} {a : Action} → LocalTransition l a k → acts_first l ≡ true
does_first (sends o) = refl
does_first (receives o) = refl
does_first (unfolds {body} d) = sym (substitute_acts (LocalRec body) body 0 refl) ∙ does_first d

-- how many recursions it begins with
abbrev pub recursions : LocalTree → ℕ
recursions LocalEnd = 0
recursions (LocalVar n) = 0
recursions (LocalRec body) = recursions body + 1
recursions (Send q ls) = 0
recursions (Recv p ls) = 0

pub substitute_recursions : (t body : LocalTree) (n : ℕ) → acts_first body ≡ true → recursions (substitute t body n) ≡ recursions body
substitute_recursions t LocalEnd n h = absurd (true≢false (sym h))
substitute_recursions t (LocalVar k) n h = absurd (true≢false (sym h))
substitute_recursions t (LocalRec b) n h = ap (λ i. i + 1) (substitute_recursions t b (n + 1) h)
substitute_recursions t (Send q ls) n h = refl
substitute_recursions t (Recv p ls) n h = refl

-- unfolding a recursion leaves one leading recursion less
pub rec_falls : (t u body : LocalTree) → t ≡ LocalRec body → acts_first body ≡ true → u ≡ unfolding_of body → recursions u < recursions t
rec_falls t u body e h is =
    let less : recursions (unfolding_of body) < recursions (LocalRec body) = omega (arith, substitute_recursions (LocalRec body) body 0 h) in
    subst (λ x. recursions x < recursions t) (sym is) (subst (λ x. recursions (unfolding_of body) < recursions x) (sym e) less)

-- a recursion that doesn't act first does nothing
pub rec_idle : (t body : LocalTree) (a : Action) → t ≡ LocalRec body → acts_first body ≡ false → Leaves t a None
rec_idle t body a e h = λ k d. true≢false (sym (does_first (subst (λ x. LocalTransition x a k) e d)) ∙ h)

-- any other does what its unfolding does
pub rec_leaves : {E : Type 0} (t u body : LocalTree) (a : Action) (r : Result (Option Local) E) → t ≡ LocalRec body → u ≡ unfolding_of body → IfOk r (Leaves u a) → IfOk r (Leaves t a)
rec_leaves t u body a (Ok None) e is s = λ k d. s k (subst (λ x. LocalTransition x a k) (sym is) (does_as (subst (λ x. LocalTransition x a k) e d)))
rec_leaves t u body a (Ok (Some l)) e is s = subst (λ x. LocalTransition x a (local_of l)) (sym e) (unfolds (subst (λ x. LocalTransition x a (local_of l)) is s))
rec_leaves t u body a (Err f) e is s = tt

-- a send to q continues as the branch of its message
pub send_leaves : {E : Type 0} (q r : List ℕ) (ls : LocalBranches) (m : Message) (a : Action) (o : Result (Option Local) E) → a ≡ Sends r m → r ≡ q → IfOk o (Continues ls m) → IfOk o (Leaves (Send q ls) a)
send_leaves q r ls m a (Ok None) is same h = λ k d. h k (does_as (subst (λ x. LocalTransition (Send q ls) x k) is d)).1
send_leaves q r ls m a (Ok (Some l)) is same h = subst (λ x. LocalTransition (Send q ls) x (local_of l)) (sym is) (subst (λ p. LocalTransition (Send q ls) (Sends p m) (local_of l)) (sym same) (sends h))
send_leaves q r ls m a (Err f) is same h = tt

-- a reception from p continues as the branch of its message
pub recv_leaves : {E : Type 0} (p r : List ℕ) (ls : LocalBranches) (m : Message) (a : Action) (o : Result (Option Local) E) → a ≡ Receives r m → r ≡ p → IfOk o (Continues ls m) → IfOk o (Leaves (Recv p ls) a)
recv_leaves p r ls m a (Ok None) is same h = λ k d. h k (does_as (subst (λ x. LocalTransition (Recv p ls) x k) is d)).1
recv_leaves p r ls m a (Ok (Some l)) is same h = subst (λ x. LocalTransition (Recv p ls) x (local_of l)) (sym is) (subst (λ q. LocalTransition (Recv p ls) (Receives q m) (local_of l)) (sym same) (receives h))
recv_leaves p r ls m a (Err f) is same h = tt

-- a trace is what leads to a type
pub leads_trace : (w : List Action) (l k : LocalTree) → Leads l w k → IsTrace l w
leads_trace [] l k h = tt
leads_trace (a ∷ w) l k h = (h.0, h.1, leads_trace w h.0 k h.2)

pub trace_leads : (w : List Action) (l : LocalTree) → IsTrace l w → (k : LocalTree) × Leads l w k
trace_leads [] l t = (l, refl)
trace_leads (a ∷ w) l t = let y = trace_leads w t.0 t.2 in (y.0, (t.0, t.1, y.1))

-- actions, one after another: the actions from i on lead from what is left to the types to which all lead from the whole
abbrev pub Remains : LocalTree → List Action → LocalTree → List Action → Type 0
Remains left rest l all = (k : LocalTree) → Leads left rest k ↔ Leads l all k

actions_from : (acts : List Action) (i : ℕ) (a : Action) → i < length acts → a ≡ get_or acts i a → drop i acts ≡ a ∷ drop (i + 1) acts
actions_from acts i a n is = rw add-one (drop-cons acts i a n ∙ ap (λ z. z ∷ drop (suc i) acts) (sym is))

pub remains_next : (acts : List Action) (i : ℕ) (a : Action) (left next l : LocalTree) → i < length acts → a ≡ get_or acts i a → LocalTransition left a next → Remains left (drop i acts) l acts → Remains next (drop (i + 1) acts) l acts
remains_next acts i a left next l n is d inv k =
    let from = actions_from acts i a n is in (
      λ h. (inv k).0 (subst (λ w. Leads left w k) (sym from) (next, d, h)),
      λ h. let s : Leads left (a ∷ drop (i + 1) acts) k = subst (λ w. Leads left w k) from ((inv k).1 h) in subst (λ x. Leads x (drop (i + 1) acts) k) (does_one s.1 d) s.2,
    )

pub remains_not : (acts : List Action) (i : ℕ) (a : Action) (left l : LocalTree) → i < length acts → a ≡ get_or acts i a → ((k : LocalTree) → LocalTransition left a k → ⊥) → Remains left (drop i acts) l acts → (k : LocalTree) → Leads l acts k → ⊥
remains_not acts i a left l n is d inv k h =
    let s : Leads left (a ∷ drop (i + 1) acts) k = subst (λ w. Leads left w k) (actions_from acts i a n is) ((inv k).1 h) in d s.0 s.1

pub remains_all : (acts : List Action) (i : ℕ) (left l : LocalTree) → length acts ≤ i → Remains left (drop i acts) l acts → Leads l acts left
remains_all acts i left l n inv = (inv left).0 (subst (λ w. Leads left w left) (sym (drop_all i acts n)) refl)

-- whether something is left is whether the actions are a trace
pub leaves_trace : (l : LocalTree) (w : List Action) (o : Option Local) → LeavesAfter l w o → IsTrue (is_some o) ↔ IsTrace l w
leaves_trace l w None h = (λ t. absurd (true≢false (sym t)), λ t. let y = trace_leads w l t in absurd (h y.0 y.1))
leaves_trace l w (Some next) h = (λ t. leads_trace w l (local_of next) h, λ t. refl)
