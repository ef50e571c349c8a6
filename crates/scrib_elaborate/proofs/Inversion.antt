-- The cases of a derivation of a type, by the first statement.
use Rattle.std.proofs.Common.{◌≡◌, ◌⊎◌, inl, inr, ℕ, ◌+◌, true, false, List, map, Some, refl}
use Rattle.scrib_types.specs.declared.message.Message.{Message}
use Rattle.scrib_types.specs.declared.spot.Spot.{Spot}
use Rattle.scrib_types.specs.Trees.{GlobalTree, GlobalEnd, GlobalVar, GlobalRec, Comm, GlobalBranches, NoBranch}
use Rattle.scrib_types.specs.WellFormed.{leads_to_communication, distinct_operators, has_branches}
use Rattle.scrib_tree.specs.declared.tree.ModuleTree.{ModuleTree}
use Rattle.scrib_static_checks.specs.Source.{Body, Done, Then, Sends, Chooses, Repeats, Continues, Calls, Blocks, NoBlock, OrBlock}
use Rattle.scrib_static_checks.specs.SourceView.{body_of}
use Rattle.scrib_static_checks.specs.Names.{Declaration, called}
use Rattle.scrib_static_checks.specs.Elaboration.{continues_in, Scope, role_in, level_of, inside, inside_call, Frames, NoFrame, Under, prefix_message, and_branches, Types, ends, closes, sends, chooses, repeats, passes, continues, calls, JoinsTo, joins_none, joins}

pub type_of_none : {ms : List ModuleTree} {n : ℕ} {g : GlobalTree} → Types ms n NoFrame g → g ≡ GlobalEnd
type_of_none ends = refl

pub type_of_done : {ms : List ModuleTree} {n : ℕ} {sc : Scope} {fs : Frames} {g : GlobalTree} → Types ms n (Under sc Done fs) g → Types ms n fs g
type_of_done (closes t) = t

pub type_of_sends : {ms : List ModuleTree} {n : ℕ} {sc : Scope} {m : Message} {p : List ℕ} {qs : List (List ℕ)} {s : Spot} {b : Body} {fs : Frames} {h : GlobalTree}
    → Types ms n (Under sc (Then (Sends m p qs s) b) fs) h → (g : GlobalTree) × Types ms n (Under sc b fs) g × (h ≡ prefix_message m (role_in sc p) (map (role_in sc) qs) g)
type_of_sends (sends {g = g} t e) = (g, t, e)

pub record IsJoin (ms : List ModuleTree) (n : ℕ) (sc : Scope) (p : List ℕ) (bs : Blocks) (fs : Frames) (h : GlobalTree) : Type 0 where
  pub receiver : List ℕ
  pub branches : GlobalBranches
  pub joined : JoinsTo ms n sc bs fs (role_in sc p) receiver branches
  pub some : has_branches branches ≡ true
  pub different : distinct_operators branches ≡ true
  pub is : h ≡ Comm (role_in sc p) receiver branches

pub type_of_chooses : {ms : List ModuleTree} {n : ℕ} {sc : Scope} {p : List ℕ} {bs : Blocks} {s : Spot} {b : Body} {fs : Frames} {h : GlobalTree}
    → Types ms n (Under sc (Then (Chooses p bs s) b) fs) h → IsJoin ms n sc p bs (Under sc b fs) h
type_of_chooses (chooses {q = q} {cs = cs} j some d e) = record {
  receiver = q;
  branches = cs;
  joined = j;
  some = some;
  different = d;
  is = e;
}

pub record IsLoop (ms : List ModuleTree) (n : ℕ) (sc : Scope) (x : List ℕ) (c : Body) (fs : Frames) (h : GlobalTree) : Type 0 where
  pub continued : continues_in x c ≡ true
  pub inner : GlobalTree
  pub typed : Types ms (n + 1) (Under (inside sc x n) c fs) inner
  pub guarded : leads_to_communication inner ≡ true
  pub is : h ≡ GlobalRec inner

pub type_of_repeats : {ms : List ModuleTree} {n : ℕ} {sc : Scope} {x : List ℕ} {c : Body} {s : Spot} {b : Body} {fs : Frames} {h : GlobalTree}
    → Types ms n (Under sc (Then (Repeats x c s) b) fs) h → IsLoop ms n sc x c (Under sc b fs) h ⊎ ((continues_in x c ≡ false) × Types ms n (Under sc c (Under sc b fs)) h)
type_of_repeats (repeats {g = g} k t l e) = inl (record { continued = k; inner = g; typed = t; guarded = l; is = e })
type_of_repeats (passes k t) = inr (k, t)

pub type_of_continues : {ms : List ModuleTree} {n : ℕ} {sc : Scope} {x : List ℕ} {s : Spot} {b : Body} {fs : Frames} {h : GlobalTree}
    → Types ms n (Under sc (Then (Continues x s) b) fs) h → (k i : ℕ) × (level_of x sc.recs ≡ Some k) × (n ≡ k + 1 + i) × (h ≡ GlobalVar i)
type_of_continues (continues {k = k} {i = i} l m e) = (k, i, l, m, e)

pub type_of_calls : {ms : List ModuleTree} {n : ℕ} {sc : Scope} {path roles : List (List ℕ)} {s : Spot} {b : Body} {fs : Frames} {h : GlobalTree}
    → Types ms n (Under sc (Then (Calls path roles s) b) fs) h
    → (c : Declaration) × (called ms sc.within.home path ≡ Some c) × Types ms n (Under (inside_call sc c roles) (body_of c.protocol.body) (Under sc b fs)) h
type_of_calls (calls {c = c} e t) = (c, e, t)

pub join_of_none : {ms : List ModuleTree} {n : ℕ} {sc : Scope} {fs : Frames} {p q : List ℕ} {cs : GlobalBranches} → JoinsTo ms n sc NoBlock fs p q cs → cs ≡ NoBranch
join_of_none joins_none = refl

pub record IsOneMore (ms : List ModuleTree) (n : ℕ) (sc : Scope) (b : Body) (bs : Blocks) (fs : Frames) (p q : List ℕ) (es : GlobalBranches) : Type 0 where
  pub first : GlobalTree
  pub here : GlobalBranches
  pub more : GlobalBranches
  pub typed : Types ms n (Under sc b fs) first
  pub begins : first ≡ Comm p q here
  pub joined : JoinsTo ms n sc bs fs p q more
  pub is : es ≡ and_branches here more

pub join_of_or : {ms : List ModuleTree} {n : ℕ} {sc : Scope} {b : Body} {s : Spot} {bs : Blocks} {fs : Frames} {p q : List ℕ} {es : GlobalBranches}
    → JoinsTo ms n sc (OrBlock b s bs) fs p q es → IsOneMore ms n sc b bs fs p q es
join_of_or (joins {g = g} {cs = cs} {ds = ds} t e j f) = record {
  first = g;
  here = cs;
  more = ds;
  typed = t;
  begins = e;
  joined = j;
  is = f;
}
