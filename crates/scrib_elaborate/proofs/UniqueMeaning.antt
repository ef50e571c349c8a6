-- A protocol means at most one type.
use Rattle.std.proofs.Common.{◌≡◌, ℕ, true, List, map, sym, ap, ◌∙◌, subst, ⊎_elim, arith}
use Rattle.std.proofs.lemmas.Bool.{false≢true}
use Rattle.scrib_types.specs.Trees.{GlobalTree, GlobalVar, GlobalRec, Comm, GlobalBranches}
use Rattle.scrib_types.specs.WellFormed.{has_branches}
use Rattle.scrib_tree.specs.declared.tree.ModuleTree.{ModuleTree}
use Rattle.scrib_static_checks.specs.Source.{Blocks}
use Rattle.scrib_static_checks.specs.SourceView.{body_of}
use Rattle.scrib_static_checks.specs.Elaboration.{Scope, role_in, inside_call, Frames, Under, prefix_message, and_branches, Types, ends, closes, sends, chooses, repeats, passes, continues, calls, JoinsTo, joins_none, joins}
use Rattle.scrib_elaborate.proofs.Inversion.{type_of_none, type_of_done, type_of_sends, type_of_chooses, type_of_repeats, type_of_continues, type_of_calls, join_of_none, join_of_or}

-- the branches of a join, and their receiver where there is one
pub record AreSame (q r : List ℕ) (cs ds : GlobalBranches) : Type 0 where
  pub branches : cs ≡ ds
  pub receiver : has_branches cs ≡ true → q ≡ r

mutual
  pub types_same : {ms : List ModuleTree} {n : ℕ} {fs : Frames} {g : GlobalTree} → Types ms n fs g → (h : GlobalTree) → Types ms n fs h → g ≡ h
  types_same ends h u = sym (type_of_none u)
  types_same (closes t) h u = types_same t h (type_of_done u)
  types_same (sends {sc = sc} {m = m} {p = p} {qs = qs} t e) h u =
      let (k, v, f) = type_of_sends u in
      e ∙ ap (prefix_message m (role_in sc p) (map (role_in sc) qs)) (types_same t k v) ∙ sym f
  types_same (chooses {sc = sc} {p = p} j some d e) h u =
      let v = type_of_chooses u in
      let s = joins_same j v.receiver v.branches v.joined in
      e ∙ (λ i. Comm (role_in sc p) (s.receiver some i) (s.branches i)) ∙ sym v.is
  types_same (repeats {x = x} {c = c} k t l e) h u =
      ⊎_elim (λ v. e ∙ ap GlobalRec (types_same t v.inner v.typed) ∙ sym v.is) (λ v. absurd (cc (k, v.0))) (type_of_repeats u)
  types_same (passes k t) h u =
      ⊎_elim (λ v. absurd (cc (k, v.continued))) (λ v. types_same t h v.1) (type_of_repeats u)
  types_same (continues {n = n} {k = k} {i = i} l m e) h u =
      let (k', i', l', m', e') = type_of_continues u in
      let ks : k ≡ k' = cc in
      let is : i ≡ i' = omega arith in
      e ∙ ap GlobalVar is ∙ sym e'
  types_same {ms = ms} (calls {n = n} {sc = sc} {roles = roles} {b = b} {fs = fs} {c = c} e t) h u =
      let (c', e', t') = type_of_calls u in
      let cs : c' ≡ c = cc in
      types_same t h (subst (λ d. Types ms n (Under (inside_call sc d roles) (body_of d.protocol.body) (Under sc b fs)) h) cs t')

  joins_same : {ms : List ModuleTree} {n : ℕ} {sc : Scope} {bs : Blocks} {fs : Frames} {p q : List ℕ} {cs : GlobalBranches}
      → JoinsTo ms n sc bs fs p q cs → (r : List ℕ) (ds : GlobalBranches) → JoinsTo ms n sc bs fs p r ds → AreSame q r cs ds
  joins_same joins_none r ds u = record { branches = sym (join_of_none u); receiver = λ h. absurd (false≢true h) }
  joins_same (joins {q = q} {cs = cs} t e j f) r ds u =
      let v = join_of_or u in
      let first = types_same t v.first v.typed in
      let more = joins_same j r v.more v.joined in
      let here : cs ≡ v.here = cc (e, first, v.begins) in
      let receivers : q ≡ r = cc (e, first, v.begins) in
      record {
        branches = f ∙ (λ i. and_branches (here i) (more.branches i)) ∙ sym v.is;
        receiver = λ _. receivers;
      }
