-- Trees laid out in tables.
use Rattle.std.proofs.Common.{◌≡◌, ◌≢◌, ℕ, ◌+◌, ◌-◌, ◌<◌, ◌≤◌, List, [], ◌∷◌, ◌++◌, AllPairs, length, get_or, take, set, slice_get, reverse, Some, refl, sym, ap, subst, ◌∙◌, arith, length-append, length-set}
use Rattle.std.specs.List.Sorted.{IsPermutation}
use Rattle.std.proofs.Math.Seq.{get_or-append_seam}
use Rattle.std.proofs.lemmas.List.{get_or_append_left, get_or-set_same, get_or-set_other, get_or-reverse, get_or_default, length-reverse, reverse-append, take_more}
use Rattle.std.proofs.lemmas.Option.{slice_get-get_or}
use Rattle.scrib_types.specs.declared.event.Action.{Action}
use Rattle.scrib_types.specs.declared.event.Action.TheVariants.{Sends, Receives}
use Rattle.scrib_types.specs.declared.local.Local.{Local}
use Rattle.scrib_types.specs.declared.message.Message.{Message}
use Rattle.scrib_types.specs.Judgement.{ComesBefore}
use Rattle.scrib_types.specs.LocalView.{local_of, local_branches}
use Rattle.scrib_types.specs.Trees.{LocalTree, LocalEnd, LocalVar, LocalRec, Send, Recv, LocalBranches, NoChoice, Choice}
use Rattle.scrib_machine.specs.declared.machine.Edge.{Edge}
use Rattle.scrib_machine.specs.Compilable.{Closed}
use Rattle.scrib_machine.specs.Layout.{size, sizes, actions_of, edges_of, HasEdges, Laid, LaidAll, Kept, Placed, PlacedAll}

-- tables that have the same states from n on, up to a number of them
abbrev Same : List (List Edge) → List (List Edge) → ℕ → ℕ → Type 0
Same m m' n k = (i : ℕ) → n ≤ i → i < n + k → slice_get m' i ≡ slice_get m i

row_kept : (m m' : List (List Edge)) (n : ℕ) (f : Message → Action) (ls : LocalBranches) (ks : List ℕ) → slice_get m' n ≡ slice_get m n → HasEdges m n f ls ks → HasEdges m' n f ls ks
row_kept m m' n f ls ks e r = record { edges = r.edges; here = e ∙ r.here; same = r.same; sorted = r.sorted }

mutual
  laid_kept : (m m' : List (List Edge)) (env : List ℕ) (l : LocalTree) (n r : ℕ) → Same m m' n (size l) → Laid m env l n r → Laid m' env l n r
  laid_kept m m' env LocalEnd n r s w = (w.0, s n (omega arith) (omega arith) ∙ w.1)
  laid_kept m m' env (LocalVar k) n r s w = w
  laid_kept m m' env (LocalRec b) n r s w = laid_kept m m' (n ∷ env) b n r s w
  laid_kept m m' env (Send q ls) n r s w =
      (w.0, (w.1.0, laid_all_kept m m' env ls (n + 1) w.1.0 (λ i lo hi. s i (omega arith) (omega arith)) w.1.1, row_kept m m' n (Sends q) ls w.1.0 (s n (omega arith) (omega arith)) w.1.2))
  laid_kept m m' env (Recv p ls) n r s w =
      (w.0, (w.1.0, laid_all_kept m m' env ls (n + 1) w.1.0 (λ i lo hi. s i (omega arith) (omega arith)) w.1.1, row_kept m m' n (Receives p) ls w.1.0 (s n (omega arith) (omega arith)) w.1.2))

  laid_all_kept : (m m' : List (List Edge)) (env : List ℕ) (ls : LocalBranches) (n : ℕ) (ks : List ℕ) → Same m m' n (sizes ls) → LaidAll m env ls n ks → LaidAll m' env ls n ks
  laid_all_kept m m' env NoChoice n [] s w = tt
  laid_all_kept m m' env NoChoice n (k ∷ ks) s w = absurd w
  laid_all_kept m m' env (Choice x l ls) n [] s w = absurd w
  laid_all_kept m m' env (Choice x l ls) n (k ∷ ks) s w =
      (laid_kept m m' env l n k (λ i lo hi. s i lo (omega arith)) w.0, laid_all_kept m m' env ls (n + size l) ks (λ i lo hi. s i (omega arith) (omega arith)) w.1)

-- one more state
pub pushed_as : (old new : List (List Edge)) (x y : List Edge) → new ≡ old ++ x ∷ [] → x ≡ y → new ≡ old ++ y ∷ []
pushed_as old new x y is same = is ∙ ap (λ (z : List Edge). old ++ z ∷ []) same

push_kept : (old : List (List Edge)) (x : List Edge) → Kept old (old ++ x ∷ [])
push_kept old x i h =
    let long : length (old ++ x ∷ []) ≡ length old + 1 = length-append old (x ∷ []) in
    slice_get-get_or (old ++ x ∷ []) i x (omega (arith, long, h)) ∙ ap Some (get_or_append_left old (x ∷ []) x i h) ∙ sym (slice_get-get_or old i x h)

push_last : (old : List (List Edge)) (x : List Edge) → slice_get (old ++ x ∷ []) (length old) ≡ Some x
push_last old x =
    let long : length (old ++ x ∷ []) ≡ length old + 1 = length-append old (x ∷ []) in
    slice_get-get_or (old ++ x ∷ []) (length old) x (omega (arith, long)) ∙ ap Some (get_or-append_seam old x [] x)

set_here : (m : List (List Edge)) (i : ℕ) (x : List Edge) → i < length m → slice_get (set m i x) i ≡ Some x
set_here m i x h = slice_get-get_or (set m i x) i x (omega (arith, length-set m i x, h)) ∙ ap Some (get_or-set_same m i x x h)

set_other : (m : List (List Edge)) (i j : ℕ) (x : List Edge) → j ≢ i → j < length m → slice_get (set m i x) j ≡ slice_get m j
set_other m i j x ne h =
    slice_get-get_or (set m i x) j x (omega (arith, length-set m i x, h)) ∙ ap Some (get_or-set_other m i j x x ne) ∙ sym (slice_get-get_or m j x h)

pub placed_end : (old new : List (List Edge)) (env : List ℕ) (t : LocalTree) (r : ℕ) → t ≡ LocalEnd → new ≡ old ++ [] ∷ [] → r ≡ length old → Placed old new env t r
placed_end old new env t r form is at =
    subst (λ x. Placed old new env x r) (sym form)
    (subst (λ (x : List (List Edge)). Placed old x env LocalEnd r) (sym is) (record {
      counted = length-append old ([] ∷ []);
      kept = push_kept old [];
      laid = (at, push_last old []);
    }))

pub placed_var : (m : List (List Edge)) (outer : List ℕ) (t : LocalTree) (k n r : ℕ) → t ≡ LocalVar k → Closed t (length outer) → n ≡ length outer → r ≡ get_or outer (n - 1 - k) r → Placed m m (reverse outer) t r
placed_var m outer t k n r form closed len is =
    let h : k < length outer = subst (λ x. Closed x (length outer)) form closed in
    let long : length (reverse outer) ≡ length outer = length-reverse outer in
    let at : r ≡ get_or outer (length outer - 1 - k) 0 = is ∙ ap (λ x. get_or outer (x - 1 - k) r) len ∙ get_or_default outer (length outer - 1 - k) r 0 (omega arith) in
    subst (λ x. Placed m m (reverse outer) x r) (sym form) (record {
      counted = omega arith;
      kept = λ i n. refl;
      laid = slice_get-get_or (reverse outer) k 0 (omega (arith, long, h)) ∙ ap Some (get_or-reverse outer k 0 h ∙ sym at);
    })

pub placed_rec : (old new : List (List Edge)) (outer pushed : List ℕ) (n : ℕ) (t body : LocalTree) (r : ℕ) → t ≡ LocalRec body → pushed ≡ outer ++ n ∷ [] → n ≡ length old → Placed old new (reverse pushed) body r → Placed old new (reverse outer) t r
placed_rec old new outer pushed n t body r form is at p =
    let env : reverse pushed ≡ length old ∷ reverse outer = ap reverse is ∙ reverse-append outer (n ∷ []) ∙ ap (λ x. x ∷ reverse outer) at in
    subst (λ x. Placed old new (reverse outer) x r) (sym form) (record {
      counted = p.counted;
      kept = p.kept;
      laid = subst (λ (e : List ℕ). Laid new e body (length old) r) env p.laid;
    })

-- a choice, from its branches and its row
record Filled (old new : List (List Edge)) (env : List ℕ) (f : Message → Action) (ls : LocalBranches) : Type 0 where
  counted : length new ≡ length old + (sizes ls + 1)
  kept : Kept old new
  ks : List ℕ
  laid : LaidAll new env ls (length old + 1) ks
  row : HasEdges new (length old) f ls ks

filled : (old mid laid new : List (List Edge)) (env : List ℕ) (f : Message → Action) (ls : LocalBranches) (ks : List ℕ) (es : List Edge) → mid ≡ old ++ [] ∷ [] → PlacedAll mid laid env ls ks → new ≡ set laid (length old) es → IsPermutation (edges_of f ls ks) es → AllPairs ComesBefore (actions_of es) → Filled old new env f ls
filled old mid laid new env f ls ks es start p is same sorted =
    let long : length mid ≡ length old + 1 = ap length start ∙ length-append old ([] ∷ []) in
    let at : length old < length laid = omega (arith, long, p.counted) in
    let total : length new ≡ length laid = ap length is ∙ length-set laid (length old) es in
    let other : (i : ℕ) → i ≢ length old → i < length laid → slice_get new i ≡ slice_get laid i =
    λ i ne h. ap (λ (x : List (List Edge)). slice_get x i) is ∙ set_other laid (length old) i es ne h in
    record {
      counted = omega (arith, long, total, p.counted);
      kept = λ i h. other i (λ e. absurd (omega arith)) (omega (arith, at, h)) ∙ p.kept i (omega (arith, long, h)) ∙ ap (λ (x : List (List Edge)). slice_get x i) start ∙ push_kept old [] i h;
      ks = ks;
      laid = subst (λ x. LaidAll new env ls x ks) long
          (laid_all_kept laid new env ls (length mid) ks (λ i lo hi. other i (λ e. absurd (omega (arith, long, lo, e))) (omega (arith, p.counted, hi))) p.laid);
      row = record { edges = es; here = ap (λ (x : List (List Edge)). slice_get x (length old)) is ∙ set_here laid (length old) es at; same = same; sorted = sorted };
    }

pub placed_send : (old mid laid new : List (List Edge)) (env : List ℕ) (t : LocalTree) (q : List ℕ) (ls : LocalBranches) (ks : List ℕ) (es : List Edge) (r : ℕ) → t ≡ Send q ls → mid ≡ old ++ [] ∷ [] → PlacedAll mid laid env ls ks → new ≡ set laid (length old) es → IsPermutation (edges_of (Sends q) ls ks) es → AllPairs ComesBefore (actions_of es) → r ≡ length old → Placed old new env t r
placed_send old mid laid new env t q ls ks es r form start p is same sorted at =
    let w = filled old mid laid new env (Sends q) ls ks es start p is same sorted in
    subst (λ x. Placed old new env x r) (sym form) (record { counted = w.counted; kept = w.kept; laid = (at, (w.ks, w.laid, w.row)) })

pub placed_recv : (old mid laid new : List (List Edge)) (env : List ℕ) (t : LocalTree) (p : List ℕ) (ls : LocalBranches) (ks : List ℕ) (es : List Edge) (r : ℕ) → t ≡ Recv p ls → mid ≡ old ++ [] ∷ [] → PlacedAll mid laid env ls ks → new ≡ set laid (length old) es → IsPermutation (edges_of (Receives p) ls ks) es → AllPairs ComesBefore (actions_of es) → r ≡ length old → Placed old new env t r
placed_recv old mid laid new env t p ls ks es r form start a is same sorted at =
    let w = filled old mid laid new env (Receives p) ls ks es start a is same sorted in
    subst (λ x. Placed old new env x r) (sym form) (record { counted = w.counted; kept = w.kept; laid = (at, (w.ks, w.laid, w.row)) })

-- branches, one after another
sizes_push : (bs : List (Message × Local)) (b : Message × Local) → sizes (local_branches (bs ++ b ∷ [])) ≡ sizes (local_branches bs) + size (local_of b.1)
sizes_push [] b = omega arith
sizes_push (c ∷ bs) b = omega (arith, sizes_push bs b)

laid_push : (m : List (List Edge)) (env : List ℕ) (bs : List (Message × Local)) (b : Message × Local) (n at : ℕ) (ks : List ℕ) (k : ℕ) → LaidAll m env (local_branches bs) n ks → at ≡ n + sizes (local_branches bs) → Laid m env (local_of b.1) at k → LaidAll m env (local_branches (bs ++ b ∷ [])) n (ks ++ k ∷ [])
laid_push m env [] b n at [] k w is l =
    let e : at ≡ n = omega arith in (subst (λ x. Laid m env (local_of b.1) x k) e l, tt)
laid_push m env [] b n at (x ∷ ks) k w is l = absurd w
laid_push m env (c ∷ bs) b n at [] k w is l = absurd w
laid_push m env (c ∷ bs) b n at (x ∷ ks) k w is l =
    (w.0, laid_push m env bs b (n + size (local_of c.1)) at ks k w.1 (omega arith) l)

pub all_more : (old mid new : List (List Edge)) (env : List ℕ) (bs : List (Message × Local)) (i : ℕ) (b : Message × Local) (ks ks' : List ℕ) (k : ℕ) → i < length bs → b ≡ get_or bs i b → PlacedAll old mid env (local_branches (take i bs)) ks → Placed mid new env (local_of b.1) k → ks' ≡ ks ++ k ∷ [] → PlacedAll old new env (local_branches (take (i + 1) bs)) ks'
all_more old mid new env bs i b ks ks' k h is p one pushed =
    let more : take (i + 1) bs ≡ take i bs ++ b ∷ [] = take_more bs i b h ∙ ap (λ (x : Message × Local). take i bs ++ x ∷ []) (sym is) in
    let long : sizes (local_branches (take (i + 1) bs)) ≡ sizes (local_branches (take i bs)) + size (local_of b.1) = ap (λ (xs : List (Message × Local)). sizes (local_branches xs)) more ∙ sizes_push (take i bs) b in
    record {
      counted = omega (arith, long, p.counted, one.counted);
      kept = λ j g. one.kept j (omega (arith, p.counted, g)) ∙ p.kept j g;
      laid = subst (λ (xs : List (Message × Local)). LaidAll new env (local_branches xs) (length old) ks') (sym more)
          (subst (λ (x : List ℕ). LaidAll new env (local_branches (take i bs ++ b ∷ [])) (length old) x) (sym pushed)
          (laid_push new env (take i bs) b (length old) (length mid) ks k
          (laid_all_kept mid new env (local_branches (take i bs)) (length old) ks (λ j lo hi. one.kept j (omega (arith, p.counted, hi))) p.laid) p.counted one.laid));
    }

pub each_next : (m : List (List Edge)) (env : List ℕ) (bs : List (Message × Local)) (n : ℕ) (ks : List ℕ) → LaidAll m env (local_branches bs) n ks → length ks ≡ length bs
each_next m env [] n [] w = refl
each_next m env [] n (k ∷ ks) w = absurd w
each_next m env (b ∷ bs) n [] w = absurd w
each_next m env (b ∷ bs) n (k ∷ ks) w = omega (arith, each_next m env bs (n + size (local_of b.1)) ks w.1)
