-- The requirements of laying a tree out, for its parts.
use Rattle.std.proofs.Common.{◌≡◌, ℕ, zero, suc, ◌+◌, ◌<◌, ◌≤◌, List, [], ◌∷◌, ◌++◌, length, get_or, take, sym, ap, subst, ◌∙◌, arith, length-append}
use Rattle.scrib_types.specs.declared.local.Local.{Local}
use Rattle.scrib_types.specs.declared.message.Message.{Message}
use Rattle.scrib_types.specs.LocalView.{local_of, local_branches}
use Rattle.scrib_types.specs.Trees.{LocalTree, LocalEnd, LocalVar, LocalRec, Send, Recv, LocalBranches, NoChoice, Choice}
use Rattle.scrib_machine.specs.declared.machine.Edge.{Edge}
use Rattle.scrib_machine.specs.Compilable.{Closed, ClosedAll, Distinct, DistinctAll, nodes, nodes_all}
use Rattle.scrib_machine.specs.Layout.{size, sizes, PlacedAll}

-- the requirements for the branches
mutual
  size_nodes : (l : LocalTree) → size l ≤ nodes l
  size_nodes LocalEnd = omega arith
  size_nodes (LocalVar k) = omega arith
  size_nodes (LocalRec b) = omega (arith, size_nodes b)
  size_nodes (Send q ls) = omega (arith, sizes_nodes ls)
  size_nodes (Recv p ls) = omega (arith, sizes_nodes ls)

  sizes_nodes : (ls : LocalBranches) → sizes ls ≤ nodes_all ls
  sizes_nodes NoChoice = omega arith
  sizes_nodes (Choice x l ls) = omega (arith, size_nodes l, sizes_nodes ls)

room_at' : (bs : List (Message × Local)) (i : ℕ) (d : Message × Local) → i < length bs → sizes (local_branches (take i bs)) + nodes (local_of (get_or bs i d).1) ≤ nodes_all (local_branches bs)
room_at' [] i d h = absurd (omega arith)
room_at' (b ∷ bs) zero d h = omega arith
room_at' (b ∷ bs) (suc i) d h = let k : i < length bs = omega arith in omega (arith, room_at' bs i d k, size_nodes (local_of b.1))

pub nodes_at : (bs : List (Message × Local)) (i : ℕ) (b : Message × Local) → b ≡ get_or bs i b → i < length bs → nodes (local_of b.1) ≤ nodes_all (local_branches bs)
nodes_at bs i b is h =
    let e : nodes (local_of b.1) ≡ nodes (local_of (get_or bs i b).1) = ap (λ (x : Message × Local). nodes (local_of x.1)) is in
    omega (arith, e, room_at' bs i b h)

pub room_at : (old mid : List (List Edge)) (env : List ℕ) (bs : List (Message × Local)) (i : ℕ) (b : Message × Local) (ks : List ℕ) (limit : ℕ) → length old + nodes_all (local_branches bs) ≤ limit → PlacedAll old mid env (local_branches (take i bs)) ks → b ≡ get_or bs i b → i < length bs → length mid + nodes (local_of b.1) ≤ limit
room_at old mid env bs i b ks limit room p is h =
    let e : nodes (local_of b.1) ≡ nodes (local_of (get_or bs i b).1) = ap (λ (x : Message × Local). nodes (local_of x.1)) is in
    omega (arith, room, p.counted, e, room_at' bs i b h)

each_closed : (bs : List (Message × Local)) (i d : ℕ) (b : Message × Local) → ClosedAll (local_branches bs) d → i < length bs → Closed (local_of (get_or bs i b).1) d
each_closed [] i d b c h = absurd (omega arith)
each_closed (x ∷ bs) zero d b c h = c.0
each_closed (x ∷ bs) (suc i) d b c h = let k : i < length bs = omega arith in each_closed bs i d b c.1 k

pub closed_at : (bs : List (Message × Local)) (i d e : ℕ) (b : Message × Local) → ClosedAll (local_branches bs) d → b ≡ get_or bs i b → i < length bs → e ≡ d → Closed (local_of b.1) e
closed_at bs i d e b c is h same =
    subst (λ n. Closed (local_of b.1) n) (sym same) (subst (λ (x : Message × Local). Closed (local_of x.1) d) (sym is) (each_closed bs i d b c h))

each_distinct : (bs : List (Message × Local)) (i : ℕ) (b : Message × Local) → DistinctAll (local_branches bs) → i < length bs → Distinct (local_of (get_or bs i b).1)
each_distinct [] i b c h = absurd (omega arith)
each_distinct (x ∷ bs) zero b c h = c.0
each_distinct (x ∷ bs) (suc i) b c h = let k : i < length bs = omega arith in each_distinct bs i b c.1 k

pub distinct_at : (bs : List (Message × Local)) (i : ℕ) (b : Message × Local) → DistinctAll (local_branches bs) → b ≡ get_or bs i b → i < length bs → Distinct (local_of b.1)
distinct_at bs i b c is h = subst (λ (x : Message × Local). Distinct (local_of x.1)) (sym is) (each_distinct bs i b c h)

-- the requirements for the parts of a tree of a known form
pub rec_room : (t body : LocalTree) (n limit : ℕ) → t ≡ LocalRec body → n + nodes t ≤ limit → n + nodes body ≤ limit
rec_room t body n limit form h = omega (arith, ap nodes form, h)

pub rec_closed : (t body : LocalTree) (d : ℕ) (outer pushed : List ℕ) (n : ℕ) → t ≡ LocalRec body → pushed ≡ outer ++ n ∷ [] → Closed t (length outer) → Closed body (length pushed)
rec_closed t body d outer pushed n form is h =
    let e : length outer + 1 ≡ length pushed = sym (ap length is ∙ length-append outer (n ∷ [])) in
    let c : Closed body (length outer + 1) = subst (λ x. Closed x (length outer)) form h in
    subst (λ k. Closed body k) e c

pub rec_distinct : (t body : LocalTree) → t ≡ LocalRec body → Distinct t → Distinct body
rec_distinct t body form h = subst (λ x. Distinct x) form h

pub choice_room : (t u : LocalTree) (ls : LocalBranches) (old mid : List (List Edge)) (x : List Edge) (limit : ℕ) → t ≡ u → nodes u ≡ nodes_all ls + 1 → mid ≡ old ++ x ∷ [] → length old + nodes t ≤ limit → length mid + nodes_all ls ≤ limit
choice_room t u ls old mid x limit form count is h =
    let e : length mid ≡ length old + 1 = ap length is ∙ length-append old (x ∷ []) in omega (arith, e, count, ap nodes form, h)
