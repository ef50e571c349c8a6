-- The alternatives of two receptions, one after the other.
use Rattle.std.proofs.Common.{◌≡◌, ℕ, zero, suc, ◌+◌, ◌≤◌, ◌<◌, Bool, true, false, ◌&&◌, List, [], ◌∷◌, ◌++◌, length, get_or, drop, Option, Some, None, option_map, option_and_then, if◌then◌else◌, refl, sym, ap, ◌∙◌, arith, add-one}
use Rattle.scrib_types.specs.declared.message.Message.{Message}
use Rattle.scrib_types.specs.declared.local.Local.{Local}
use Rattle.scrib_types.specs.Trees.{LocalTree, LocalBranches, NoChoice, Choice}
use Rattle.scrib_types.specs.LocalView.{local_of, local_branches}
use Rattle.scrib_types.specs.Same.{same_operator, same_message, same_local}
use Rattle.scrib_types.specs.Projection.{with_alternative, alternatives}
use Rattle.scrib_projection.specs.declared.alternatives.Fit.{Fit}
use Rattle.scrib_projection.specs.declared.alternatives.Fit.TheVariants.{Known, New, Clashing}
use Rattle.scrib_projection.specs.Merging.{and_choice, fitted}

-- the alternative at this place
locals_drop' : (bs : List (Message × Local)) (i : ℕ) (d : Message × Local) → i < length bs → local_branches (drop i bs) ≡ Choice (get_or bs i d).0 (local_of (get_or bs i d).1) (local_branches (drop (suc i) bs))
locals_drop' [] i d h = absurd (omega arith)
locals_drop' (b ∷ bs) zero d h = refl
locals_drop' (b ∷ bs) (suc i) d h = let k : i < length bs = omega arith in locals_drop' bs i d k

pub locals_more : (bs : List (Message × Local)) (i : ℕ) (b : Message × Local) → i < length bs → b ≡ get_or bs i b → local_branches (drop i bs) ≡ Choice b.0 (local_of b.1) (local_branches (drop (i + 1) bs))
locals_more bs i b h is =
    rw add-one (locals_drop' bs i b h ∙ ap (λ (x : Message × Local). Choice x.0 (local_of x.1) (local_branches (drop (suc i) bs))) (sym is))

pub locals_end : (bs : List (Message × Local)) (i : ℕ) → length bs ≤ i → local_branches (drop i bs) ≡ NoChoice
locals_end [] zero h = refl
locals_end [] (suc i) h = refl
locals_end (b ∷ bs) zero h = absurd (omega arith)
locals_end (b ∷ bs) (suc i) h = let k : length bs ≤ i = omega arith in locals_end bs i k

pub locals_push : (bs : List (Message × Local)) (b : Message × Local) → local_branches (bs ++ b ∷ []) ≡ and_choice (local_branches bs) b.0 (local_of b.1)
locals_push [] b = refl
locals_push (c ∷ bs) b = ap (Choice c.0 (local_of c.1)) (locals_push bs b)

-- how one more fits the alternatives that are left
abbrev pub IsFit : Fit → Message → LocalTree → LocalBranches → Type 0
IsFit f m l ls = fitted f m l ls ≡ with_alternative m l ls

fitted_later : (f : Fit) (m n : Message) (l k : LocalTree) (ls : LocalBranches) → fitted f m l (Choice n k ls) ≡ option_map (Choice n k) (fitted f m l ls)
fitted_later Known m n l k ls = refl
fitted_later New m n l k ls = refl
fitted_later Clashing m n l k ls = refl

-- the next has another operator
pub fit_later : (f : Fit) (m n : Message) (l k : LocalTree) (from ls : LocalBranches) → from ≡ Choice n k ls → same_operator m.op n.op ≡ false → IsFit f m l ls → IsFit f m l from
fit_later f m n l k from ls is apart h =
    ap (fitted f m l) is
    ∙ fitted_later f m n l k ls
    ∙ ap (option_map (Choice n k)) h
    ∙ ap (λ b. if b then (if same_message m n && same_local l k then Some (Choice n k ls) else None) else option_map (Choice n k) (with_alternative m l ls)) (sym apart)
    ∙ ap (with_alternative m l) (sym is)

-- the next has the operator
pub fit_here : (m n : Message) (l k : LocalTree) (from ls : LocalBranches) (b : Bool) (f : Fit) → from ≡ Choice n k ls → same_operator m.op n.op ≡ true → same_message m n && same_local l k ≡ b → fitted f m l (Choice n k ls) ≡ (if b then Some (Choice n k ls) else None) → IsFit f m l from
fit_here m n l k from ls b f is same test h =
    ap (fitted f m l) is
    ∙ h
    ∙ ap (λ x. if x then Some (Choice n k ls) else None) (sym test)
    ∙ ap (λ x. if x then (if same_message m n && same_local l k then Some (Choice n k ls) else None) else option_map (Choice n k) (with_alternative m l ls)) (sym same)
    ∙ ap (with_alternative m l) (sym is)

-- none has the operator
pub fit_none : (m : Message) (l : LocalTree) (from : LocalBranches) → from ≡ NoChoice → IsFit New m l from
fit_none m l from is = ap (fitted New m l) is ∙ ap (with_alternative m l) (sym is)

-- a new one is put after the others
pub pushed : (f : Fit) (known shown next : List (Message × Local)) (m n : Message) (l k : Local) → f ≡ New → shown ≡ known → IsFit f m (local_of l) (local_branches shown) → n ≡ m → k ≡ l → next ≡ known ++ (n, k) ∷ [] → Some (local_branches next) ≡ with_alternative m (local_of l) (local_branches known)
pushed f known shown next m n l k new same fits message local is =
    ap (λ bs. Some (local_branches bs)) is
    ∙ ap Some (locals_push known (n, k))
    ∙ (λ i. Some (and_choice (local_branches known) (message i) (local_of (local i))))
    ∙ (λ i. fitted (sym new i) m (local_of l) (local_branches (sym same i)))
    ∙ fits
    ∙ ap (λ bs. with_alternative m (local_of l) (local_branches bs)) same

-- one more of the other reception's
pub joined_step : (known next from rest : LocalBranches) (m : Message) (l : LocalTree) (all : Option LocalBranches) → from ≡ Choice m l rest → with_alternative m l known ≡ Some next → alternatives known from ≡ all → alternatives next rest ≡ all
joined_step known next from rest m l all is one so =
    ap (option_and_then (λ js. alternatives js rest)) (sym one) ∙ ap (alternatives known) (sym is) ∙ so

pub joined_never : (known from rest : LocalBranches) (m : Message) (l : LocalTree) (all : Option LocalBranches) → from ≡ Choice m l rest → with_alternative m l known ≡ None → alternatives known from ≡ all → None ≡ all
joined_never known from rest m l all is one so =
    ap (option_and_then (λ js. alternatives js rest)) (sym one) ∙ ap (alternatives known) (sym is) ∙ so

pub joined_end : (known from : LocalBranches) (all : Option LocalBranches) → from ≡ NoChoice → alternatives known from ≡ all → Some known ≡ all
joined_end known from all is so = ap (alternatives known) (sym is) ∙ so
