-- Branches of a list, from an index on; a recursion substituted in each; and the branch of a message.
use Rattle.std.proofs.Common.{◌≡◌, ◌≢◌, ◌↔◌, inl, inr, Bool, false, IsTrue, ℕ, zero, suc, ◌+◌, ◌<◌, ◌≤◌, List, [], ◌∷◌, ◌++◌, length, get_or, drop, refl, sym, ap, ◌∙◌, subst, arith, add-one}
use Rattle.std.proofs.lemmas.Bool.{true≢false}
use Rattle.scrib_types.specs.declared.message.Message.{Message}
use Rattle.scrib_types.specs.declared.local.Local.{Local}
use Rattle.scrib_types.specs.LocalView.{local_of, local_branches}
use Rattle.scrib_types.specs.Trees.{LocalTree, LocalRec, LocalBranches, NoChoice, Choice}
use Rattle.scrib_types.specs.Traces.{substitute_all, Offers}
use Rattle.scrib_global.specs.Unfolded.{Represents, Substitutes, SubstitutesAll}

from_index : (bs : List (Message × Local)) (i : ℕ) (d : Message × Local) → i < length bs → local_branches (drop i bs) ≡ Choice (get_or bs i d).0 (local_of (get_or bs i d).1) (local_branches (drop (suc i) bs))
from_index [] i d h = absurd (omega arith)
from_index (b ∷ bs) zero d h = refl
from_index (b ∷ bs) (suc i) d h = let k : i < length bs = omega arith in from_index bs i d k

-- the branches from the one at i on
pub branches_from : (bs : List (Message × Local)) (i : ℕ) (b : Message × Local) → b ≡ get_or bs i b → i < length bs → local_branches (drop i bs) ≡ Choice b.0 (local_of b.1) (local_branches (drop (i + 1) bs))
branches_from bs i b is h = rw add-one (from_index bs i b h ∙ ap (λ (x : Message × Local). Choice x.0 (local_of x.1) (local_branches (drop (suc i) bs))) (sym is))

-- none are left at the end
pub branches_end : (bs : List (Message × Local)) (i : ℕ) → length bs ≤ i → local_branches (drop i bs) ≡ NoChoice
branches_end [] zero h = refl
branches_end [] (suc i) h = refl
branches_end (b ∷ bs) zero h = absurd (omega arith)
branches_end (b ∷ bs) (suc i) h = let k : length bs ≤ i = omega arith in branches_end bs i k

-- the listed branches, then the others
abbrev pub before : List (Message × Local) → LocalBranches → LocalBranches
before [] ls = ls
before (b ∷ bs) ls = Choice b.0 (local_of b.1) (before bs ls)

before_push : (bs : List (Message × Local)) (m : Message) (l : Local) (ls : LocalBranches) → before (bs ++ (m, l) ∷ []) ls ≡ before bs (Choice m (local_of l) ls)
before_push [] m l ls = refl
before_push (c ∷ bs) m l ls = ap (Choice c.0 (local_of c.1)) (before_push bs m l ls)

before_none : (bs : List (Message × Local)) → before bs NoChoice ≡ local_branches bs
before_none [] = refl
before_none (c ∷ bs) = ap (Choice c.0 (local_of c.1)) (before_none bs)

-- in these branches it was substituted, and in the rest it is still to be
abbrev pub SubstitutesSoFar : LocalTree → List (Message × Local) → LocalBranches → ℕ → LocalBranches → Type 0
SubstitutesSoFar body done rest d all =
    (n : ℕ) → Represents d n → before done (substitute_all (LocalRec body) rest n) ≡ substitute_all (LocalRec body) all n

pub substitute_more : (body : LocalTree) (bs : List (Message × Local)) (i : ℕ) (b : Message × Local) (xs ys : List (Message × Local)) (m : Message) (l : Local) (d : ℕ) (all : LocalBranches) → i < length bs → b ≡ get_or bs i b → m ≡ b.0 → Substitutes body (local_of b.1) d (local_of l) → ys ≡ xs ++ (m, l) ∷ [] → SubstitutesSoFar body xs (local_branches (drop i bs)) d all → SubstitutesSoFar body ys (local_branches (drop (i + 1) bs)) d all
substitute_more body bs i b xs ys m l d all h is same gives pushed inv = λ n represents.
    let rest = substitute_all (LocalRec body) (local_branches (drop (i + 1) bs)) n in
    ap (λ (zs : List (Message × Local)). before zs rest) pushed
    ∙ before_push xs m l rest
    ∙ ap (λ (x : Message). before xs (Choice x (local_of l) rest)) same
    ∙ ap (λ (t : LocalTree). before xs (Choice b.0 t rest)) (gives n represents)
    ∙ ap (λ (ls : LocalBranches). before xs (substitute_all (LocalRec body) ls n)) (sym (branches_from bs i b is h))
    ∙ inv n represents

pub substitute_done : (body : LocalTree) (bs : List (Message × Local)) (i : ℕ) (done : List (Message × Local)) (d : ℕ) (all : LocalBranches) → length bs ≤ i → SubstitutesSoFar body done (local_branches (drop i bs)) d all → SubstitutesAll body all d (local_branches done)
substitute_done body bs i done d all h inv = λ n represents.
    sym (before_none done)
    ∙ ap (λ (ls : LocalBranches). before done (substitute_all (LocalRec body) ls n)) (sym (branches_end bs i h))
    ∙ inv n represents

-- the message is offered by the rest as by all
abbrev pub SameOffers : LocalBranches → LocalBranches → Message → Type 0
SameOffers rest all m = (k : LocalTree) → Offers rest m k ↔ Offers all m k

-- the branch at i has the message
pub offer_here : (bs : List (Message × Local)) (i : ℕ) (b : Message × Local) (m : Message) (l : LocalTree) (all : LocalBranches) → b ≡ get_or bs i b → i < length bs → m ≡ b.0 → l ≡ local_of b.1 → SameOffers (local_branches (drop i bs)) all m → Offers all m l
offer_here bs i b m l all is h same next inv =
    (inv l).0 (subst (λ ls. Offers ls m l) (sym (branches_from bs i b is h)) (inl (same, next)))

-- the branch at i has another
pub offer_later : (bs : List (Message × Local)) (i : ℕ) (b : Message × Local) (m : Message) (all : LocalBranches) → b ≡ get_or bs i b → i < length bs → m ≢ b.0 → SameOffers (local_branches (drop i bs)) all m → SameOffers (local_branches (drop (i + 1) bs)) all m
offer_later bs i b m all is h other inv k =
    let from = branches_from bs i b is h in (
      λ o. (inv k).0 (subst (λ ls. Offers ls m k) (sym from) (inr (other, o))),
      λ o. elim (subst (λ ls. Offers ls m k) from ((inv k).1 o)) [ inl e ↦ absurd (other e.0) | inr r ↦ r.1 ],
    )

-- no branch has it
pub offer_none : (bs : List (Message × Local)) (i : ℕ) (m : Message) (all : LocalBranches) → length bs ≤ i → SameOffers (local_branches (drop i bs)) all m → (k : LocalTree) → Offers all m k → ⊥
offer_none bs i m all h inv k o = subst (λ ls. Offers ls m k) (branches_end bs i h) ((inv k).1 o)

pub differs : {P : Type 0} (r : Bool) → (IsTrue r ↔ P) → r ≡ false → P → ⊥
differs r h e p = true≢false (sym (h.1 p) ∙ e)
