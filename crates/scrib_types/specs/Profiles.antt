-- Where the plain merge projects, the merge of receptions projects to the same local type.
use Rattle.std.specs.Prelude.{◌≡◌, Bool, true, false, ◌&&◌, not, ℕ, List, Option, Some, None, option_map, option_and_then, if◌then◌else◌, refl}
use Rattle.std.proofs.Common.{ap, ◌∙◌}
use Rattle.std.specs.Str.{bytes_eq}
use Rattle.scrib_types.specs.declared.message.Message.{Message}
use Rattle.scrib_types.specs.declared.profile.Profile.TheVariants.{Plain, Reception}
use Rattle.scrib_types.specs.Trees.{GlobalTree, GlobalEnd, GlobalVar, GlobalRec, Comm, Flight, GlobalBranches, NoBranch, Branch, LocalTree, LocalEnd, LocalRec, LocalBranches, NoChoice, Choice, Send, Recv}
use Rattle.scrib_types.specs.Same.{same_local}
use Rattle.scrib_types.specs.Projection.{is_closed, occurs, merged_receptions, merged_two, merged_with, merged, with_choice, seen_by, projection, branch_projections}

-- where the first has a value, the second has the same
abbrev pub KeepsValue : {X : Type 0} → Option X → Option X → Type 0
KeepsValue {X} o u = (x : X) → o ≡ Some x → u ≡ Some x

map_kept : {X Y : Type 0} (f : X → Y) (o u : Option X) → KeepsValue o u → KeepsValue (option_map f o) (option_map f u)
map_kept f None u h y e = absurd (cc)
map_kept f (Some x) u h y e = ap (option_map f) (h x refl) ∙ e

chained : {X Y : Type 0} (f g : X → Option Y) (o u : Option X) → ((x : X) → KeepsValue (f x) (g x)) → KeepsValue o u
    → KeepsValue (option_and_then f o) (option_and_then g u)
chained f g None u k h y e = absurd (cc)
chained f g (Some x) u k h y e = ap (option_and_then g) (h x refl) ∙ k x y e

two : (l k : LocalTree) → KeepsValue (merged_two Plain l k) (merged_two Reception l k)
two l k j e = by (same_local l k) e
  where
    by : (b : Bool) → (if b then Some l else None) ≡ Some j → (if b then Some l else merged_receptions l k) ≡ Some j
    by true f = f
    by false f = absurd (cc)

with : (l : LocalTree) (ls : LocalBranches) → KeepsValue (merged_with Plain l ls) (merged_with Reception l ls)
with l NoChoice j e = e
with l (Choice m k ls) j e =
    chained (λ i. merged_with Plain i ls) (λ i. merged_with Reception i ls) (merged_two Plain l k)
    (merged_two Reception l k) (λ i. with i ls) (two l k) j e

all : (ls : LocalBranches) → KeepsValue (merged Plain ls) (merged Reception ls)
all NoChoice l e = e
all (Choice m k ls) l e = with k ls l e

kept_choice : (m : Message) (o u : Option LocalTree) (ls ks : Option LocalBranches) → KeepsValue o u → KeepsValue ls ks
    → KeepsValue (with_choice m o ls) (with_choice m u ks)
kept_choice m None u ls ks h k y e = absurd (cc)
kept_choice m (Some l) u None ks h k y e = absurd (cc)
kept_choice m (Some l) u (Some ls) ks h k y e = (λ i. with_choice m (h l refl i) (k ls refl i)) ∙ e

-- a communication as a role sees it
seen : (r p q : List ℕ) (o u : Option LocalBranches) → KeepsValue o u
    → KeepsValue (seen_by Plain r p q o) (seen_by Reception r p q u)
seen r p q o u h l e = by (bytes_eq r p) (bytes_eq r q) e
  where
    by : (a b : Bool)
        → (if a then option_map (Send q) o else (if b then option_map (Recv p) o else option_and_then (merged Plain) o))
        ≡ Some l
        → (if a then option_map (Send q) u
        else (if b then option_map (Recv p) u else option_and_then (merged Reception) u)) ≡ Some l
    by true b f = map_kept (Send q) o u h l f
    by false true f = map_kept (Recv p) o u h l f
    by false false f = chained (merged Plain) (merged Reception) o u all h l f

kept_recursion : (c : Bool) (o u : Option LocalTree) → KeepsValue o u
    → KeepsValue (if c then Some LocalEnd else option_map LocalRec o) (if c then Some LocalEnd else option_map LocalRec u)
kept_recursion true o u h l e = e
kept_recursion false o u h l e = map_kept LocalRec o u h l e

mutual
  -- what the plain profile projects, the reception profile projects to the same local type
  pub keeps_plain_projections : (r : List ℕ) (g : GlobalTree) (l : LocalTree) → projection Plain r g ≡ Some l
      → projection Reception r g ≡ Some l
  keeps_plain_projections r GlobalEnd l e = e
  keeps_plain_projections r (GlobalVar n) l e = e
  keeps_plain_projections r (GlobalRec g) l e =
      kept_recursion (is_closed (GlobalRec g) && not (occurs r g)) (projection Plain r g) (projection Reception r g)
      (λ k f. keeps_plain_projections r g k f) l e
  keeps_plain_projections r (Comm p q bs) l e =
      seen r p q (branch_projections Plain r bs) (branch_projections Reception r bs)
      (λ ls f. keeps_plain_branches r bs ls f) l e
  keeps_plain_projections r (Flight p q j bs) l e = e

  keeps_plain_branches : (r : List ℕ) (bs : GlobalBranches) (ls : LocalBranches)
      → branch_projections Plain r bs ≡ Some ls → branch_projections Reception r bs ≡ Some ls
  keeps_plain_branches r NoBranch ls e = e
  keeps_plain_branches r (Branch m g bs) ls e =
      kept_choice m (projection Plain r g) (projection Reception r g) (branch_projections Plain r bs)
      (branch_projections Reception r bs) (λ l f. keeps_plain_projections r g l f)
      (λ ks f. keeps_plain_branches r bs ks f) ls e
