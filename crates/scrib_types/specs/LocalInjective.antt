-- Two local types with the same tree are the same.
use Rattle.std.specs.Prelude.{◌≡◌, List, [], ◌∷◌, map, refl}
use Rattle.std.proofs.Common.{ap, sym, ◌∙◌, subst}
use Rattle.scrib_types.specs.declared.message.Message.{Message}
use Rattle.scrib_types.specs.declared.local.Local as local
use Rattle.scrib_types.specs.declared.local.Local.{Local, roll-Local, ind-Local, map-Local}
use Rattle.scrib_types.specs.declared.local.Local.TheOpen.{Local-F}
use Rattle.scrib_types.specs.declared.local.Local.TheVariants.{rolls-End, rolls-Var, rolls-Rec, rolls-Send, rolls-Recv}
use Rattle.scrib_types.specs.Trees.{LocalTree, LocalEnd, LocalVar, LocalRec, Send, Recv, LocalBranches, NoChoice, Choice}
use Rattle.scrib_types.specs.LocalView.{local_of, local_branches, local_end, local_var, local_rec, local_send, local_recv}

-- the local type of a tree
mutual
  tree_to_type : LocalTree → Local
  tree_to_type LocalEnd = local.End
  tree_to_type (LocalVar n) = local.Var n
  tree_to_type (LocalRec l) = local.Rec (tree_to_type l)
  tree_to_type (Send q ls) = local.Send q (tree_to_branches ls)
  tree_to_type (Recv p ls) = local.Recv p (tree_to_branches ls)

  tree_to_branches : LocalBranches → List (Message × Local)
  tree_to_branches NoChoice = []
  tree_to_branches (Choice m l ls) = (m, tree_to_type l) ∷ tree_to_branches ls

abbrev LocalRoundTrips : Local → Type 0
LocalRoundTrips l = tree_to_type (local_of l) ≡ l

local_branches_round_trip : (es : List (Message × ((l : Local) × LocalRoundTrips l)))
    → let bs : List (Message × Local) = map (λ e. (e.0, e.1.0)) es in tree_to_branches (local_branches bs) ≡ bs
unfolding tree_to_branches
local_branches_round_trip [] = refl
local_branches_round_trip (e ∷ es) = λ i. (e.0, e.1.1 i) ∷ local_branches_round_trip es i

local_round_trip : (y : Local-F ((l : Local) × LocalRoundTrips l))
    → LocalRoundTrips (roll-Local (map-Local ((l : Local) × LocalRoundTrips l) Local (λ e. e.0) y))
unfolding tree_to_type
local_round_trip Local-F.End = rw (rolls-End, local_end) refl
local_round_trip (Local-F.Var n) = rw (rolls-Var, local_var) refl
local_round_trip (Local-F.Rec e) =
    subst LocalRoundTrips (sym (rolls-Rec e.0)) (ap tree_to_type (local_rec e.0) ∙ ap local.Rec e.1)
local_round_trip (Local-F.Send q es) =
    let bs : List (Message × Local) = map (λ e. (e.0, e.1.0)) es in
    subst LocalRoundTrips (sym (rolls-Send q bs))
    (ap tree_to_type (local_send q bs) ∙ ap (local.Send q) (local_branches_round_trip es))
local_round_trip (Local-F.Recv p es) =
    let bs : List (Message × Local) = map (λ e. (e.0, e.1.0)) es in
    subst LocalRoundTrips (sym (rolls-Recv p bs))
    (ap tree_to_type (local_recv p bs) ∙ ap (local.Recv p) (local_branches_round_trip es))

local_round_trips : (l : Local) → LocalRoundTrips l
local_round_trips = ind-Local LocalRoundTrips (λ x y is. subst (λ z. LocalRoundTrips (roll-Local z)) is (local_round_trip y))

-- one tree, one local type
pub local_of-injective : (a b : Local) → local_of a ≡ local_of b → a ≡ b
local_of-injective a b e = sym (local_round_trips a) ∙ ap tree_to_type e ∙ local_round_trips b
